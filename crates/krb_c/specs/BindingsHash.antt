-- The hash of channel bindings (RFC 4121, section 4.1.1.2), for an application's data and no addresses: the MD5
-- of the fields of gss_channel_bindings_struct, in their order (RFC 2744, section 3.11). Each number is 4 bytes, low
-- byte first, and each text comes after its length.
use Rattle.std.specs.Prelude.{◌≡◌, ◌<◌, ◌≤◌, ◌^◌, ℕ, List, ◌++◌, length}
use Rattle.std.specs.Int.{w32, to_le_bytes}
use Rattle.md5.specs.Md5.{md5}
use Rattle.krb_c.specs.Answer.{Hands, plain}
use Rattle.krb_c.specs.Codes.{too_long}
use Rattle.krb_c.specs.declared.structs.Answer.{Answer}

abbrev pub number : ℕ → List ℕ
number n = to_le_bytes w32 n

-- the type of an address and its length: GSS_C_AF_UNSPEC, and no bytes
abbrev pub no_address : List ℕ
no_address = number 0 ++ number 0

-- the initiator's address, the acceptor's, and the application's data
abbrev pub bindings_text : List ℕ → List ℕ
bindings_text application = no_address ++ (no_address ++ (number (length application) ++ application))

abbrev pub bindings_hash : List ℕ → List ℕ
bindings_hash application = md5 (bindings_text application)

-- it is returned, or the data's length has no number of 4 bytes
pub data HashesBindings (bytes old new : List ℕ) (answer : Answer) : Type 0 where
  hashed : length bytes < 2 ^ 32 → Hands (bindings_hash bytes) old new answer → HashesBindings bytes old new answer
  long : 2 ^ 32 ≤ length bytes → answer ≡ plain too_long → new ≡ old → HashesBindings bytes old new answer
