-- What is returned of an accepted request: bytes one after another, and the place of each part
-- among them.
use Rattle.std.specs.Prelude.{◌≡◌, ℕ, ℤ, pos, Bool, true, false, List, [], ◌++◌, length, Option, Some, None}
use Rattle.krb_name.specs.Text.{text_of}
use Rattle.krb_msg.specs.declared.key.RawKey.{RawKey}
use Rattle.krb_ap.specs.declared.accepted.Accepted.{Accepted}
use Rattle.krb_c.specs.Answer.{Tells, plain}
use Rattle.krb_c.specs.Codes.{nothing_there}
use Rattle.krb_c.specs.declared.structs.Answer.{Answer}
use Rattle.krb_c.specs.declared.structs.Known.{Known}
use Rattle.krb_c.specs.declared.structs.Span.{Span}

abbrev pub key_bytes : Option RawKey → List ℕ
key_bytes (Some key) = key.bytes.items
key_bytes None = []

abbrev pub key_type : Option RawKey → ℤ
key_type (Some key) = key.etype
key_type None = pos 0

abbrev pub is_there : {X : Type 0} → Option X → Bool
is_there (Some x) = true
is_there None = false

abbrev pub number_or_zero : Option ℕ → ℕ
number_or_zero (Some number) = number
number_or_zero None = 0

abbrev pub span : List ℕ → List ℕ → Span
span before bytes = record { at = length before; size = length bytes }

-- the client's text, the session key and the authenticator's subkey; and after them the text of the
-- service that was asked for
abbrev pub keys_told : Accepted → List ℕ
keys_told x = (text_of x.client ++ x.session_key.bytes) ++ key_bytes x.subkey

abbrev pub told_bytes : Accepted → List ℕ
told_bytes x = keys_told x ++ text_of x.service

abbrev pub known_of : Accepted → Known
known_of x = record {
  client = span [] (text_of x.client);
  session_key = span (text_of x.client) x.session_key.bytes;
  subkey = span (text_of x.client ++ x.session_key.bytes) (key_bytes x.subkey);
  service = span (keys_told x) (text_of x.service);
  authtime = x.authtime;
  endtime = x.endtime;
  ctime = x.ctime;
  cusec = x.cusec;
  flags = x.flags.0;
  seq = number_or_zero x.seq;
  name_type = x.client.name_type;
  service_type = x.service.name_type;
  session_type = x.session_key.etype;
  subkey_type = key_type x.subkey;
  has_subkey = is_there x.subkey;
  has_seq = is_there x.seq;
  wants_reply = x.«mutual»;
}

-- What was accepted is returned; or nothing was accepted, or memory is lacking, and that is
-- reported. The places are returned even if the buffer is too short.
abbrev pub TellsKnown : Option Accepted → Known → Known → List ℕ → List ℕ → Answer → Type 0
TellsKnown None was is old new answer = (answer ≡ plain nothing_there) × ((is ≡ was) × (new ≡ old))
TellsKnown (Some x) was is old new answer = Tells (told_bytes x) (known_of x) was is old new answer
