-- The checksum of an authenticator, of type 0x8003 (RFC 4121, section 4.1.1): which bytes it is, and what is wrong with others.
use Rattle.std.specs.Prelude.{◌≡◌, ◌≢◌, ℕ, ℤ, pos, ◌/◌, ◌%◌, ◌^◌, ◌<◌, ◌≤◌, List, ◌++◌, length, take, codes, Option, Some, None}
use Rattle.std.specs.Int.{w16, w32, to_le_bytes}
use Rattle.std.specs.Fmt.{decimal}
use Rattle.std.specs.Borrow.{Bor}
use Rattle.krb_gss.specs.declared.flags.ContextFlag.{ContextFlag}
use Rattle.krb_gss.specs.declared.flags.ContextFlag.TheVariants.{Delegation, Mutual, Replay, Sequence, Confidentiality, Integrity}
use Rattle.krb_gss.specs.declared.checksum.Checksum.{Checksum}
use Rattle.krb_gss.specs.declared.checksum.ChecksumFault.{ChecksumFault}
use Rattle.krb_gss.specs.declared.checksum.ChecksumFault.TheVariants.{Truncated, BindingsLength, DelegationOption}

-- the flags' values (section 4.1.1.1)
abbrev pub bit_of : ContextFlag → ℕ
bit_of Delegation = 1
bit_of Mutual = 2
bit_of Replay = 4
bit_of Sequence = 8
bit_of Confidentiality = 16
bit_of Integrity = 32

-- the flag is set
abbrev pub HasFlag : ℕ → ContextFlag → Type 0
HasFlag flags flag = flags / bit_of flag % 2 ≡ 1

-- what a checksum says
pub record Content : Type 0 where
  pub flags : ℕ
  pub bindings : List ℕ
  pub delegation : Option (List ℕ)
  pub extensions : List ℕ

abbrev pub bytes_if : Option (Bor (List ℕ)) → Option (List ℕ)
bytes_if None = None
bytes_if (Some message) = Some message.now

abbrev pub content_of : Checksum → Content
content_of c = record { flags = c.flags.0; bindings = c.bindings; delegation = bytes_if c.delegation; extensions = c.extensions.now }

-- the type of this checksum
abbrev pub checksum_type : ℤ
checksum_type = pos 0x8003

-- Lgth, which is 16, Bnd and Flags, and what is after them
abbrev pub with_front : ℕ → List ℕ → List ℕ → List ℕ
with_front flags bindings after = to_le_bytes w32 16 ++ (bindings ++ (to_le_bytes w32 flags ++ after))

pub record HasFront (flags : ℕ) (bindings after bytes : List ℕ) : Type 0 where
  pub number : flags < 2 ^ 32
  pub sixteen : length bindings ≡ 16
  pub whole : bytes ≡ with_front flags bindings after

-- DlgOpt, which is 1, Dlgth and Deleg, which are there exactly if the flag says so; and after them the extensions
abbrev pub HasDelegation : ℕ → Option (List ℕ) → List ℕ → List ℕ → Type 0
HasDelegation flags None extensions bytes = (HasFlag flags Delegation → ⊥) × (bytes ≡ extensions)
HasDelegation flags (Some message) extensions bytes =
    HasFlag flags Delegation × (length message < 2 ^ 16)
    × (bytes ≡ to_le_bytes w16 1 ++ (to_le_bytes w16 (length message) ++ (message ++ extensions)))

-- the bytes are the checksum that says this
pub record IsChecksum (c : Content) (bytes : List ℕ) : Type 0 where
  pub after : List ℕ
  pub front : HasFront c.flags c.bindings after bytes
  pub delegation : HasDelegation c.flags c.delegation c.extensions after

-- the rule that is broken
pub data IsChecksumFault (bytes : List ℕ) (fault : ChecksumFault) : Type 0 where
  cut_front : length bytes < 24 → fault ≡ Truncated → IsChecksumFault bytes fault
  other_length : 24 ≤ length bytes → take 4 bytes ≢ to_le_bytes w32 16 → fault ≡ BindingsLength → IsChecksumFault bytes fault
  cut_option : (flags : ℕ) (bindings after : List ℕ) → HasFront flags bindings after bytes → HasFlag flags Delegation
      → length after < 4 → fault ≡ Truncated → IsChecksumFault bytes fault
  other_option : (flags : ℕ) (bindings after : List ℕ) → HasFront flags bindings after bytes → HasFlag flags Delegation
      → 4 ≤ length after → take 2 after ≢ to_le_bytes w16 1 → fault ≡ DelegationOption → IsChecksumFault bytes fault
  cut_message : (flags : ℕ) (bindings after : List ℕ) (size : ℕ) (message : List ℕ) → HasFront flags bindings after bytes
      → HasFlag flags Delegation → size < 2 ^ 16 → after ≡ to_le_bytes w16 1 ++ (to_le_bytes w16 size ++ message)
      → length message < size → fault ≡ Truncated → IsChecksumFault bytes fault

-- there is a delegation exactly if the flag says so
abbrev pub AgreesWithFlag : ℕ → Option (List ℕ) → Type 0
AgreesWithFlag flags None = HasFlag flags Delegation → ⊥
AgreesWithFlag flags (Some message) = HasFlag flags Delegation

-- the delegation is too long for Dlgth
abbrev pub IsTooLong : Option (List ℕ) → Type 0
IsTooLong None = ⊥
IsTooLong (Some message) = 2 ^ 16 ≤ length message

-- what is shown of a printed checksum: its flags alone, since its delegation may be a readable credential
abbrev pub shown : ℕ → List ℕ
shown flags = codes "Checksum(flags " ++ (decimal flags ++ codes ")")
