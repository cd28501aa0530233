-- The elements without parts, a row for each (X.690, sections 8.3, 8.6 and 8.7; RFC 4120, section 5.2).
use Rattle.std.specs.Prelude.{◌≡◌, ℕ, ◌^◌, ◌<◌, ◌≤◌, ℤ, List, length, FitsSigned}
use Rattle.std.specs.Int.{w32}
use Rattle.krb_der.specs.declared.fault.FaultKind.{FaultKind}
use Rattle.krb_der.specs.declared.fault.FaultKind.TheVariants.{Length, Integer, Time, Flags}
use Rattle.krb_der.specs.Whole.{IsNatural, IsInteger, AreFlags, IsNegative, IsSeqNumber, natural_size, integer_size}
use Rattle.krb_time.specs.Time.{IsTime, IsSeconds}

-- what an element without parts contains
pub data Content : Type 0 where
  int32 uint32 seq_number microseconds octets string flags time : Content
  -- this whole number alone
  constant : ℕ → Content

-- Numbers are numbers, texts are lists of bytes, flags are a number of 32 bits whose bit 0 is the
-- most significant, and a time is the seconds since 1970-01-01T00:00:00Z.
abbrev pub ContentValue : Content → Type 0
ContentValue int32 = ℤ
ContentValue uint32 = ℕ
ContentValue seq_number = ℕ
ContentValue microseconds = ℕ
ContentValue (constant n) = Unit {0}
ContentValue octets = List ℕ
ContentValue string = List ℕ
ContentValue flags = ℕ
ContentValue time = ℤ

pub record Leaf (V : Type 0) : Type 1 where
  pub tag : ℕ
  -- the fault if a content spells no value
  pub fault : FaultKind
  -- Which contents are read as which values, and which are written. A sequence number can also be
  -- read from that of a negative number.
  pub Reads : V → List ℕ → Type 0
  pub Writes : V → List ℕ → Type 0
  pub ReadsNegative : V → List ℕ → Type 0
  -- the values that are in range (RFC 4120, section 5.2.4), and how many bytes are written for one
  pub Fits : V → Type 0
  pub size : V → ℕ
  -- how many sequence numbers there are, and whether that of a value is above 2147483647
  pub numbers : ℕ
  pub IsHigh : V → Type 0

-- a leaf whose values have one content each
abbrev pub plain : {V : Type 0} → ℕ → FaultKind → (V → List ℕ → Type 0) → (V → Type 0) → (V → ℕ) → Leaf V
plain tag fault Is Fits size =
    record { tag = tag; fault = fault; Reads = Is; Writes = Is; ReadsNegative = Is; Fits = Fits; size = size; numbers = 0; IsHigh = λ v. ⊥ }

-- whole numbers from 0 to below the bound
abbrev pub natural_leaf : ℕ → Leaf ℕ
natural_leaf bound = plain 0x02 Integer (λ n content. (n < bound) × IsNatural n content) (λ n. n < bound) natural_size

-- the bytes themselves
abbrev pub bytes_leaf : ℕ → Leaf (List ℕ)
bytes_leaf tag = plain tag Length (λ v content. content ≡ v) (λ v. Unit {0}) length

-- The universal tags are INTEGER, OCTET STRING, GeneralString, BIT STRING and GeneralizedTime.
abbrev pub leaf_of : (c : Content) → Leaf (ContentValue c)
leaf_of int32 = plain 0x02 Integer (λ z content. FitsSigned w32 z × IsInteger z content) (FitsSigned w32) integer_size
leaf_of uint32 = natural_leaf (2 ^ 32)
leaf_of seq_number =
    record (natural_leaf (2 ^ 32)) { Reads = IsSeqNumber; ReadsNegative = IsNegative; numbers = 1; IsHigh = λ n. 2 ^ 31 ≤ n }
leaf_of microseconds = natural_leaf 1_000_000
leaf_of (constant n) = plain 0x02 Integer (λ v content. (n < 2 ^ 32) × IsNatural n content) (λ v. n < 2 ^ 32) (λ v. natural_size n)
leaf_of octets = bytes_leaf 0x04
leaf_of string = bytes_leaf 0x1b
leaf_of flags = plain 0x03 Flags AreFlags (λ n. n < 2 ^ 32) (λ n. 5)
leaf_of time = plain 0x18 Time IsTime IsSeconds (λ s. 15)

-- the contents that are read
abbrev pub Elementary : (c : Content) → ContentValue c → List ℕ → Type 0
Elementary c = (leaf_of c).Reads

-- the contents that are written
abbrev pub Written : (c : Content) → ContentValue c → List ℕ → Type 0
Written c = (leaf_of c).Writes

-- the contents with sequence numbers as negative numbers
abbrev pub Negated : (c : Content) → ContentValue c → List ℕ → Type 0
Negated c = (leaf_of c).ReadsNegative
