-- What a call answers that writes an element.
use Rattle.std.specs.Prelude.{◌≡◌, ℕ, ◌+◌, ◌<◌, ◌≤◌, List, ◌++◌, length, take, drop, Result, IfOk, OnOk, OnErr, IsErrOf, Vec}
use Rattle.krb_der.specs.declared.fault.EncodeFault.{EncodeFault}
use Rattle.krb_der.specs.declared.fault.EncodeFault.TheVariants.{TooLong}
use Rattle.krb_der.specs.Kind.{Kind, Fields, ValueOf, FieldsOf}
use Rattle.krb_der.specs.Content.{Written}
use Rattle.krb_der.specs.Spells.{IsElement, SpellsBy, SpellsFields, IsMessage, limit}
use Rattle.krb_der.specs.Size.{fields_size, size_of}

-- the bytes are those that are written for the value: its only spelling without a negative sequence
-- number
abbrev pub Writes : (k : Kind) → ValueOf k → List ℕ → Type 0
Writes k v bytes = SpellsBy Written k v bytes

-- the same for fields
abbrev pub WritesFields : (fs : Fields) → FieldsOf fs → List ℕ → Type 0
WritesFields fs v bytes = SpellsFields Written fs v bytes

-- new is old with such bytes at its end
pub record Appends (Part : List ℕ → Type 0) (old new : List ℕ) : Type 0 where
  pub bytes : List ℕ
  pub is : Part bytes
  pub whole : new ≡ old ++ bytes

-- The call appends what is written for the value. It only fails for lack of memory, and then writes
-- nothing.
pub record AppendsElement {E : Type 0} (k : Kind) (v : ValueOf k) (result : Result (Unit {0}) E) (old new : List ℕ) : Type 0 where
  pub ok : OnOk result (Appends (Writes k v) old new)
  pub kept : OnErr result (new ≡ old)

-- new is old with what was written from start on made the content of an element with the tag
pub record Wraps (tag start : ℕ) (old new : List ℕ) : Type 0 where
  pub bytes : List ℕ
  pub is : IsElement tag (λ content. content ≡ drop start old) bytes
  pub whole : new ≡ take start old ++ bytes

-- The call appends such bytes, of that number, and then there are at most as many as the limit.
-- Otherwise nothing changes; TooLong says that there would be more than the limit.
pub record Encodes (Part : List ℕ → Type 0) (size : ℕ) (result : Result (Unit {0}) EncodeFault) (old new : List ℕ) : Type 0 where
  pub ok : OnOk result (Appends Part old new × (length new ≤ limit))
  pub too_long : IsErrOf result TooLong → limit < length old + size
  pub kept : OnErr result (new ≡ old)

abbrev pub EncodesValue : (k : Kind) → ValueOf k → Result (Unit {0}) EncodeFault → List ℕ → List ℕ → Type 0
EncodesValue k v result old new = Encodes (Writes k v) (size_of k v) result old new

abbrev pub EncodesFields : (fs : Fields) → FieldsOf fs → Result (Unit {0}) EncodeFault → List ℕ → List ℕ → Type 0
EncodesFields fs v result old new = Encodes (WritesFields fs v) (fields_size fs v) result old new

-- The call answers the message that is written for the value, whose size is within the limit then.
-- TooLong says that it isn't.
pub record IsEncoded {Z : Type 0} (k : Kind) (v : ValueOf k) (result : Result (Vec ℕ Z) EncodeFault) : Type 0 where
  pub ok : IfOk result (λ bytes. IsMessage k v bytes.items)
  pub written : IfOk result (λ bytes. Writes k v bytes.items)
  pub size : IfOk result (λ bytes. length bytes.items ≡ size_of k v)
  pub fits : OnOk result (size_of k v ≤ limit)
  pub too_long : IsErrOf result TooLong → limit < size_of k v
