-- What it means that parts of a cache stand at a place, or don't.
use Rattle.std.specs.Prelude.{◌≡◌, ◌≢◌, ℕ, ◌<◌, ◌≤◌, ◌^◌, true, List, ◌++◌, length, All, ◌-◌, Option, SomeIff}
use Rattle.std.specs.List.{flat_map}
use Rattle.krb_file.specs.Cursor.{Place}
use Rattle.krb_file.specs.Field.{Takes}
use Rattle.krb_ccache.specs.Types.{HeaderField, Credential, Layout}
use Rattle.krb_ccache.specs.Spelling.{fields_bytes}
use Rattle.krb_ccache.specs.Value.{FitsHeader}
use Rattle.krb_ccache.specs.Inner.Reading.{is_field}
use Rattle.krb_ccache.specs.Format.{Spelled, Spells}

-- a thing that is in range lies between two places
pub record Lies {X : Type 0} (spelled : X → List ℕ) (InRange : X → Type 0) (place : Place) (x : X) (behind : Place) : Type 0 where
  pub fits : InRange x
  pub takes : Takes place (spelled x) behind

-- so many things that are in range lie between two places
pub record Reaches {X : Type 0} (spelled : X → List ℕ) (InRange : X → Type 0) (place : Place) (xs : List X) (behind : Place) : Type 0 where
  pub fit : All InRange xs
  pub takes : Takes place (flat_map spelled xs) behind

-- no thing that is in range stands at the front
abbrev pub IsMissing : {X : Type 0} → (X → List ℕ) → (X → Type 0) → List ℕ → Type 0
IsMissing {X} spelled InRange bytes = (x : X) (others : List ℕ) → InRange x → bytes ≢ spelled x ++ others

-- a field of a header fits into it
abbrev pub FitsField : HeaderField → Type 0
FitsField field = ((field.tag < 2 ^ 16) × (length field.value < 2 ^ 16)) × (is_field field ≡ true)

-- the fields fill the bytes of a header
pub record Fills (body : List ℕ) (header : List HeaderField) : Type 0 where
  pub fits : FitsHeader header
  pub whole : body ≡ fields_bytes header

abbrev pub bytes_of : Spelled → List ℕ
bytes_of one = one.bytes

-- these bytes, that spell this credential
abbrev pub spelled_as : List ℕ → Credential → Spelled
spelled_as bytes credential = record { bytes = bytes; credential = credential }

-- a credential lies between two places
abbrev pub LiesOne : Layout → Place → Credential → Place → Type 0
LiesOne layout place credential behind = (bytes : List ℕ) × Lies bytes_of (Spells layout) place (spelled_as bytes credential) behind

-- the room that so many bytes leave, if there are as many
abbrev pub Leaves : ℕ → ℕ → Option ℕ → Type 0
Leaves left size result = SomeIff result (size ≤ left) (left - size)
