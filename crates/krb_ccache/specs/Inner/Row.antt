-- Rows of fields: what their bytes say, how they are read, and how they are spelled.
use Rattle.std.specs.Prelude.{◌≡◌, ℕ, ◌+◌, ◌<◌, ◌^◌, ℤ, Bool, true, List, ◌++◌, length, Option, FitsSigned}
use Rattle.std.specs.Int.{w8, w16, w32}
use Rattle.krb_file.specs.Cursor.{Place, bytes_at, number_at, signed_at, data_at, number_bytes, signed_bytes, data_bytes}
use Rattle.krb_ccache.specs.Types.{Principal, TypedBytes, Layout}
use Rattle.krb_ccache.specs.Spelling.{name_bytes, list_bytes}
use Rattle.krb_ccache.specs.Value.{FitsName, FitsList}
use Rattle.krb_ccache.specs.Format.{second_size}
use Rattle.krb_ccache.specs.Inner.Reading.{both_at, name_at, list_at, is_flag, allowed, byte_at}

-- a field: a principal, bytes after their length, a list, the byte of a flag, a number of 32 bits, a
-- signed one of 16, or the second copy of an encryption type; or one field and then others
pub data Row : Type 0 where
  name_field : Row
  data_field : Row
  list_field : Row
  flag_field : Row
  number_field : Row
  signed_field : Row
  second_field : Row
  both_fields : Row → Row → Row

-- what the bytes of one field say, and those of the others
infixr 5 ◌▸◌
abbrev pub ◌▸◌ : {X Y : Type 0} → X → Y → X × Y
one ▸ others = (one, others)

-- what the bytes of a row say
abbrev pub Raw : Row → Type 0
Raw name_field = Principal
Raw data_field = List ℕ
Raw list_field = List TypedBytes
Raw flag_field = ℕ
Raw number_field = ℕ
Raw signed_field = ℤ
Raw second_field = List ℕ
Raw (both_fields one other) = Raw one × Raw other

-- how it is read, with its flags checked or not
abbrev pub row_at : (row : Row) → Bool → Layout → Place → Option (Raw row × Place)
row_at name_field strict layout = name_at
row_at data_field strict layout = data_at w32
row_at list_field strict layout = list_at
row_at flag_field strict layout = byte_at strict
row_at number_field strict layout = number_at w32
row_at signed_field strict layout = signed_at w16
row_at second_field strict layout = bytes_at (second_size layout)
row_at (both_fields one other) strict layout = both_at (row_at one strict layout) (row_at other strict layout)

-- how it is spelled
abbrev pub row_bytes : (row : Row) → Raw row → List ℕ
row_bytes name_field name = name_bytes name
row_bytes data_field bytes = data_bytes w32 bytes
row_bytes list_field list = list_bytes list
row_bytes flag_field byte = number_bytes w8 byte
row_bytes number_field number = number_bytes w32 number
row_bytes signed_field number = signed_bytes w16 number
row_bytes second_field bytes = bytes
row_bytes (both_fields one other) raw = row_bytes one raw.0 ++ row_bytes other raw.1

-- what can be read
abbrev pub FitsRow : (row : Row) → Bool → Layout → Raw row → Type 0
FitsRow name_field strict layout name = FitsName name
FitsRow data_field strict layout bytes = length bytes < 2 ^ 32
FitsRow list_field strict layout list = FitsList list
FitsRow flag_field strict layout byte = (byte < 2 ^ 8) × (allowed strict (is_flag byte) ≡ true)
FitsRow number_field strict layout number = number < 2 ^ 32
FitsRow signed_field strict layout number = FitsSigned w16 number
FitsRow second_field strict layout bytes = length bytes ≡ second_size layout
FitsRow (both_fields one other) strict layout raw = FitsRow one strict layout raw.0 × FitsRow other strict layout raw.1

-- when a row was taken, at most so many bytes of it are left, beyond what was left before it and
-- beyond a length
abbrev pub most_left : Row → ℕ
most_left (both_fields one other) = most_left one + most_left other
most_left _ = 12
