-- What is read at a place in the bytes of a file. Numbers are big-endian, signed ones in two's
-- complement.
use Rattle.std.specs.Prelude.{ℕ, zero, suc, ◌+◌, ℤ, List, [], ◌∷◌, ◌++◌, length, take, drop, Option, Some, None, option_and_then, nat_le, if◌then◌else◌}
use Rattle.std.specs.Int.{Width, byte_len, to_be_bytes, from_be_bytes, cast_signed, cast_unsigned}

-- how many bytes come before a place, and the bytes from there on
pub record Place : Type 0 where
  pub at : ℕ
  pub rest : List ℕ

-- one field is read, and then what comes after it
infixl 10 ◌>>=◌
abbrev pub ◌>>=◌ : {A B : Type 0} → Option A → (A → Option B) → Option B
read >>= others = option_and_then others read

-- ---- what is read, and the place after it; nothing, if the bytes end before

unfoldable pub bytes_at : ℕ → Place → Option (List ℕ × Place)
bytes_at count place =
    if nat_le count (length place.rest)
    then Some (take count place.rest, record { at = place.at + count; rest = drop count place.rest })
    else None

unfoldable pub number_at : Width → Place → Option (ℕ × Place)
number_at w place = do
  read ← bytes_at (byte_len w) place
  Some (from_be_bytes w read.0, read.1)

unfoldable pub signed_at : Width → Place → Option (ℤ × Place)
signed_at w place = do
  read ← number_at w place
  Some (cast_signed w read.0, read.1)

-- bytes after their length, a number of this width
unfoldable pub data_at : Width → Place → Option (List ℕ × Place)
data_at w place = do
  count ← number_at w place
  bytes_at count.0 count.1

-- so many fields of one kind, one after another
unfoldable pub times_at : {X : Type 0} → (Place → Option (X × Place)) → ℕ → Place → Option (List X × Place)
times_at read zero place = Some ([], place)
times_at read (suc count) place = do
  first ← read place
  others ← times_at read count first.1
  Some (first.0 ∷ others.0, others.1)

-- ---- how it is spelled

abbrev pub number_bytes : Width → ℕ → List ℕ
number_bytes w number = to_be_bytes w number

abbrev pub signed_bytes : Width → ℤ → List ℕ
signed_bytes w number = to_be_bytes w (cast_unsigned w number)

abbrev pub data_bytes : Width → List ℕ → List ℕ
data_bytes w bytes = to_be_bytes w (length bytes) ++ bytes
