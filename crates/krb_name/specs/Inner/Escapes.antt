-- How a byte of a realm or a component is read off a text.
use Rattle.std.specs.Prelude.{ℕ, ◌+◌, ◌-◌, ◌*◌, ◌==◌, ◌&&◌, not, List, [], ◌∷◌, Option, Some, None, nat_le, if◌then◌else◌}
use Rattle.krb_file.specs.Cursor.{◌>>=◌}
use Rattle.krb_name.specs.Text.{is_special, is_printable}

-- the value of a digit from `0` to `9` or `a` to `f`
unfoldable pub hex_value : ℕ → Option ℕ
hex_value digit =
    if nat_le 0x30 digit && nat_le digit 0x39
    then Some (digit - 0x30)
    else (if nat_le 0x61 digit && nat_le digit 0x66 then Some (digit - 0x57) else None)

-- the byte of two digits, where it isn't printable
unfoldable pub hex_byte : ℕ → ℕ → Option ℕ
hex_byte high low = do
  h ← hex_value high
  l ← hex_value low
  if is_printable (h * 16 + l) then None else Some (h * 16 + l)

-- what stands after `\x`
unfoldable pub hex_at : List ℕ → Option (ℕ × List ℕ)
hex_at [] = None
hex_at (high ∷ []) = None
hex_at (high ∷ low ∷ rest) = do
  byte ← hex_byte high low
  Some (byte, rest)

-- what stands after a backslash
unfoldable pub escape_at : List ℕ → Option (ℕ × List ℕ)
escape_at [] = None
escape_at (first ∷ rest) =
    if is_special first then Some (first, rest) else (if first == 0x78 then hex_at rest else None)

-- a byte of a name, and what is after it
unfoldable pub byte_at : List ℕ → Option (ℕ × List ℕ)
byte_at [] = None
byte_at (first ∷ rest) =
    if first == 0x5c
    then escape_at rest
    else (if is_printable first && not (is_special first) then Some (first, rest) else None)
