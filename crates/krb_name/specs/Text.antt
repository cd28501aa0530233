-- The text of a principal: components, `@` and realm, with a backslash before what would be read
-- otherwise. A name of printable bytes has the text that RFC 1964, section 2.1.1, gives it. Any other
-- byte is written in hexadecimal.
use Rattle.std.specs.Prelude.{ℕ, ◌+◌, ◌/◌, ◌%◌, ◌==◌, Bool, ◌||◌, ◌&&◌, List, [], ◌∷◌, ◌++◌, map, nat_lt, nat_le, if◌then◌else◌}
use Rattle.std.specs.List.{flat_map, join_with_byte}
use Rattle.krb_name.specs.declared.principal.Principal.{Principal}

-- `/`, `@` and `\`
abbrev pub is_special : ℕ → Bool
is_special byte = byte == 0x2f || byte == 0x40 || byte == 0x5c

-- the bytes from `!` to `~`
abbrev pub is_printable : ℕ → Bool
is_printable byte = nat_le 0x21 byte && nat_le byte 0x7e

-- `0` to `9` and `a` to `f`
abbrev pub hex_digit : ℕ → ℕ
hex_digit digit = if nat_lt digit 10 then 0x30 + digit else 0x57 + digit

-- `\x` and two digits
abbrev pub hex_escape : ℕ → List ℕ
hex_escape byte = 0x5c ∷ 0x78 ∷ hex_digit (byte / 16) ∷ hex_digit (byte % 16) ∷ []

-- a byte of a realm or a component
abbrev pub escaped_byte : ℕ → List ℕ
escaped_byte byte =
    if is_special byte
    then 0x5c ∷ byte ∷ []
    else (if is_printable byte then byte ∷ [] else hex_escape byte)

abbrev pub escaped : List ℕ → List ℕ
escaped bytes = flat_map escaped_byte bytes

-- the components with `/` between each two, then `@` and the realm
abbrev pub text_of : Principal → List ℕ
text_of principal = join_with_byte 0x2f (map escaped principal.components) ++ 0x40 ∷ escaped principal.realm
