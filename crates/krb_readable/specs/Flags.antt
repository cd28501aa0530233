-- The letters of a ticket's flags: those of MIT krb5's klist, in its order (RFC 4120, sections 2 and
-- 5.3; of bit 16 RFC 8062, section 3).
use Rattle.std.specs.Prelude.{ℕ, List, [], ◌∷◌, codes, if◌then◌else◌}
use Rattle.std.specs.List.{flat_map}
use Rattle.krb_der.specs.Flags.{has_bit}

-- forwardable, forwarded, proxiable, proxy, may-postdate, postdated, invalid, renewable, initial,
-- hw-authent, pre-authent, transited-policy-checked, ok-as-delegate and anonymous
abbrev pub letters : List (ℕ × List ℕ)
letters =
    (1, codes "F")
    ∷ (2, codes "f")
    ∷ (3, codes "P")
    ∷ (4, codes "p")
    ∷ (5, codes "D")
    ∷ (6, codes "d")
    ∷ (7, codes "i")
    ∷ (8, codes "R")
    ∷ (9, codes "I")
    ∷ (11, codes "H")
    ∷ (10, codes "A")
    ∷ (12, codes "T")
    ∷ (13, codes "O")
    ∷ (16, codes "a")
    ∷ []

-- the letter of a bit that is set, or nothing
abbrev pub letter_if_set : ℕ → ℕ × List ℕ → List ℕ
letter_if_set flags entry = if has_bit flags entry.0 then entry.1 else []

-- the text, or `-` if it is empty
abbrev pub or_dash : List ℕ → List ℕ
or_dash [] = codes "-"
or_dash (first ∷ others) = first ∷ others

-- the letters of the flags that are set
unfoldable pub flags_text : ℕ → List ℕ
flags_text flags = or_dash (flat_map (letter_if_set flags) letters)
