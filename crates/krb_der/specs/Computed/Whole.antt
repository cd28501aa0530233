-- Whole numbers and flags, read.
use Rattle.std.specs.Prelude.{ℕ, ◌+◌, ◌-◌, ◌^◌, ℤ, pos, negsuc, ◌-ℤ◌, Bool, true, false, ◌&&◌, ◌||◌, not, ◌==◌, nat_lt, nat_le, if◌then◌else◌, List, [], ◌∷◌, length, Option, Some, None}
use Rattle.krb_der.specs.Whole.{number}
use Rattle.krb_der.specs.Computed.Steps.{only_if}

abbrev pub are_bytes : List ℕ → Bool
are_bytes [] = true
are_bytes (b ∷ bytes) = nat_lt b 256 && are_bytes bytes

-- the first nine bits are one value, or there are no bits
abbrev pub is_redundant : List ℕ → Bool
is_redundant [] = true
is_redundant (a ∷ []) = false
is_redundant (a ∷ b ∷ bytes) = ((a == 0) && nat_lt b 128) || ((a == 255) && nat_le 128 b)

abbrev pub is_negative : List ℕ → Bool
is_negative [] = false
is_negative (a ∷ bytes) = nat_le 128 a

-- a whole number of at most five bytes in its shortest form
unfoldable pub whole_of : List ℕ → Option ℤ
whole_of content =
    if is_redundant content || not (are_bytes content) || nat_lt 5 (length content) then None
    else Some (if is_negative content then pos (number content) -ℤ pos (256 ^ length content) else pos (number content))

-- at least 0, and below the bound
abbrev pub natural_below : ℕ → ℤ → Option ℕ
natural_below bound (pos n) = only_if (nat_lt n bound) n
natural_below bound (negsuc m) = None

abbrev pub int32_within : ℤ → Option ℤ
int32_within (pos n) = only_if (nat_lt n (2 ^ 31)) (pos n)
int32_within (negsuc m) = only_if (nat_lt m (2 ^ 31)) (negsuc m)

-- a negative number is the one above 2147483647 of the same 32 bits
abbrev pub seq_number_within : ℤ → Option ℕ
seq_number_within (pos n) = only_if (nat_lt n (2 ^ 32)) n
seq_number_within (negsuc m) = only_if (nat_lt m (2 ^ 31)) (2 ^ 32 - (m + 1))

abbrev pub constant_at : ℕ → ℤ → Option (Unit {0})
constant_at wanted (pos n) = only_if ((n == wanted) && nat_lt wanted (2 ^ 32)) tt
constant_at wanted (negsuc m) = None

unfoldable pub flags_of : List ℕ → Option ℕ
flags_of [] = None
flags_of (unused ∷ bits) = only_if ((unused == 0) && (length bits == 4) && are_bytes bits) (number bits)
