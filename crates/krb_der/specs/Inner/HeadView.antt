-- What contracts see of a head, of room that is left for one, and of bytes whose end is moved.
use Rattle.std.specs.Prelude.{◌≡◌, ℕ, ◌+◌, ◌-◌, ◌/◌, ◌%◌, ◌^◌, nat_lt, if◌then◌else◌, List, [], ◌∷◌, ◌++◌, take, drop}
use Rattle.krb_der.specs.Spells.{IsLength}

-- the bytes are the head of an element with the tag and a content of n bytes
pub record IsHeadOf (tag n : ℕ) (bytes : List ℕ) : Type 0 where
  pub size : List ℕ
  pub length_is : IsLength n size
  pub whole : bytes ≡ tag ∷ size

-- the head as the code writes it
abbrev pub head_bytes : ℕ → ℕ → List ℕ
head_bytes tag n =
    if nat_lt n 128 then tag ∷ n % 256 ∷ []
    else if nat_lt n (2 ^ 8) then tag ∷ 0x81 ∷ n % 256 ∷ []
    else if nat_lt n (2 ^ 16) then tag ∷ 0x82 ∷ n / 256 % 256 ∷ n % 256 ∷ []
    else if nat_lt n (2 ^ 24) then tag ∷ 0x83 ∷ n / 65536 % 256 ∷ n / 256 % 256 ∷ n % 256 ∷ []
    else tag ∷ 0x84 ∷ n / 16777216 % 256 ∷ n / 65536 % 256 ∷ n / 256 % 256 ∷ n % 256 ∷ []

-- what stood from `end` on now stands at `start`
unfoldable pub turned_at : ℕ → ℕ → List ℕ → List ℕ
turned_at start end bytes = take start bytes ++ (drop end bytes ++ take (end - start) (drop start bytes))

-- the bytes without the two of the room at `start`
abbrev pub without_room : ℕ → List ℕ → List ℕ
without_room start bytes = take start bytes ++ drop (start + 2) bytes

-- the head is where the two bytes of room were, and after it what stood between them and `end`
unfoldable pub filled_at : ℕ → List ℕ → ℕ → List ℕ → List ℕ
filled_at start head end bytes = take start bytes ++ (head ++ take (end - (start + 2)) (drop (start + 2) bytes))
