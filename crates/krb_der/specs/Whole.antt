-- Contents that are whole numbers or flags (X.690, sections 8.3 and 8.6), and how many bytes those of
-- whole numbers have.
use Rattle.std.specs.Prelude.{◌≡◌, ℕ, ◌+◌, ◌-◌, ◌*◌, ◌^◌, ◌<◌, ◌≤◌, ℤ, pos, negsuc, ◌-ℤ◌, ◌⊎◌, nat_lt, if◌then◌else◌, List, [], ◌∷◌, length, map}

abbrev pub AreBytes : List ℕ → Type 0
AreBytes [] = Unit {0}
AreBytes (b ∷ bytes) = (b < 256) × AreBytes bytes

-- the number that the bytes are, the most significant first
abbrev pub number : List ℕ → ℕ
number [] = 0
number (b ∷ bytes) = b * 256 ^ length bytes + number bytes

-- The first bit is 0, and the first nine bits are not all 0 (X.690, section 8.3.2).
abbrev pub IsShortest : List ℕ → Type 0
IsShortest [] = ⊥
IsShortest (a ∷ []) = a < 128
IsShortest (a ∷ b ∷ bytes) = (a < 128) × (a ≡ 0 → 128 ≤ b)

pub record IsNatural (n : ℕ) (content : List ℕ) : Type 0 where
  pub bytes : AreBytes content
  pub shortest : IsShortest content
  pub value : number content ≡ n

-- each bit inverted
abbrev pub turned : List ℕ → List ℕ
turned bytes = map (λ b. 255 - b) bytes

-- two's complement (X.690, section 8.3.3): -(m + 1), here negsuc m, is m with each bit inverted
abbrev pub IsInteger : ℤ → List ℕ → Type 0
IsInteger (pos n) content = IsNatural n content
IsInteger (negsuc m) content = AreBytes content × IsNatural m (turned content)

-- no unused bits, and 32 bits, the most significant first (X.690, section 8.6; RFC
-- 4120, section 5.2.8)
pub record AreFlags (n : ℕ) (content : List ℕ) : Type 0 where
  pub bits : List ℕ
  pub bytes : AreBytes bits
  pub four : length bits ≡ 4
  pub value : number bits ≡ n
  pub whole : content ≡ 0 ∷ bits

-- a sequence number as it is (RFC 4120, sections 5.2.4 and 5.5.1)
abbrev pub IsUnsigned : ℕ → List ℕ → Type 0
IsUnsigned n content = (n < 2 ^ 32) × IsNatural n content

-- a sequence number above 2147483647 as the negative number of the same 32 bits, as some senders
-- write it
abbrev pub IsNegative : ℕ → List ℕ → Type 0
IsNegative n content = (2 ^ 31 ≤ n) × (n < 2 ^ 32) × IsInteger (pos n -ℤ pos (2 ^ 32)) content

-- either
abbrev pub IsSeqNumber : ℕ → List ℕ → Type 0
IsSeqNumber n content = IsUnsigned n content ⊎ IsNegative n content

-- the size of the content of a whole number from 0 on (X.690, section 8.3.2): one bit for the sign,
-- and as few whole bytes as the number needs
abbrev pub natural_size : ℕ → ℕ
natural_size n =
    if nat_lt n (2 ^ 7) then 1 else if nat_lt n (2 ^ 15) then 2 else if nat_lt n (2 ^ 23) then 3 else if nat_lt n (2 ^ 31) then 4 else 5

-- negsuc m is -(m + 1), whose bits are those of m, inverted
abbrev pub integer_size : ℤ → ℕ
integer_size (pos n) = natural_size n
integer_size (negsuc m) = natural_size m
