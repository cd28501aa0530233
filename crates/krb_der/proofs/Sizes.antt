-- How long spellings are, and that there is one.
use Rattle.std.proofs.Common.{◌≡◌, ℕ, zero, suc, ◌+◌, ◌*◌, ◌^◌, ◌<◌, ◌≤◌, ℤ, pos, negsuc, List, [], ◌∷◌, length, refl, sym, ap, ◌∙◌, arith, length-append}
use Rattle.std.specs.Prelude.{FitsSigned}
use Rattle.std.specs.Int.{w32}
use Rattle.std.proofs.lemmas.Bool.{lt-ltb}
use Rattle.std.proofs.lemmas.Bool.Decides.{nat_tests}
use Rattle.std.proofs.lemmas.Int.{ints}
use Rattle.std.proofs.Math.Nat.{mul-le-mul_right}
use Rattle.krb_der.specs.Whole.{AreBytes, number, IsShortest, IsNatural, turned, IsInteger, natural_size, integer_size}
use Rattle.krb_der.specs.Spells.{IsLength, short, long, IsElement, IsJoined}
use Rattle.krb_der.specs.Size.{length_size, element_size}
use Rattle.krb_der.proofs.Numbers.{number_below, length-turned, turned-turned}
use Rattle.krb_der.proofs.LengthLaws.{number_injective, number_least}
use Rattle.krb_der.proofs.IntegerLaws.{natural_least, natural_few}

-- ---- lengths
many_digits : (k n : ℕ) → k < 4 → 128 ≤ n → 256 ^ k ≤ n → n < 256 ^ suc k → length_size n ≡ 2 + k
many_digits zero n few big least most = grind (arith, nat_tests)
many_digits (suc zero) n few big least most = grind (arith, nat_tests)
many_digits (suc (suc zero)) n few big least most = grind (arith, nat_tests)
many_digits (suc (suc (suc zero))) n few big least most = grind (arith, nat_tests)
many_digits (suc (suc (suc (suc k)))) n few big least most = absurd (omega arith)

pub length_sized : (n : ℕ) (size : List ℕ) → IsLength n size → length size ≡ length_size n
length_sized n size (short lt e) = ap length e ∙ sym (rw (lt-ltb n 128 lt) refl)
length_sized n size (long [] w four are first big value) = absurd (omega (arith, value))
length_sized n size (long (d ∷ ds) w four are first big value) =
    let few : length ds < 4 = omega (arith, four) in
    let many = many_digits (length ds) n few big (omega (arith, number_least d ds first, value)) (omega (arith, number_below (d ∷ ds) are, value)) in
    omega (arith, ap length w, many)

pub IsLength-unique : (n : ℕ) (a b : List ℕ) → IsLength n a → IsLength n b → a ≡ b
IsLength-unique n a b (short lt e) (short lt' e') = e ∙ sym e'
IsLength-unique n a b (short lt e) (long ds w four are first big value) = absurd (omega arith)
IsLength-unique n a b (long ds w four are first big value) (short lt e) = absurd (omega arith)
IsLength-unique n a b (long ds w four are first big value) (long es w' four' are' first' big' value') =
    let one = length_sized n a (long ds w four are first big value) in
    let other = length_sized n b (long es w' four' are' first' big' value') in
    let same = number_injective ds es (omega (arith, one, other, ap length w, ap length w')) are are' (value ∙ sym value') in
    w ∙ ap (λ (xs : List ℕ). (0x80 + length xs) ∷ xs) same ∙ sym w'

-- ---- whole numbers
many_bytes : (k n : ℕ) → k < 4 → 128 * 256 ^ k ≤ n → n < 128 * 256 ^ suc k → natural_size n ≡ 2 + k
many_bytes zero n few least most = grind (arith, nat_tests)
many_bytes (suc zero) n few least most = grind (arith, nat_tests)
many_bytes (suc (suc zero)) n few least most = grind (arith, nat_tests)
many_bytes (suc (suc (suc zero))) n few least most = grind (arith, nat_tests)
many_bytes (suc (suc (suc (suc k)))) n few least most = absurd (omega arith)

-- a first byte below 128
number_under : (x : ℕ) (xs : List ℕ) → x < 128 → AreBytes xs → number (x ∷ xs) < 128 * 256 ^ length xs
number_under x xs lt are =
    let few : x ≤ 127 = omega arith in
    let first : x * 256 ^ length xs ≤ 127 * 256 ^ length xs = mul-le-mul_right (256 ^ length xs) few in
    omega (arith, first, number_below xs are)

pub natural_sized : (n : ℕ) (content : List ℕ) → IsNatural n content → n < 2 ^ 39 → length content ≡ natural_size n
natural_sized n content h lt = by content h.bytes h.shortest h.value (natural_few n content h lt)
  where
    by : (c : List ℕ) → AreBytes c → IsShortest c → number c ≡ n → length c ≤ 5 → length c ≡ natural_size n
    by [] are s e few = absurd s
    by (x ∷ []) are s e few = sym (rw (lt-ltb n (2 ^ 7) (omega (arith, s, e))) refl)
    by (x ∷ y ∷ ys) are s e few =
        let many = many_bytes (length ys) n (omega arith) (omega (arith, natural_least x y ys s, e)) (omega (arith, number_under x (y ∷ ys) s.0 are.1, e)) in
        omega (arith, many)

pub integer_sized : (z : ℤ) (content : List ℕ) → IsInteger z content → FitsSigned w32 z → length content ≡ integer_size z
integer_sized (pos n) content h fits = natural_sized n content h (omega (arith, ints, fits))
integer_sized (negsuc m) content h fits = sym (length-turned content) ∙ natural_sized m _ h.1 (omega (arith, ints, fits))

pub natural_unique : (n : ℕ) (a b : List ℕ) → n < 2 ^ 39 → IsNatural n a → IsNatural n b → a ≡ b
natural_unique n a b lt h k = number_injective a b (natural_sized n a h lt ∙ sym (natural_sized n b k lt)) h.bytes k.bytes (h.value ∙ sym k.value)

pub integer_unique : (z : ℤ) (a b : List ℕ) → FitsSigned w32 z → IsInteger z a → IsInteger z b → a ≡ b
integer_unique (pos n) a b fits h k = natural_unique n a b (omega (arith, ints, fits)) h k
integer_unique (negsuc m) a b fits h k =
    sym (turned-turned a h.0) ∙ ap turned (natural_unique m (turned a) (turned b) (omega (arith, ints, fits)) h.1 k.1) ∙ turned-turned b k.0

-- ---- elements, and one part after another
-- each spelling of a part has so many bytes
abbrev pub HasSize : (List ℕ → Type 0) → ℕ → Type 0
HasSize Part n = (bytes : List ℕ) → Part bytes → length bytes ≡ n

pub element_sized : (tag : ℕ) (IsContent : List ℕ → Type 0) (n : ℕ) → HasSize IsContent n → HasSize (IsElement tag IsContent) (element_size n)
element_sized tag IsContent n sized bytes h =
    let content = sized h.content h.content_is in
    let size : length h.size ≡ length_size n = length_sized (length h.content) h.size h.length_is ∙ ap length_size content in
    omega (arith, ap length h.whole, length-append h.size h.content, content, size)

pub element-longer : (n : ℕ) → n + 2 ≤ element_size n
element-longer n = grind (arith, nat_tests)

pub joined_sized : (First Rest : List ℕ → Type 0) (m n : ℕ) → HasSize First m → HasSize Rest n → HasSize (IsJoined First Rest) (m + n)
joined_sized First Rest m n one rest bytes h =
    omega (arith, ap length h.whole, length-append h.front h.back, one h.front h.first, rest h.back h.rest)
