-- What is written of a whole number is its content.
use Rattle.std.proofs.Common.{◌≡◌, inl, inr, ℕ, suc, ◌-◌, ◌*◌, ◌/◌, ◌%◌, ◌^◌, ◌<◌, ◌≤◌, ℤ, pos, negsuc, true, false, cond, List, [], ◌∷◌, length, get_or, w32, refl, sym, ap, subst, ◌∙◌, arith, w64, of_z}
use Rattle.std.specs.Int.{to_be_bytes, from_be_bytes}
use Rattle.std.proofs.lemmas.Bool.{leb-true, leb-false, cases_Bool, le-leb, lt-leb}
use Rattle.std.proofs.lemmas.Bool.Decides.{nat_tests}
use Rattle.std.proofs.lemmas.Int.{ints}
use Rattle.std.proofs.lemmas.Nat.{from_be_bytes-to_be_bytes_4, from_be_bytes-to_be_bytes_8}
use mir.Val.{SFits}
use Rattle.krb_der.specs.Whole.{AreBytes, number, turned, IsInteger, AreFlags}
use Rattle.krb_der.specs.Computed.Whole.{is_redundant, is_negative}
use Rattle.krb_der.specs.Inner.Shortest.{shortest_of}
use Rattle.krb_der.proofs.IntegerLaws.{shortest_kept, shortest_turned}
use Rattle.krb_der.proofs.Numbers.{AreBytes-turned, number-turned}

-- two's complement, whether or not in its shortest form
unfoldable pub IsSigned : ℤ → List ℕ → Type 0
IsSigned (pos n) bytes = (is_negative bytes ≡ false) × (number bytes ≡ n)
IsSigned (negsuc m) bytes = (is_negative bytes ≡ true) × (number (turned bytes) ≡ m)

signed_kept : (z : ℤ) (bytes : List ℕ) → AreBytes bytes → is_redundant bytes ≡ false → IsSigned z bytes → IsInteger z bytes
unfolding IsSigned
signed_kept (pos n) bytes are short h = record { bytes = are; shortest = shortest_kept bytes short h.0; value = h.1 }
signed_kept (negsuc m) bytes are short h = (are, record { bytes = AreBytes-turned bytes; shortest = shortest_turned bytes are short h.0; value = h.1 })

signed_step : (z : ℤ) (a b : ℕ) (bytes : List ℕ) → is_redundant (a ∷ b ∷ bytes) ≡ true → IsSigned z (a ∷ b ∷ bytes) → IsSigned z (b ∷ bytes)
unfolding IsSigned
signed_step (pos n) a b bytes red h =
    let high = leb-false 128 a h.0 in
    let first : a ≡ 0 = grind (arith, nat_tests) in
    let second : b < 128 = grind (arith, nat_tests) in
    (lt-leb 128 b second, omega (arith, h.1, ap (λ x. x * 256 ^ suc (length bytes)) first))
signed_step (negsuc m) a b bytes red h =
    let high = leb-true 128 a h.0 in
    let first : a ≡ 255 = grind (arith, nat_tests) in
    let second : 128 ≤ b = grind (arith, nat_tests) in
    let turned' : 255 - a ≡ 0 = omega arith in
    (le-leb 128 b second, omega (arith, h.1, ap (λ x. x * 256 ^ suc (length (turned bytes))) turned'))

pub shortest_integer : (z : ℤ) (bytes : List ℕ) → 1 ≤ length bytes → AreBytes bytes → IsSigned z bytes → IsInteger z (shortest_of bytes)
unfolding shortest_of
shortest_integer z [] some are h = absurd (omega arith)
shortest_integer z (a ∷ []) some are h = signed_kept z (a ∷ []) are refl h
shortest_integer z (a ∷ b ∷ bytes) some are h =
    elim (cases_Bool (is_redundant (a ∷ b ∷ bytes))) [
      | inl red ↦
          subst (IsInteger z) (sym (ap (λ c. cond c (shortest_of (b ∷ bytes)) (a ∷ b ∷ bytes)) red))
          (shortest_integer z (b ∷ bytes) (omega arith) are.1 (signed_step z a b bytes red h))
      | inr kept ↦
          subst (IsInteger z) (sym (ap (λ c. cond c (shortest_of (b ∷ bytes)) (a ∷ b ∷ bytes)) kept)) (signed_kept z (a ∷ b ∷ bytes) are kept h)
    ]

-- ---- the eight bytes of a number
number8 : (a b c d e f g h : ℕ) → number (a ∷ b ∷ c ∷ d ∷ e ∷ f ∷ g ∷ h ∷ []) ≡ from_be_bytes w64 (a ∷ b ∷ c ∷ d ∷ e ∷ f ∷ g ∷ h ∷ [])
number8 a b c d e f g h = omega arith

number_be : (n : ℕ) → n < 2 ^ 64 → number (to_be_bytes w64 n) ≡ n
number_be n lt = number8 _ _ _ _ _ _ _ _ ∙ from_be_bytes-to_be_bytes_8 n lt

AreBytes-be : (n : ℕ) → AreBytes (to_be_bytes w64 n)
AreBytes-be n = (omega arith, (omega arith, (omega arith, (omega arith, (omega arith, (omega arith, (omega arith, (omega arith, tt))))))))

pub signed_be : (z : ℤ) → SFits w64 z → IsSigned z (to_be_bytes w64 (of_z w64 z))
unfolding IsSigned
signed_be (pos n) fits =
    let lt : n < 2 ^ 63 = omega (arith, ints, fits) in
    (lt-leb 128 (n / 256 ^ 7 % 256) (omega arith), number_be n (omega arith))
signed_be (negsuc m) fits =
    let lt : m < 2 ^ 63 = omega (arith, ints, fits) in
    let code = 2 ^ 64 - suc m in
    let value = number_be code (omega arith) in
    let both = number-turned (to_be_bytes w64 code) (AreBytes-be code) in
    (le-leb 128 (code / 256 ^ 7 % 256) (omega arith), omega (arith, value, both))

pub integer_be : (z : ℤ) → SFits w64 z → IsInteger z (shortest_of (to_be_bytes w64 (of_z w64 z)))
integer_be z fits = shortest_integer z (to_be_bytes w64 (of_z w64 z)) (omega arith) (AreBytes-be (of_z w64 z)) (signed_be z fits)

pub shortest_of_one : (bytes : List ℕ) → length bytes ≤ 1 → shortest_of bytes ≡ bytes
unfolding shortest_of
shortest_of_one [] few = refl
shortest_of_one (a ∷ []) few = refl
shortest_of_one (a ∷ b ∷ bytes) few = absurd (omega arith)

-- ---- flags
pub number4 : (a b c d : ℕ) → number (a ∷ b ∷ c ∷ d ∷ []) ≡ from_be_bytes w32 (a ∷ b ∷ c ∷ d ∷ [])
number4 a b c d = omega arith

pub flags_be : (n : ℕ) → n < 2 ^ 32 → (cells : List ℕ) → cells ≡ to_be_bytes w32 n → AreFlags n (0 ∷ get_or cells 0 0 ∷ get_or cells 1 0 ∷ get_or cells 2 0 ∷ get_or cells 3 0 ∷ [])
flags_be n lt cells e =
    subst (λ (l : List ℕ). AreFlags n (0 ∷ get_or l 0 0 ∷ get_or l 1 0 ∷ get_or l 2 0 ∷ get_or l 3 0 ∷ [])) (sym e)
    (record {
      bits = to_be_bytes w32 n;
      bytes = (omega arith, (omega arith, (omega arith, (omega arith, tt))));
      four = refl;
      value = number4 _ _ _ _ ∙ from_be_bytes-to_be_bytes_4 n lt;
      whole = refl;
    })
