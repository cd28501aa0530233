-- Texts that are added byte by byte.
use Rattle.std.proofs.Common.{All, ◌≡◌, ℕ, zero, suc, ◌<◌, ◌≤◌, List, [], ◌∷◌, length, drop, replicate, refl, sym, ap, ap₂, ◌∙◌, arith, bit_xor}
use Rattle.std.proofs.lemmas.List.Elements.{All-nil, All-cons, All-head, All-tail}
use Rattle.std.proofs.lemmas.Nat.{xor_of_8}
use lib.Bits.{xor_zero_l, xor_zero_r, xor_self, xor_assoc}
use Rattle.krb_cts.specs.Stealing.{xor}

pub xor-zeros : (n : ℕ) (bytes : List ℕ) → length bytes ≤ n → xor bytes (replicate n 0) ≡ bytes
xor-zeros n [] le = refl
xor-zeros zero (x ∷ xs) le = absurd (omega arith)
xor-zeros (suc n) (x ∷ xs) le = ap₂ (λ (y : ℕ) (ys : List ℕ). y ∷ ys) (xor_zero_r x) (xor-zeros n xs (omega arith))

-- what is added twice is gone
pub xor-twice : (one other : List ℕ) → length one ≤ length other → xor (xor one other) other ≡ one
xor-twice [] other le = refl
xor-twice (x ∷ xs) [] le = absurd (omega arith)
xor-twice (x ∷ xs) (y ∷ ys) le =
    ap₂ (λ (z : ℕ) (zs : List ℕ). z ∷ zs) (xor_assoc x y y ∙ ap (bit_xor x) (xor_self y) ∙ xor_zero_r x) (xor-twice xs ys (omega arith))

pub zeros-xor : (n : ℕ) (bytes : List ℕ) → length bytes ≤ n → xor (replicate n 0) bytes ≡ bytes
zeros-xor zero [] le = refl
zeros-xor (suc n) [] le = refl
zeros-xor zero (x ∷ xs) le = absurd (omega arith)
zeros-xor (suc n) (x ∷ xs) le = ap₂ (λ (y : ℕ) (ys : List ℕ). y ∷ ys) (xor_zero_l x) (zeros-xor n xs (omega arith))

pub xor-itself : (bytes : List ℕ) → xor bytes bytes ≡ replicate (length bytes) 0
xor-itself [] = refl
xor-itself (x ∷ xs) = ap₂ (λ (y : ℕ) (ys : List ℕ). y ∷ ys) (xor_self x) (xor-itself xs)

xor-nil : (bytes : List ℕ) → xor bytes [] ≡ []
xor-nil [] = refl
xor-nil (x ∷ xs) = refl

pub drop-xor : (n : ℕ) (one other : List ℕ) → drop n (xor one other) ≡ xor (drop n one) (drop n other)
drop-xor zero one other = refl
drop-xor (suc n) [] other = refl
drop-xor (suc n) (x ∷ xs) [] = sym (xor-nil (drop n xs))
drop-xor (suc n) (x ∷ xs) (y ∷ ys) = drop-xor n xs ys

pub bytes-xor : (one other : List ℕ) → All (λ byte. byte < 256) one → All (λ byte. byte < 256) other → All (λ byte. byte < 256) (xor one other)
bytes-xor [] other a b = All-nil (λ byte. byte < 256)
bytes-xor (x ∷ xs) [] a b = All-nil (λ byte. byte < 256)
bytes-xor (x ∷ xs) (y ∷ ys) a b =
    All-cons (λ byte. byte < 256) (bit_xor x y) (xor xs ys)
    (xor_of_8 x y (All-head (λ byte. byte < 256) x xs a) (All-head (λ byte. byte < 256) y ys b))
    (bytes-xor xs ys (All-tail (λ byte. byte < 256) x xs a) (All-tail (λ byte. byte < 256) y ys b))
