-- Bytes, and the numbers that they are, as they are and with each bit turned.
use Rattle.std.proofs.Common.{◌≡◌, ℕ, zero, suc, ◌+◌, ◌-◌, ◌*◌, ◌^◌, ◌<◌, ◌≤◌, true, List, [], ◌∷◌, length, get_or, take, refl, ap, arith, lit<, length-take}
use Rattle.std.proofs.lemmas.Bool.{and_from, and_parts, lt-ltb, ltb-true}
use Rattle.std.proofs.lemmas.List.{length-map}
use Rattle.std.proofs.Math.Nat.{pow-succ', mul-le-mul_right, pow-le-pow_right}
use Rattle.krb_der.specs.Whole.{AreBytes, number, turned}
use Rattle.krb_der.specs.Computed.Whole.{are_bytes}

pub AreBytes-from : (bytes : List ℕ) → ((i : ℕ) → get_or bytes i 0 < 256) → AreBytes bytes
AreBytes-from [] h = tt
AreBytes-from (b ∷ bytes) h = (h 0, AreBytes-from bytes (λ i. h (suc i)))

pub are_bytes-true : (bytes : List ℕ) → AreBytes bytes → are_bytes bytes ≡ true
are_bytes-true [] h = refl
are_bytes-true (b ∷ bytes) h = and_from _ _ (lt-ltb b 256 h.0) (are_bytes-true bytes h.1)

pub AreBytes-true : (bytes : List ℕ) → are_bytes bytes ≡ true → AreBytes bytes
AreBytes-true [] e = tt
AreBytes-true (b ∷ bytes) e = let p = and_parts _ _ e in (ltb-true b 256 p.0, AreBytes-true bytes p.1)

pub AreBytes-take : (n : ℕ) (xs : List ℕ) → AreBytes xs → AreBytes (take n xs)
AreBytes-take zero xs h = tt
AreBytes-take (suc n) [] h = tt
AreBytes-take (suc n) (x ∷ xs) h = (h.0, AreBytes-take n xs h.1)

pub pow_step : (n : ℕ) → 256 ^ suc n ≡ 256 * 256 ^ n
pow_step n = pow-succ' 256 n

pub number_below : (bytes : List ℕ) → AreBytes bytes → number bytes < 256 ^ length bytes
number_below [] h = omega arith
number_below (b ∷ bytes) h =
    let below = number_below bytes h.1 in
    let small : b ≤ 255 = omega (arith, h.0) in
    let first : b * 256 ^ length bytes ≤ 255 * 256 ^ length bytes = mul-le-mul_right (256 ^ length bytes) small in
    omega (arith, pow_step (length bytes))

-- at most k bytes
pub number_within : (bytes : List ℕ) (k : ℕ) → AreBytes bytes → length bytes ≤ k → number bytes < 256 ^ k
number_within bytes k h le =
    let wider : 256 ^ length bytes ≤ 256 ^ k = pow-le-pow_right (lit< tt) le in
    omega (arith, number_below bytes h)

pub number-front : (bytes : List ℕ) (i : ℕ) → AreBytes bytes → i ≤ 4 → number (take i bytes) < 2 ^ 32
number-front bytes i h le = number_within (take i bytes) 4 (AreBytes-take i bytes h) (omega (arith, length-take i bytes))

-- ---- turned bits
pub length-turned : (bytes : List ℕ) → length (turned bytes) ≡ length bytes
length-turned bytes = length-map bytes (λ b. 255 - b)

pub AreBytes-turned : (bytes : List ℕ) → AreBytes (turned bytes)
AreBytes-turned [] = tt
AreBytes-turned (b ∷ bytes) = (omega arith, AreBytes-turned bytes)

split_255 : (k b p : ℕ) → k + b ≡ 255 → b * p + k * p ≡ 255 * p
split_255 k b p e = omega (arith, ap (λ x. x * p) e)

pub number-turned : (bytes : List ℕ) → AreBytes bytes → number bytes + number (turned bytes) + 1 ≡ 256 ^ length bytes
number-turned [] h = refl
number-turned (b ∷ bytes) h =
    let ih = number-turned bytes h.1 in
    let wide : 256 ^ length (turned bytes) ≡ 256 ^ length bytes = ap (λ n. 256 ^ n) (length-turned bytes) in
    let parts = split_255 (255 - b) b (256 ^ length bytes) (omega (arith, h.0)) in
    rw wide (omega (arith, ih, parts, pow_step (length bytes)))

pub turned-turned : (bytes : List ℕ) → AreBytes bytes → turned (turned bytes) ≡ bytes
turned-turned [] h = refl
turned-turned (b ∷ bytes) h =
    let first : 255 - (255 - b) ≡ b = omega (arith, h.0) in
    let rest = turned-turned bytes h.1 in
    cc
