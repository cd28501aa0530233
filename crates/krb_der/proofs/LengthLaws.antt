-- A length is read exactly where one is spelled, and a number has one length.
use Rattle.std.proofs.Common.{◌≡◌, ◌⊎◌, inl, inr, ℕ, ◌+◌, ◌-◌, ◌*◌, ◌^◌, ◌<◌, ◌≤◌, true, false, not, ◌&&◌, ltb, leb, eqb, List, [], ◌∷◌, ◌++◌, length, take, drop, Result, Ok, Err, refl, sym, ap, subst, ◌∙◌, arith, length-append, length-take, take-append-drop, get_or}
use Rattle.std.proofs.lemmas.Bool.{le-ltb, lt-ltb, le-leb, ltb-true, ltb-false, leb-true, leb-false, and_parts, and_cases, cond_both, not-true, true≢false}
use Rattle.std.proofs.lemmas.Bool.Decides.{nat_tests}
use Rattle.std.proofs.lemmas.List.{take_at, drop_at}
use Rattle.std.proofs.lemmas.Nat.{same_from_place}
use Rattle.std.proofs.Math.Nat.{mul-le-mul_right}
use Rattle.krb_der.specs.declared.fault.FaultKind.TheVariants.{Truncated, Length}
use Rattle.krb_der.specs.Whole.{AreBytes, number}
use Rattle.krb_der.specs.Place.{begins}
use Rattle.krb_der.specs.Spells.{IsLength, short, long}
use Rattle.krb_der.specs.Fault.{IsCutLength, IsBadLength, no_form, not_shortest}
use Rattle.krb_der.specs.Computed.Read.{long_of, length_of, are_length, Sized}
use Rattle.krb_der.specs.Computed.Whole.{are_bytes}
use Rattle.krb_der.proofs.Numbers.{are_bytes-true, AreBytes-true, number_below}

-- ---- numbers of digits
-- lists of one length
pub number_injective : (xs ys : List ℕ) → length xs ≡ length ys → AreBytes xs → AreBytes ys → number xs ≡ number ys → xs ≡ ys
number_injective [] [] len h k e = refl
number_injective [] (y ∷ ys) len h k e = absurd (omega (arith, len))
number_injective (x ∷ xs) [] len h k e = absurd (omega (arith, len))
number_injective (x ∷ xs) (y ∷ ys) len h k e =
    let len' : length xs ≡ length ys = omega (arith, len) in
    let wide : 256 ^ length xs ≡ 256 ^ length ys = ap (λ n. 256 ^ n) len' in
    let below : number ys < 256 ^ length xs = omega (arith, wide, number_below ys k.1) in
    let e' : x * 256 ^ length xs + number xs ≡ y * 256 ^ length xs + number ys = e ∙ ap (λ p. y * p + number ys) (sym wide) in
    let parts = same_from_place x (number xs) y (number ys) (256 ^ length xs) (number_below xs h.1) below e' in
    let rest = number_injective xs ys len' h.1 k.1 parts.1 in
    cc

-- a first digit that is not 0 shows how many digits there are
pub number_least : (x : ℕ) (xs : List ℕ) → begins 0 (x ∷ xs) ≡ false → 256 ^ length xs ≤ number (x ∷ xs)
number_least x xs first =
    let some : 1 ≤ x = grind (arith, nat_tests) in
    let one : 1 * 256 ^ length xs ≤ x * 256 ^ length xs = mul-le-mul_right (256 ^ length xs) some in
    omega (arith, one)

pub digits_nonempty : (ds : List ℕ) (n : ℕ) → number ds ≡ n → 128 ≤ n → 1 ≤ length ds
digits_nonempty [] n e h = absurd (omega arith)
digits_nonempty (d ∷ ds) n e h = omega arith

-- a list that begins with another byte, or doesn't begin
pub begins-get_or : (tag : ℕ) (bytes : List ℕ) → 1 ≤ length bytes → begins tag bytes ≡ eqb (get_or bytes 0 0) tag
begins-get_or tag [] h = absurd (omega arith)
begins-get_or tag (b ∷ bytes) h = refl

pub long_of-ok : (count : ℕ) (bytes : List ℕ) (n : ℕ) (rest : List ℕ) → count ≤ length bytes → AreBytes (take count bytes)
    → begins 0 (take count bytes) ≡ false → n ≡ number (take count bytes) → rest ≡ drop count bytes → 128 ≤ n
    → long_of count bytes ≡ Ok (n, rest)
unfolding long_of
long_of-ok count bytes n rest enough are first digits behind big =
    let big' : 128 ≤ number (take count bytes) = omega (arith, digits) in
    rw (digits, behind, le-ltb (length bytes) count enough, are_bytes-true (take count bytes) are, first, le-leb 128 (number (take count bytes)) big') refl

length_of-long : (count : ℕ) (bytes : List ℕ) → 1 ≤ count → count ≤ 4 → length_of ((0x80 + count) ∷ bytes) ≡ long_of count bytes
unfolding length_of
length_of-long count bytes some four = grind (arith, nat_tests)

-- ---- what is spelled is read
pub length_of-spelled : (n : ℕ) (size rest : List ℕ) → IsLength n size → length_of (size ++ rest) ≡ Ok (n, rest)
unfolding length_of
length_of-spelled n size rest (short lt e) = ap (λ (s : List ℕ). length_of (s ++ rest)) e ∙ rw (lt-ltb n 0x80 lt) refl
length_of-spelled n size rest (long ds w four are first' big value) =
    let some : 1 ≤ length ds = digits_nonempty ds n value big in
    ap (λ (s : List ℕ). length_of (s ++ rest)) w ∙ length_of-long (length ds) (ds ++ rest) some four
    ∙ long_of-ok (length ds) (ds ++ rest) n rest (omega (arith, length-append ds rest)) (subst AreBytes (sym (take_at ds rest (length ds) refl)) are)
    (ap (begins 0) (take_at ds rest (length ds) refl) ∙ first') (sym value ∙ ap number (sym (take_at ds rest (length ds) refl))) (sym (drop_at ds rest (length ds) refl)) big

-- ---- what is read is spelled, and what is refused is cut or bad
pub record TakesLength (n : ℕ) (bytes rest : List ℕ) : Type 0 where
  pub size : List ℕ
  pub spelled : IsLength n size
  pub whole : bytes ≡ size ++ rest

-- what reading the length that the bytes begin with gives
abbrev pub LengthOut : List ℕ → Sized → Type 0
LengthOut bytes (Ok x) = TakesLength x.0 bytes x.1
LengthOut bytes (Err kind) = ((kind ≡ Truncated) × IsCutLength bytes) ⊎ ((kind ≡ Length) × IsBadLength bytes)

-- an error is no value
pub no_value : {A E : Type 0} (d : E) (x : A) → ◌≡◌ {A = Result A E} (Err d) (Ok x) → ⊥
no_value d x e = cc

pub same_error : {A E : Type 0} (c d : E) → ◌≡◌ {A = Result A E} (Err c) (Err d) → c ≡ d
same_error c d e = cc

not_long : (count : ℕ) (digits : List ℕ) → are_length digits ≡ false → (n : ℕ) → IsLength n ((0x80 + count) ∷ digits) → ⊥
not_long count digits bad n (short lt e) = let same : 0x80 + count ≡ n = cc in omega arith
not_long count digits bad n (long ds w four are first big value) =
    let same : digits ≡ ds = cc in
    let high : 0x80 ≤ number ds = omega (arith, value) in
    let good : are_length ds ≡ true = rw (are_bytes-true ds are, first, le-leb 0x80 (number ds) high) refl in
    true≢false (sym good ∙ ap are_length (sym same) ∙ bad)

long_out : (count : ℕ) (bytes : List ℕ) → 1 ≤ count → count ≤ 4 → LengthOut ((0x80 + count) ∷ bytes) (long_of count bytes)
unfolding long_of
long_out count bytes some four =
    cond_both (ltb (length bytes) count) _ _ (LengthOut ((0x80 + count) ∷ bytes))
    (λ cut. let lt = ltb-true (length bytes) count cut in inl (refl, (omega arith, omega arith, omega (arith, lt))))
    (λ there. cond_both (are_length (take count bytes)) _ _ (LengthOut ((0x80 + count) ∷ bytes)) (λ good. found good (len there)) (λ bad. inr (refl, wrong bad (len there))))
  where
    len : ltb (length bytes) count ≡ false → length (take count bytes) ≡ count
    len there = omega (arith, length-take count bytes, ltb-false (length bytes) count there)

    whole : (0x80 + count) ∷ bytes ≡ ((0x80 + count) ∷ take count bytes) ++ drop count bytes
    whole = ap (λ (xs : List ℕ). (0x80 + count) ∷ xs) (sym (take-append-drop count bytes))

    found : are_length (take count bytes) ≡ true → length (take count bytes) ≡ count → TakesLength (number (take count bytes)) ((0x80 + count) ∷ bytes) (drop count bytes)
    found good len =
        let p = and_parts (are_bytes (take count bytes) && not (begins 0 (take count bytes))) (leb 0x80 (number (take count bytes))) good in
        let q = and_parts (are_bytes (take count bytes)) (not (begins 0 (take count bytes))) p.0 in
        record {
          size = (0x80 + count) ∷ take count bytes;
          spelled = long (take count bytes) (ap (λ k. (0x80 + k) ∷ take count bytes) (sym len)) (omega (arith, len)) (AreBytes-true _ q.0) (not-true _ q.1) (leb-true 0x80 _ p.1) refl;
          whole = whole;
        }

    wrong : are_length (take count bytes) ≡ false → length (take count bytes) ≡ count → IsBadLength ((0x80 + count) ∷ bytes)
    wrong bad len =
        not_shortest ((0x80 + count) ∷ take count bytes) (drop count bytes) whole
        (ap (λ k. 0x80 + k) (sym len), omega (arith, len), omega (arith, len)) (not_long count (take count bytes) bad)

pub length_out : (bytes : List ℕ) → LengthOut bytes (length_of bytes)
unfolding length_of
length_out [] = inl (refl, tt)
length_out (f ∷ bytes) =
    cond_both (ltb f 0x80) _ _ (LengthOut (f ∷ bytes))
    (λ low. record { size = f ∷ []; spelled = short (ltb-true f 0x80 low) refl; whole = refl })
    (λ high. cond_both (leb 0x81 f && leb f 0x84) _ _ (LengthOut (f ∷ bytes))
    (λ is. counted (and_parts (leb 0x81 f) (leb f 0x84) is))
    (λ isnt. inr (refl, no_form f bytes refl (neither (ltb-false f 0x80 high) (and_cases (leb 0x81 f) (leb f 0x84) isnt)))))
  where
    counted : (leb 0x81 f ≡ true) × (leb f 0x84 ≡ true) → LengthOut (f ∷ bytes) (long_of (f - 0x80) bytes)
    counted is =
        let least = leb-true 0x81 f is.0 in
        let most = leb-true f 0x84 is.1 in
        let back : 0x80 + (f - 0x80) ≡ f = omega (arith, least) in
        subst (λ x. LengthOut (x ∷ bytes) (long_of (f - 0x80) bytes)) back (long_out (f - 0x80) bytes (omega (arith, least)) (omega (arith, most)))

    neither : 0x80 ≤ f → (leb 0x81 f ≡ false) ⊎ (leb f 0x84 ≡ false) → (f ≡ 0x80) ⊎ (0x84 < f)
    neither ge (inl e) = inl (omega (arith, ge, leb-false 0x81 f e))
    neither ge (inr e) = inr (leb-false f 0x84 e)
