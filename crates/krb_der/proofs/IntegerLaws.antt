-- A whole number is read exactly where one is spelled, and it has one content.
use Rattle.std.proofs.Common.{◌≡◌, inl, inr, ℕ, zero, suc, ◌+◌, ◌-◌, ◌*◌, ◌^◌, ◌<◌, ◌≤◌, pos, negsuc, ◌-ℤ◌, Bool, true, false, not, ◌||◌, cond, ltb, List, [], ◌∷◌, length, Option, Some, None, refl, sym, ap, subst, ◌∙◌, arith, lit<}
use Rattle.std.specs.Prelude.{IfSome}
use Rattle.std.proofs.lemmas.Bool.{le-ltb, lt-leb, le-leb, leb-true, leb-false, ne_eqb, or_parts, cases_lt, cond_both, not-false, true≢false}
use Rattle.std.proofs.lemmas.Bool.Decides.{nat_tests}
use Rattle.std.proofs.lemmas.Int.{ints}
use Rattle.std.proofs.Math.Nat.{mul-le-mul_right, pow-le-pow_right}
use Rattle.krb_der.specs.Whole.{AreBytes, number, IsShortest, IsNatural, turned, IsInteger}
use Rattle.krb_der.specs.Computed.Steps.{◌>>?◌, only_if}
use Rattle.krb_der.specs.Computed.Whole.{are_bytes, is_redundant, is_negative, whole_of}
use Rattle.krb_der.proofs.Numbers.{are_bytes-true, AreBytes-true, pow_step, length-turned, AreBytes-turned, number-turned}

-- ---- few bytes
pub natural_least : (x y : ℕ) (ys : List ℕ) → IsShortest (x ∷ y ∷ ys) → 128 * 256 ^ length ys ≤ number (x ∷ y ∷ ys)
natural_least zero y ys h =
    let high : 128 ≤ y = h.1 refl in
    let first : 128 * 256 ^ length ys ≤ y * 256 ^ length ys = mul-le-mul_right (256 ^ length ys) high in
    omega (arith, first)
natural_least (suc x) y ys h =
    let some : 1 ≤ suc x = omega arith in
    let first : 1 * 256 ^ suc (length ys) ≤ suc x * 256 ^ suc (length ys) = mul-le-mul_right (256 ^ suc (length ys)) some in
    omega (arith, first, pow_step (length ys))

pub natural_few : (n : ℕ) (content : List ℕ) → IsNatural n content → n < 2 ^ 39 → length content ≤ 5
natural_few n content h lt = few content h.shortest (omega (arith, h.value))
  where
    few : (c : List ℕ) → IsShortest c → number c < 2 ^ 39 → length c ≤ 5
    few [] s l = absurd s
    few (x ∷ []) s l = omega arith
    few (x ∷ y ∷ ys) s l =
        elim (cases_lt (length ys) 4) [
          | inl short ↦ omega arith
          | inr many ↦
              let wide : 256 ^ 4 ≤ 256 ^ length ys = pow-le-pow_right (lit< tt) many in
              absurd (omega (arith, natural_least x y ys s, wide))
        ]

-- ---- what is spelled is read
pub whole_of-some : (content : List ℕ) (negative : Bool) → is_redundant content ≡ false → AreBytes content → length content ≤ 5 → is_negative content ≡ negative
    → whole_of content ≡ Some (cond negative (pos (number content) -ℤ pos (256 ^ length content)) (pos (number content)))
unfolding whole_of
whole_of-some content negative short bytes few sign = rw (short, are_bytes-true content bytes, le-ltb 5 (length content) few, sign) refl

not_redundant : (content : List ℕ) → IsShortest content → is_redundant content ≡ false
not_redundant [] h = absurd h
not_redundant (a ∷ []) h = refl
not_redundant (zero ∷ b ∷ bytes) h = rw (le-ltb b 128 (h.1 refl)) refl
not_redundant (suc a ∷ b ∷ bytes) h = rw (ne_eqb (suc a) 0 (λ e. absurd cc), ne_eqb (suc a) 255 (λ e. absurd (omega (arith, h.0)))) refl

not_negative : (content : List ℕ) → IsShortest content → is_negative content ≡ false
not_negative [] h = refl
not_negative (a ∷ []) h = lt-leb 128 a h
not_negative (a ∷ b ∷ bytes) h = lt-leb 128 a h.0

-- turning the bits changes nothing of this
redundant-turned : (content : List ℕ) → AreBytes content → is_redundant (turned content) ≡ is_redundant content
redundant-turned [] h = refl
redundant-turned (a ∷ []) h = refl
redundant-turned (a ∷ b ∷ bytes) h = grind (arith, nat_tests, h.0, h.1.0)

negative_turned : (content : List ℕ) → IsShortest (turned content) → is_negative content ≡ true
negative_turned [] s = absurd s
negative_turned (a ∷ []) s = le-leb 128 a (omega (arith, s))
negative_turned (a ∷ b ∷ bytes) s = le-leb 128 a (omega (arith, s.0))

pub natural_read : (n : ℕ) (content : List ℕ) → IsNatural n content → n < 2 ^ 39 → whole_of content ≡ Some (pos n)
natural_read n content h lt =
    whole_of-some content false (not_redundant content h.shortest) h.bytes (natural_few n content h lt) (not_negative content h.shortest) ∙ ap (λ k. Some (pos k)) h.value

pub negative_value : (a b m : ℕ) → a + m + 1 ≡ b → pos a -ℤ pos b ≡ negsuc m
negative_value a b m e = omega (arith, ints)

pub negative_read : (m : ℕ) (content : List ℕ) → IsInteger (negsuc m) content → m < 2 ^ 39 → whole_of content ≡ Some (negsuc m)
negative_read m content h lt =
    whole_of-some content true (sym (redundant-turned content h.0) ∙ not_redundant (turned content) h.1.shortest) h.0 (omega (arith, natural_few m (turned content) h.1 lt, length-turned content)) (negative_turned content h.1.shortest)
    ∙ ap Some (negative_value (number content) (256 ^ length content) m (omega (arith, number-turned content h.0, h.1.value)))

-- ---- what is read is spelled
-- a step that may find nothing, and what follows
pub bind_found : {A B : Type 0} (P : A → Type 0) (Q : B → Type 0) (o : Option A) (f : A → Option B) → IfSome o P → ((x : A) → P x → IfSome (f x) Q) → IfSome (o >>? f) Q
bind_found P Q (Some x) f h next = next x h
bind_found P Q None f h next = tt

pub only_found : {A : Type 0} (P : A → Type 0) (b : Bool) (x : A) → (b ≡ true → P x) → IfSome (only_if b x) P
only_found P true x h = h refl
only_found P false x h = tt

pub none_some : {A : Type 0} (x : A) → ◌≡◌ {A = Option A} None (Some x) → ⊥
none_some x e = cc

pub shortest_kept : (content : List ℕ) → is_redundant content ≡ false → is_negative content ≡ false → IsShortest content
shortest_kept [] r n = true≢false r
shortest_kept (a ∷ []) r n = leb-false 128 a n
shortest_kept (a ∷ b ∷ bytes) r n = (leb-false 128 a n, λ e. grind (arith, nat_tests))

turned_kept : (content : List ℕ) → is_negative content ≡ true → is_negative (turned content) ≡ false
turned_kept [] n = absurd (true≢false (sym n))
turned_kept (a ∷ bytes) n = lt-leb 128 (255 - a) (omega (arith, leb-true 128 a n))

pub shortest_turned : (content : List ℕ) → AreBytes content → is_redundant content ≡ false → is_negative content ≡ true → IsShortest (turned content)
shortest_turned content h r n = shortest_kept (turned content) (redundant-turned content h ∙ r) (turned_kept content n)

pub whole_found : (content : List ℕ) → IfSome (whole_of content) (λ z. IsInteger z content)
unfolding whole_of
whole_found content =
    cond_both (is_redundant content || not (are_bytes content) || ltb 5 (length content)) _ _ (λ o. IfSome o (λ z. IsInteger z content)) (λ e. tt)
    (λ e.
    let p = or_parts (is_redundant content || not (are_bytes content)) (ltb 5 (length content)) e in
    let q = or_parts (is_redundant content) (not (are_bytes content)) p.0 in
    let bytes = AreBytes-true content (not-false (are_bytes content) q.1) in
    cond_both (is_negative content) _ _ (λ z. IsInteger z content)
    (λ n. subst (λ w. IsInteger w content) (sym (negative_value (number content) (256 ^ length content) (number (turned content)) (number-turned content bytes)))
    (bytes, record { bytes = AreBytes-turned content; shortest = shortest_turned content bytes q.0 n; value = refl }))
    (λ n. record { bytes = bytes; shortest = shortest_kept content q.0 n; value = refl }))
