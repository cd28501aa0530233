-- Reading elements and fields, one combinator at a time.
use Rattle.std.proofs.Common.{◌≡◌, inl, inr, ℕ, ◌+◌, ◌-◌, ◌≤◌, ltb, eqb, List, [], ◌∷◌, ◌++◌, length, take, drop, Result, Ok, Err, refl, sym, ap, subst, ◌∙◌, arith, length-append, append_assoc, length-take, take-append-drop}
use Rattle.std.proofs.lemmas.Bool.{le-ltb, eq-eqb, ltb-true, ltb-false, eqb-true, eqb-false, cond_both}
use Rattle.std.proofs.lemmas.List.{take_at, drop_at}
use Rattle.krb_der.specs.declared.fault.Fault.{Fault}
use Rattle.krb_der.specs.Kind.{Kind, Fields, must, tag_of}
use Rattle.krb_der.specs.Content.{Elementary}
use Rattle.krb_der.specs.Place.{Place}
use Rattle.krb_der.specs.Spells.{IsLength, IsElement}
use Rattle.krb_der.specs.Fault.{HasHead, IsBroken, nothing, other_tag, cut_length, bad_length, cut_content}
use Rattle.krb_der.specs.Computed.Steps.{◌>>=◌}
use Rattle.krb_der.specs.Computed.Read.{Sized, head_from, enter_at, sized_at, split_at, length_of, length_fault}
use Rattle.krb_der.proofs.LengthLaws.{length_of-spelled, LengthOut, length_out, no_value}

-- the value of a step that did not fail, and the step that failed
pub bind_ok : {A B E : Type 0} (r : Result A E) (f : A → Result B E) (y : B) → (r >>= f) ≡ Ok y → (x : A) × (r ≡ Ok x) × (f x ≡ Ok y)
bind_ok (Ok x) f y e = (x, refl, e)
bind_ok (Err d) f y e = absurd (no_value d y e)

pub bind_at : {A B E : Type 0} (r : Result A E) (f : A → Result B E) (x : A) → r ≡ Ok x → (r >>= f) ≡ f x
bind_at r f x e = ap (λ s. s >>= f) e

pub same_ok : {A E : Type 0} (x y : A) → ◌≡◌ {A = Result A E} (Ok x) (Ok y) → x ≡ y
same_ok x y e = cc

pub cons_nil : (b : ℕ) (bytes : List ℕ) → b ∷ bytes ≡ [] → ⊥
cons_nil b bytes e = cc

-- the parts of an answer
pub answer : {V : Type 0} (v w : V) (p q : Place) → ◌≡◌ {A = Result (V × Place) Fault} (Ok (v, p)) (Ok (w, q)) → (v ≡ w) × (p ≡ q)
answer {V = V} v w p q e =
    let same : ◌≡◌ {A = V × Place} (v, p) (w, q) = same_ok {E = Fault} (v, p) (w, q) e in
    (ap (λ (x : V × Place). x.0) same, ap (λ (x : V × Place). x.1) same)

-- an element has bytes
pub element_some : (tag : ℕ) (IsContent : List ℕ → Type 0) (front : List ℕ) → IsElement tag IsContent front → 1 ≤ length front
element_some tag IsContent front h = omega (arith, ap length h.whole)

-- ---- heads, step by step
split_at-ok : (p : Place) (n : ℕ) (bytes front back : List ℕ) → n ≤ length bytes → front ≡ take n bytes → back ≡ drop n bytes
    → split_at p n bytes ≡ Ok (record { at = p.at + (length p.rest - length bytes); rest = front }, record { at = p.at + (length p.rest - length bytes) + n; rest = back })
unfolding split_at
split_at-ok p n bytes front back le f b = rw (f, b, le-ltb (length bytes) n le) refl

enter_at-sized : (tag : ℕ) (p : Place) (bytes : List ℕ) → p.rest ≡ tag ∷ bytes → enter_at tag p ≡ sized_at p (length_of bytes)
unfolding enter_at
enter_at-sized tag p bytes e = ap (head_from tag p) e ∙ rw (eq-eqb tag tag refl) refl

pub enter_at-head : (tag : ℕ) (p inside after : Place) → HasHead tag p inside after → enter_at tag p ≡ Ok (inside, after)
enter_at-head tag p inside after h =
    let rest = inside.rest ++ after.rest in
    let regrouped : (h.size ++ inside.rest) ++ after.rest ≡ h.size ++ rest = append_assoc h.size inside.rest after.rest in
    let enough : length inside.rest ≤ length rest = omega (arith, length-append inside.rest after.rest) in
    let inner : p.at + (length p.rest - length rest) ≡ inside.at =
    omega (arith, h.inside_at, ap length h.whole, ap length regrouped, length-append h.size rest) in
    let outer : p.at + (length p.rest - length rest) + length inside.rest ≡ after.at = omega (arith, inner, h.after_at) in
    enter_at-sized tag p ((h.size ++ inside.rest) ++ after.rest) h.whole
    ∙ ap (sized_at p) (ap length_of regrouped ∙ length_of-spelled (length inside.rest) h.size rest h.length_is)
    ∙ split_at-ok p (length inside.rest) rest inside.rest after.rest enough (sym (take_at inside.rest after.rest (length inside.rest) refl)) (sym (drop_at inside.rest after.rest (length inside.rest) refl))
    ∙ moved inner outer
  where
    moved : {a b c d : ℕ} → a ≡ b → c ≡ d
        → ◌≡◌ {A = Result (Place × Place) Fault} (Ok (record { at = a; rest = inside.rest }, record { at = c; rest = after.rest })) (Ok (record { at = b; rest = inside.rest }, record { at = d; rest = after.rest }))
    moved e f = λ i. Ok (record { at = e i; rest = inside.rest }, record { at = f i; rest = after.rest })

-- what entering an element gives: its head, or a fault where a kind with this tag must come
abbrev pub HeadOut : ℕ → Place → Result (Place × Place) Fault → Type 0
HeadOut tag p (Ok x) = HasHead tag p x.0 x.1
HeadOut tag p (Err f) = (k : Kind) (fs : Fields) → tag_of k ≡ tag → IsBroken Elementary (must k fs) p f

sized_out : (tag : ℕ) (p : Place) (bytes : List ℕ) (r : Sized) → p.rest ≡ tag ∷ bytes → LengthOut bytes r → HeadOut tag p (sized_at p r)
unfolding split_at
sized_out tag p bytes (Ok x) here t =
    cond_both (ltb (length x.1) x.0) _ _ (HeadOut tag p)
    (λ cut k fs same. cut_content x.0 t.size x.1 (here ∙ ap (λ (l : List ℕ). tag ∷ l) t.whole ∙ ap (λ u. u ∷ (t.size ++ x.1)) (sym same)) t.spelled (ltb-true (length x.1) x.0 cut))
    (λ there.
    let len : length (take x.0 x.1) ≡ x.0 = omega (arith, ltb-false (length x.1) x.0 there, length-take x.0 x.1) in
    let tail : t.size ++ x.1 ≡ (t.size ++ take x.0 x.1) ++ drop x.0 x.1 =
    ap (λ (l : List ℕ). t.size ++ l) (sym (take-append-drop x.0 x.1)) ∙ sym (append_assoc t.size (take x.0 x.1) (drop x.0 x.1)) in
    record {
      size = t.size;
      length_is = subst (λ n. IsLength n t.size) (sym len) t.spelled;
      whole = here ∙ ap (λ (l : List ℕ). tag ∷ l) (t.whole ∙ tail);
      inside_at = omega (arith, ap length here, ap length t.whole, length-append t.size x.1);
      after_at = omega (arith, len);
    })
sized_out tag p bytes (Err kind) here (inl h) =
    λ k fs same. subst (λ d. IsBroken Elementary (must k fs) p (length_fault p d)) (sym h.0) (cut_length bytes (here ∙ ap (λ u. u ∷ bytes) (sym same)) h.1)
sized_out tag p bytes (Err kind) here (inr h) =
    λ k fs same. subst (λ d. IsBroken Elementary (must k fs) p (length_fault p d)) (sym h.0) (bad_length bytes (here ∙ ap (λ u. u ∷ bytes) (sym same)) h.1)

pub head_out : (tag : ℕ) (p : Place) → HeadOut tag p (enter_at tag p)
unfolding enter_at
head_out tag p = by p.rest refl
  where
    by : (rest : List ℕ) → p.rest ≡ rest → HeadOut tag p (head_from tag p rest)
    by [] e = λ k fs same. nothing e
    by (b ∷ bytes) e =
        cond_both (eqb b tag) _ _ (HeadOut tag p)
        (λ is. sized_out tag p bytes (length_of bytes) (e ∙ ap (λ x. x ∷ bytes) (eqb-true b tag is)) (length_out bytes))
        (λ isnt k fs same. other_tag b bytes e (λ z. absurd (eqb-false b tag isnt (z ∙ same))))

pub enter_at_read : (tag : ℕ) (p inside after : Place) → enter_at tag p ≡ Ok (inside, after) → HasHead tag p inside after
enter_at_read tag p inside after e = subst (HeadOut tag p) e (head_out tag p)
