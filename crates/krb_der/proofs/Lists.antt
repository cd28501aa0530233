-- One element after another: reading the first and then the others, as a whole, and one by one.
use Rattle.std.proofs.Common.{◌≡◌, ◌≢◌, ◌⊎◌, inl, inr, ℕ, ◌<◌, List, [], ◌∷◌, length, Result, Ok, Err, refl, sym, ap, ◌∙◌, arith, length-append}
use Rattle.std.specs.Prelude.{IsOk, is_ok}
use Rattle.krb_der.specs.declared.fault.Fault.{Fault}
use Rattle.krb_der.specs.Kind.{Kind, sequence, each, tag_of, ValueOf}
use Rattle.krb_der.specs.Content.{Elementary}
use Rattle.krb_der.specs.Place.{Place}
use Rattle.krb_der.specs.Spells.{SpellsContent}
use Rattle.krb_der.specs.Computed.Steps.{◌>>=◌}
use Rattle.krb_der.specs.Computed.Gives.{checked}
use Rattle.krb_der.specs.Computed.Listed.{AreListed, values_of, listed}
use Rattle.krb_der.specs.Computed.Read.{enter_at, element_at, fields_at}
use Rattle.krb_der.proofs.LengthLaws.{no_value}
use Rattle.krb_der.proofs.ElementSteps.{answer, bind_ok, bind_at, same_ok, element_some}
use Rattle.krb_der.proofs.Reading.{element_at_found}
use Rattle.krb_der.proofs.Repeats.{checked_more, all_nil, all_more}

none_or_more : (l : List ℕ) → (l ≡ []) ⊎ (l ≢ [])
none_or_more [] = inl refl
none_or_more (b ∷ bytes) = inr (λ e. cc)

module _ (k : Kind) where
  -- each takes at least a byte
  pub element_at_shrinks : (p : Place) (v : ValueOf k) (q : Place) → element_at k p ≡ Ok (v, q) → length q.rest < length p.rest
  element_at_shrinks p v q e =
      let s = element_at_found k v p q e in
      omega (arith, ap length s.whole, length-append s.front q.rest, element_some (tag_of k) (SpellsContent Elementary k v) s.front s.spelled)

  list_nil : (p : Place) → p.rest ≡ [] → fields_at (each k) p ≡ Ok []
  unfolding fields_at
  list_nil p w = all_nil (element_at k) element_at_shrinks p w

  list_more : (p : Place) → p.rest ≢ [] → fields_at (each k) p ≡ (element_at k p >>= λ x. fields_at (each k) x.1 >>= λ xs. Ok (x.0 ∷ xs))
  unfolding fields_at
  list_more p some = all_more (element_at k) element_at_shrinks p some

  pub list_step : (p : Place) (v : ValueOf k) (q : Place) → element_at k p ≡ Ok (v, q) → checked (fields_at (each k) q) ≡ checked (fields_at (each k) p)
  list_step p v q e =
      let some : p.rest ≢ [] = λ w. absurd (omega (arith, element_at_shrinks p v q e, ap length w)) in
      sym (ap checked (list_more p some ∙ bind_at (element_at k p) _ (v, q) e) ∙ checked_more v (fields_at (each k) q))

  pub list_fault : (p : Place) (f : Fault) → element_at k p ≡ Err f → p.rest ≢ [] → checked (fields_at (each k) p) ≡ Err f
  list_fault p f e some = ap checked (list_more p some ∙ ap (λ r. r >>= λ x. fields_at (each k) x.1 >>= λ xs. Ok (x.0 ∷ xs)) e)

  -- what is read is nothing, or one element and the others
  pub list_next : (p : Place) (vs : List (ValueOf k)) → fields_at (each k) p ≡ Ok vs
      → ((p.rest ≡ []) × (vs ≡ [])) ⊎ ((v : ValueOf k) × (q : Place) × (ws : List (ValueOf k)) × (vs ≡ v ∷ ws) × (element_at k p ≡ Ok (v, q)) × (fields_at (each k) q ≡ Ok ws))
  list_next p vs e =
      elim (none_or_more p.rest) [
        | inl none ↦ inl (none, same_ok {E = Fault} vs [] (sym e ∙ list_nil p none))
        | inr some ↦
            let f = bind_ok (element_at k p) (λ x. fields_at (each k) x.1 >>= λ xs. Ok (x.0 ∷ xs)) vs (sym (list_more p some) ∙ e) in
            let g = bind_ok (fields_at (each k) f.0.1) (λ xs. Ok (f.0.0 ∷ xs)) vs f.2 in
            inr (f.0.0, f.0.1, g.0, sym (same_ok {E = Fault} (f.0.0 ∷ g.0) vs g.2), f.1, g.1)
      ]

  pub list_end : (p : Place) → p.rest ≡ [] → checked (fields_at (each k) p) ≡ Ok tt
  list_end p w = ap checked (list_nil p w)

-- ---- read as a whole, and one by one
checked-ok : {V : Type 0} (r : Result (List V) Fault) → checked r ≡ Ok tt → r ≡ Ok (values_of r)
checked-ok (Ok vs) e = refl
checked-ok (Err f) e = absurd (no_value f tt e)

checked-err : {V : Type 0} (r : Result (List V) Fault) (f : Fault) → checked r ≡ Err f → r ≡ Err f
checked-err (Ok vs) f e = absurd (no_value f tt (sym e))
checked-err (Err g) f e = let same : g ≡ f = cc in ap Err same

is-ok : {V : Type 0} (r : Result (List V) Fault) → IsOk r → r ≡ Ok (values_of r)
is-ok (Ok vs) e = refl
is-ok (Err f) e = cc

pub list_ok : (k : Kind) (p inside after : Place) → enter_at 0x30 p ≡ Ok (inside, after) → checked (fields_at (each k) inside) ≡ Ok tt
    → (element_at (sequence (each k)) p ≡ Ok (listed k inside, after)) × AreListed k inside
unfolding element_at
list_ok k p inside after e c =
    let f = checked-ok (fields_at (each k) inside) c in
    (bind_at (enter_at 0x30 p) _ (inside, after) e ∙ bind_at (fields_at (each k) inside) (λ vs. Ok (vs, after)) (listed k inside) f, ap is_ok f)

pub list_err : (k : Kind) (p inside after : Place) (f : Fault) → enter_at 0x30 p ≡ Ok (inside, after) → checked (fields_at (each k) inside) ≡ Err f
    → element_at (sequence (each k)) p ≡ Err f
unfolding element_at
list_err k p inside after f e c =
    bind_at (enter_at 0x30 p) _ (inside, after) e ∙ ap (λ r. r >>= λ vs. Ok (vs, after)) (checked-err (fields_at (each k) inside) f c)

pub listed_end : (k : Kind) (p : Place) → AreListed k p → p.rest ≡ [] → listed k p ≡ []
listed_end k p h none =
    elim (list_next k p (listed k p) (is-ok (fields_at (each k) p) h)) [
      | inl e ↦ e.1
      | inr e ↦ absurd (omega (arith, element_at_shrinks k p e.0 e.1 e.4, ap length none))
    ]

pub listed_next : (k : Kind) (p : Place) (v : ValueOf k) (q : Place) → AreListed k p → element_at k p ≡ Ok (v, q) → (listed k p ≡ v ∷ listed k q) × AreListed k q
listed_next k p v q h e =
    elim (list_next k p (listed k p) (is-ok (fields_at (each k) p) h)) [
      | inl n ↦ absurd (omega (arith, element_at_shrinks k p v q e, ap length n.0))
      | inr n ↦
          let a = answer n.0 v n.1 q (sym n.4 ∙ e) in
          let rest : fields_at (each k) q ≡ Ok n.2 = ap (fields_at (each k)) (sym a.1) ∙ n.5 in
          (n.3 ∙ ap (λ x. x ∷ n.2) a.0 ∙ ap (λ (l : List (ValueOf k)). v ∷ l) (sym (ap values_of rest)), ap is_ok rest)
    ]

pub listed_some : (k : Kind) (p : Place) (f : Fault) → AreListed k p → element_at k p ≡ Err f → p.rest ≡ []
listed_some k p f h e =
    elim (list_next k p (listed k p) (is-ok (fields_at (each k) p) h)) [
      | inl n ↦ n.0
      | inr n ↦ absurd (no_value f (n.0, n.1) (sym e ∙ n.4))
    ]
