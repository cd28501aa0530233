-- What reading gives, for all kinds at once: a value that is spelled there and the place after it, or a fault by the rules.
use Rattle.std.proofs.Common.{◌≡◌, ◌≢◌, ℕ, zero, suc, ◌≤◌, List, [], ◌∷◌, ◌++◌, length, Option, Some, None, Result, Ok, Err, refl, sym, ap, subst, ◌∙◌, arith, length-append}
use Rattle.std.specs.Prelude.{IfSome}
use Rattle.std.proofs.lemmas.Bool.{cond_both}
use Rattle.std.proofs.lemmas.List.{append-nil}
use Rattle.std.proofs.Math.Nat.{le_refl}
use Rattle.krb_der.specs.declared.fault.Fault.{Fault}
use Rattle.krb_der.specs.Kind.{Kind, leaf, wrapped, sequence, Fields, ends, must, may, each, tag_of, ValueOf, FieldsOf}
use Rattle.krb_der.specs.Content.{Content, ContentValue, leaf_of, Elementary}
use Rattle.krb_der.specs.Place.{Place, begins}
use Rattle.krb_der.specs.Spells.{SpellsContent, SpellsFields, SpellsBy, StandsAt}
use Rattle.krb_der.specs.Fault.{HasHead, Reached, inside_wrapped, inside_sequence, after_element, is_there, is_absent, one_more, IsBroken, bad_content, left_over, IsFaulty}
use Rattle.krb_der.specs.Computed.Steps.{◌>>=◌}
use Rattle.krb_der.specs.Computed.Read.{enter_at, finish_at, finish_from, content_of, value_or, each_from, element_at, fields_at}
use Rattle.krb_der.proofs.LeafLaws.{is_leaf}
use Rattle.krb_der.proofs.IntegerLaws.{none_some}
use Rattle.krb_der.proofs.ElementSteps.{cons_nil, HeadOut, head_out, element_some}

-- a step, and what follows if it succeeds; its fault is handed on
pub bind_by : {A B E : Type 0} (P : Result A E → Type 0) (Q : Result B E → Type 0) (r : Result A E) (f : A → Result B E)
    → P r → ((x : A) → P (Ok x) → Q (f x)) → ((d : E) → P (Err d) → Q (Err d)) → Q (r >>= f)
bind_by P Q (Ok x) f p ok err = ok x p
bind_by P Q (Err d) f p ok err = err d p

-- a fault wherever the fields are required at the place
abbrev pub Faults : Fields → Place → Fault → Type 0
Faults fs p f = (from : Fields) (begin : Place) → Reached Elementary from begin fs p → IsFaulty Elementary from begin f

broken : (fs : Fields) (p : Place) (f : Fault) → IsBroken Elementary fs p f → Faults fs p f
broken fs p f b = λ from begin r. record { expected = fs; here = p; reached = r; broken = b }

abbrev pub ElementOut : (k : Kind) → Place → Result (ValueOf k × Place) Fault → Type 0
ElementOut k p (Ok x) = StandsAt Elementary k x.0 p x.1
ElementOut k p (Err f) = (fs : Fields) → Faults (must k fs) p f

abbrev pub FieldsOut : (fs : Fields) → Place → Result (FieldsOf fs) Fault → Type 0
FieldsOut fs p (Ok v) = SpellsFields Elementary fs v p.rest
FieldsOut fs p (Err f) = Faults fs p f

pub end_out : (p : Place) → FieldsOut ends p (finish_at p)
unfolding finish_at
end_out p = by p.rest refl
  where
    by : (rest : List ℕ) → p.rest ≡ rest → FieldsOut ends p (finish_from p rest)
    by [] e = e
    by (b ∷ bytes) e = broken ends p _ (left_over (λ z. absurd (cons_nil b bytes (sym e ∙ z))))

-- ---- one element, by its head
stands : (k : Kind) (v : ValueOf k) (p inside after : Place) → HasHead (tag_of k) p inside after → SpellsContent Elementary k v inside.rest → StandsAt Elementary k v p after
stands k v p inside after h is =
    record {
      front = tag_of k ∷ (h.size ++ inside.rest);
      spelled = record { size = h.size; content = inside.rest; length_is = h.length_is; content_is = is; whole = refl };
      whole = h.whole;
      at_is = omega (arith, h.after_at, h.inside_at, length-append h.size inside.rest);
    }

pub alone : (k : Kind) (v : ValueOf k) (p after : Place) → StandsAt Elementary k v p after → after.rest ≡ [] → SpellsBy Elementary k v p.rest
alone k v p after s end =
    subst (SpellsBy Elementary k v) (sym (s.whole ∙ ap (λ (l : List ℕ). s.front ++ l) end ∙ append-nil s.front)) s.spelled

leaf_out : (c : Content) (p inside after : Place) → HasHead (leaf_of c).tag p inside after → (o : Option (ContentValue c)) → content_of c inside.rest ≡ o
    → ElementOut (leaf c) p (value_or o (leaf_of c).fault p.at >>= λ v. Ok (v, after))
leaf_out c p inside after h (Some v) e = stands (leaf c) v p inside after h (subst (λ o. IfSome o (λ x. Elementary c x inside.rest)) e ((is_leaf c).found inside.rest))
leaf_out c p inside after h None e =
    λ fs. broken (must (leaf c) fs) p _ (bad_content inside after h (λ v s. none_some v (sym e ∙ (is_leaf c).only v inside.rest s)))

-- ---- one after another
each_out : (k : Kind) → ((q : Place) → ElementOut k q (element_at k q)) → (fuel : ℕ) (p : Place) (bytes : List ℕ) → p.rest ≡ bytes → length bytes ≤ fuel
    → FieldsOut (each k) p (each_from (element_at k) fuel p bytes)
each_out k out zero p [] w le = w
each_out k out (suc fuel) p [] w le = w
each_out k out zero p (b ∷ bytes) w le = absurd (omega arith)
each_out k out (suc fuel) p (b ∷ bytes) w le =
    bind_by (ElementOut k p) (FieldsOut (each k) p) (element_at k p) _ (out p)
    (λ x s. bind_by (FieldsOut (each k) x.1) (FieldsOut (each k) p) (each_from (element_at k) fuel x.1 x.1.rest) _
    (each_out k out fuel x.1 x.1.rest refl (omega (arith, le, element_some (tag_of k) _ s.front s.spelled, ap length w, ap length s.whole, length-append s.front x.1.rest)))
    (λ vs rest. record { front = s.front; back = x.1.rest; first = s.spelled; rest = rest; whole = s.whole })
    (λ f faults from begin r. faults from begin (after_element x.0 (one_more r some) s)))
    (λ f faults from begin r. faults (each k) from begin (one_more r some))
  where
    some : p.rest ≢ []
    some = λ z. absurd (cons_nil b bytes (sym w ∙ z))

mutual
  unfolding element_at

  pub element_out : (k : Kind) (p : Place) → ElementOut k p (element_at k p)
  element_out (leaf c) p =
      bind_by (HeadOut (leaf_of c).tag p) (ElementOut (leaf c) p) (enter_at (leaf_of c).tag p) _ (head_out (leaf_of c).tag p)
      (λ e h. leaf_out c p e.0 e.1 h (content_of c e.0.rest) refl)
      (λ f faults fs. broken (must (leaf c) fs) p f (faults (leaf c) fs refl))
  element_out (wrapped tag k) p =
      bind_by (HeadOut tag p) (ElementOut (wrapped tag k) p) (enter_at tag p) _ (head_out tag p)
      (λ e h. bind_by (ElementOut k e.0) (ElementOut (wrapped tag k) p) (element_at k e.0) _ (element_out k e.0)
      (λ x s. bind_by (FieldsOut ends x.1) (ElementOut (wrapped tag k) p) (finish_at x.1) _ (end_out x.1)
      (λ u end. stands (wrapped tag k) x.0 p e.0 e.1 h (alone k x.0 e.0 x.1 s end))
      (λ f faults fs from begin r. faults from begin (after_element x.0 (inside_wrapped r h) s)))
      (λ f faults fs from begin r. faults ends from begin (inside_wrapped r h)))
      (λ f faults fs. broken (must (wrapped tag k) fs) p f (faults (wrapped tag k) fs refl))
  element_out (sequence gs) p =
      bind_by (HeadOut 0x30 p) (ElementOut (sequence gs) p) (enter_at 0x30 p) _ (head_out 0x30 p)
      (λ e h. bind_by (FieldsOut gs e.0) (ElementOut (sequence gs) p) (fields_at gs e.0) _ (fields_out gs e.0)
      (λ v s. stands (sequence gs) v p e.0 e.1 h s)
      (λ f faults fs from begin r. faults from begin (inside_sequence r h)))
      (λ f faults fs. broken (must (sequence gs) fs) p f (faults (sequence gs) fs refl))

  pub fields_out : (fs : Fields) (p : Place) → FieldsOut fs p (fields_at fs p)
  fields_out ends p = end_out p
  fields_out (must k fs) p =
      bind_by (ElementOut k p) (FieldsOut (must k fs) p) (element_at k p) _ (element_out k p)
      (λ x s. bind_by (FieldsOut fs x.1) (FieldsOut (must k fs) p) (fields_at fs x.1) _ (fields_out fs x.1)
      (λ v rest. record { front = s.front; back = x.1.rest; first = s.spelled; rest = rest; whole = s.whole })
      (λ f faults from begin r. faults from begin (after_element x.0 r s)))
      (λ f faults from begin r. faults fs from begin r)
  fields_out (may k fs) p =
      cond_both (begins (tag_of k) p.rest) _ _ (FieldsOut (may k fs) p)
      (λ b. bind_by (ElementOut k p) (FieldsOut (may k fs) p) (element_at k p) _ (element_out k p)
      (λ x s. bind_by (FieldsOut fs x.1) (FieldsOut (may k fs) p) (fields_at fs x.1) _ (fields_out fs x.1)
      (λ v rest. record { front = s.front; back = x.1.rest; first = s.spelled; rest = rest; whole = s.whole })
      (λ f faults from begin r. faults from begin (after_element x.0 (is_there r b) s)))
      (λ f faults from begin r. faults fs from begin (is_there r b)))
      (λ b. bind_by (FieldsOut fs p) (FieldsOut (may k fs) p) (fields_at fs p) _ (fields_out fs p)
      (λ v rest. record { front = []; back = p.rest; first = refl; rest = rest; whole = refl })
      (λ f faults from begin r. faults from begin (is_absent r b)))
  fields_out (each k) p = each_out k (λ q. element_out k q) (length p.rest) p p.rest refl (le_refl (length p.rest))
