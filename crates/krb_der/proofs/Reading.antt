-- A call that gives what reading gives reads an element, and reading gives what the relations say.
use Rattle.std.proofs.Common.{◌≡◌, List, Option, Some, None, subst, true, false, ℕ, Result, Ok, Err, refl, sym, ap, ◌∙◌}
use Rattle.std.specs.Prelude.{◌↔◌}
use Rattle.std.proofs.lemmas.Bool.{cond_both, eq-eqb, true≢false}
use Rattle.krb_der.specs.declared.fault.Fault.{Fault}
use Rattle.krb_der.specs.Kind.{Kind, wrapped, Fields, must, each, ValueOf, FieldsOf}
use Rattle.krb_der.specs.Content.{Elementary}
use Rattle.krb_der.specs.Place.{Place, begins}
use Rattle.krb_der.specs.Spells.{SpellsFields, StandsAt}
use Rattle.krb_der.specs.Fault.{HasHead, IsFaulty, IsElementFault, IsHeadFault, start}
use Rattle.krb_der.specs.Reading.{Reads, ReadsList, Enters, MayEnter}
use Rattle.krb_der.specs.Clear.{is_clear, are_clear}
use Rattle.krb_der.specs.Computed.Gives.{Gives, checked}
use Rattle.krb_der.specs.Computed.Read.{element_at, fields_at, enter_at, may_enter}
use Rattle.krb_der.proofs.LengthLaws.{no_value}
use Rattle.krb_der.proofs.ElementSteps.{answer, enter_at-head, enter_at_read, HeadOut, head_out}
use Rattle.krb_der.proofs.ElementLaws.{element_read, fields_read}
use Rattle.krb_der.proofs.Outcomes.{bind_by, ElementOut, FieldsOut, element_out, fields_out}

pub element_at_found : (k : Kind) (v : ValueOf k) (p after : Place) → element_at k p ≡ Ok (v, after) → StandsAt Elementary k v p after
element_at_found k v p after e = subst (ElementOut k p) e (element_out k p)

pub element_at_fault : (k : Kind) (p : Place) (f : Fault) → element_at k p ≡ Err f → IsElementFault Elementary k p f
element_at_fault k p f e = λ fs. subst (ElementOut k p) e (element_out k p) fs (must k fs) p start

pub reads : {X : Type 0} (k : Kind) (view : X → ValueOf k) (r : Result X Fault) (old new : Place) → is_clear k ≡ true
    → Gives view r old new (element_at k old) → Reads k view r old new
reads k view (Ok x) old new clear e =
    record {
      found = element_at_found k (view x) old new e;
      only = λ v after s. answer (view x) v new after (sym e ∙ element_read k clear v old after s);
      faulty = tt;
      kept = tt;
    }
reads k view (Err f) old new clear e =
    record {
      found = tt;
      only = λ v after s. absurd (no_value f (v, after) (sym e.0 ∙ element_read k clear v old after s));
      faulty = element_at_fault k old f e.0;
      kept = e.1;
    }

pub enters : (tag : ℕ) (r : Result Place Fault) (old new : Place) → Gives (λ (p : Place). p) r old new (enter_at tag old) → Enters tag r old new
enters tag (Ok x) old new e =
    record {
      found = enter_at_read tag old x new e;
      only = λ inside after h. answer x inside new after (sym e ∙ enter_at-head tag old inside after h);
      faulty = tt;
      kept = tt;
    }
enters tag (Err f) old new e =
    record {
      found = tt;
      only = λ inside after h. absurd (no_value f (inside, after) (sym e.0 ∙ enter_at-head tag old inside after h));
      faulty = λ k fs. subst (HeadOut tag old) e.0 (head_out tag old) (wrapped tag k) fs refl;
      kept = e.1;
    }

-- ---- an element that may stand next
head_begins : (tag : ℕ) (p inside after : Place) → HasHead tag p inside after → begins tag p.rest ≡ true
head_begins tag p inside after h = ap (begins tag) h.whole ∙ eq-eqb tag tag refl

may_enter-head : (tag : ℕ) (p inside after : Place) → HasHead tag p inside after → may_enter tag p ≡ Ok (Some inside, after)
unfolding may_enter
may_enter-head tag p inside after h = rw (head_begins tag p inside after h, enter_at-head tag p inside after h) refl

-- it is there with its head, or the next byte is another
abbrev MayOut : ℕ → Place → Result (Option Place × Place) Fault → Type 0
MayOut tag p (Ok (None, q)) = (begins tag p.rest ≡ false) × (q ≡ p)
MayOut tag p (Ok (Some inside, q)) = HasHead tag p inside q
MayOut tag p (Err f) = (begins tag p.rest ≡ true) × IsHeadFault Elementary tag p f

may_out : (tag : ℕ) (p : Place) → MayOut tag p (may_enter tag p)
unfolding may_enter
may_out tag p =
    cond_both (begins tag p.rest) _ _ (MayOut tag p)
    (λ there. bind_by (HeadOut tag p) (MayOut tag p) (enter_at tag p) _ (head_out tag p) (λ e h. h) (λ f faults. (there, λ k fs. faults (wrapped tag k) fs refl)))
    (λ absent. (absent, refl))

pub may_enters : (tag : ℕ) (r : Result (Option Place) Fault) (old new : Place) → Gives (λ (o : Option Place). o) r old new (may_enter tag old) → MayEnter tag r old new
may_enters tag (Ok None) old new e =
    let h = subst (MayOut tag old) e (may_out tag old) in
    record {
      absent = λ b. (refl, h.1);
      found = λ b. absurd (true≢false (sym b ∙ h.0));
      only = λ inside after k. absurd (true≢false (sym (head_begins tag old inside after k) ∙ h.0));
      faulty = tt;
      kept = tt;
    }
may_enters tag (Ok (Some x)) old new e =
    let h : HasHead tag old x new = subst (MayOut tag old) e (may_out tag old) in
    record {
      absent = λ b. absurd (true≢false (sym (head_begins tag old x new h) ∙ b));
      found = λ b. h;
      only = λ inside after k. answer (Some x) (Some inside) new after (sym e ∙ may_enter-head tag old inside after k);
      faulty = tt;
      kept = tt;
    }
may_enters tag (Err f) old new e =
    let h = subst (MayOut tag old) e.0 (may_out tag old) in
    record {
      absent = λ b. absurd (true≢false (sym h.0 ∙ b));
      found = λ b. tt;
      only = λ inside after k. absurd (no_value f (Some inside, after) (sym e.0 ∙ may_enter-head tag old inside after k));
      faulty = h.1;
      kept = e.1;
    }

-- ---- computed reading gives exactly what the relations say
pub element_read_exactly : (k : Kind) → is_clear k ≡ true → (v : ValueOf k) (here after : Place) → (element_at k here ≡ Ok (v, after)) ↔ StandsAt Elementary k v here after
element_read_exactly k clear v here after = (element_at_found k v here after, element_read k clear v here after)

fields_at-found : (fs : Fields) (v : FieldsOf fs) (here : Place) → fields_at fs here ≡ Ok v → SpellsFields Elementary fs v here.rest
fields_at-found fs v here e = subst (FieldsOut fs here) e (fields_out fs here)

pub fields_read_exactly : (fs : Fields) → are_clear fs ≡ true → (v : FieldsOf fs) (here : Place) → (fields_at fs here ≡ Ok v) ↔ SpellsFields Elementary fs v here.rest
fields_read_exactly fs clear v here = (fields_at-found fs v here, fields_read fs clear v here)

pub fields_at_fault : (fs : Fields) (here : Place) (f : Fault) → fields_at fs here ≡ Err f → IsFaulty Elementary fs here f
fields_at_fault fs here f e = subst (FieldsOut fs here) e (fields_out fs here) fs here start

-- a call that checks a list
pub reads-list : (k : Kind) (r : Result (Unit {0}) Fault) (here : Place) → is_clear k ≡ true → r ≡ checked (fields_at (each k) here) → ReadsList k r here
reads-list k r here clear e = subst (λ x. ReadsList k x here) (sym e) (by (fields_at (each k) here) (λ i. fields_at (each k) here))
  where
    by : (read : Result (List (ValueOf k)) Fault) → fields_at (each k) here ≡ read → ReadsList k (checked read) here
    by (Ok vs) h = record { found = (vs, fields_at-found (each k) vs here h); only = λ ws s. search; faulty = tt }
    by (Err f) h =
        record {
          found = tt;
          only = λ ws s. absurd (no_value f ws (sym h ∙ fields_read (each k) clear ws here s));
          faulty = fields_at_fault (each k) here f h;
        }
