-- Finding parts in place gives exactly what the relations say.
use Rattle.std.proofs.Common.{◌≡◌, ◌≢◌, true, false, ℕ, zero, suc, ◌<◌, ◌≤◌, List, [], ◌∷◌, length, Option, Some, None, Result, Ok, Err, refl, sym, ap, subst, ◌∙◌, arith}
use Rattle.std.specs.Prelude.{◌↔◌, IfOk, IfErr}
use Rattle.std.proofs.Math.Nat.{le_refl}
use Rattle.std.proofs.lemmas.Bool.{cond_both, eq-eqb, eqb-true, false≢true, true≢false}
use Rattle.std.proofs.lemmas.Bool.Decides.{nat_tests}
use Rattle.krb_der.specs.declared.fault.Fault.{Fault}
use Rattle.krb_der.specs.declared.fault.FaultKind.TheVariants.{Trailing}
use Rattle.krb_der.specs.Kind.{wrapped}
use Rattle.krb_der.specs.Content.{Elementary}
use Rattle.krb_der.specs.Place.{Place, begins}
use Rattle.krb_der.specs.Fault.{HasHead, IsHeadFault}
use Rattle.krb_der.specs.Parts.{Parts, ended, anything, each_of, unknown, last, must, may, PlacesOf, AreAll, no_more, one_more, IsUnknown, HasUnknown, HasElement, MayHaveElement, Stand}
use Rattle.krb_der.specs.PartsFault.{IsLeft, AreAllFault, of_one, of_later, IsUnknownFault, is_known, of_unknown, last_head, not_last, in_last, IsMustFault, must_head, in_must, after_must, there, absent, PartsFault, Finds}
use Rattle.krb_der.specs.Computed.Steps.{◌>>=◌}
use Rattle.krb_der.specs.Computed.Gives.{Fills, checked}
use Rattle.krb_der.specs.Computed.Read.{enter_at, finish_at, finish_from, each_from}
use Rattle.krb_der.specs.Computed.Parts.{is_unknown, unknown_from, unknown_at, parts_at}
use Rattle.krb_der.proofs.LengthLaws.{no_value}
use Rattle.krb_der.proofs.ElementSteps.{same_ok, cons_nil, HeadOut, head_out, enter_at-head}
use Rattle.krb_der.proofs.Steps.{Reads, reads-as, reads-made, reads-then, reads-both}
use Rattle.krb_der.proofs.Repeats.{checked_more, head_shorter}

-- ---- one step
pub reads-enter : (tag : ℕ) (p : Place) → Reads (enter_at tag p) (λ (x : Place × Place). HasHead tag p x.0 x.1) (IsHeadFault Elementary tag p)
reads-enter tag p = let o = by (enter_at tag p) (head_out tag p) in record { found = o.0; only = λ v h. enter_at-head tag p v.0 v.1 h; faulty = o.1 }
  where
    by : (r : Result (Place × Place) Fault) → HeadOut tag p r → IfOk r (λ x. HasHead tag p x.0 x.1) × IfErr r (IsHeadFault Elementary tag p)
    by (Ok x) h = (h, tt)
    by (Err f) h = (tt, λ k fs. h (wrapped tag k) fs refl)

pub reads-end : (p : Place) → Reads (finish_at p) (λ (u : Unit {0}). p.rest ≡ []) (IsLeft p)
unfolding finish_at
reads-end p = let o = by p.rest refl in record { found = o.0; only = λ v nil. ap (finish_from p) nil; faulty = o.1 }
  where
    by : (rest : List ℕ) → p.rest ≡ rest → IfOk (finish_from p rest) (λ (u : Unit {0}). p.rest ≡ []) × IfErr (finish_from p rest) (IsLeft p)
    by [] w = (w, tt)
    by (b ∷ bytes) w = (tt, record { more = λ nil. absurd (cons_nil b bytes (sym w ∙ nil)); fault_is = refl })

-- ---- elements up to the end
module _ (read : Place → Result (Place × Place) Fault) (Is : Place → Place → Place → Type 0) (IsFault : Place → Fault → Type 0)
    (reads : (p : Place) → Reads (read p) (λ (x : Place × Place). Is p x.0 x.1) (IsFault p)) (shorter : (p inside after : Place) → Is p inside after → length after.rest < length p.rest) where
  abbrev All : Place → Result (Unit {0}) Fault → Type 0
  All p r = Reads r (λ u. AreAll Is p) (AreAllFault Is IsFault p)

  one : (p : Place) (next : Place → Result (List Place) Fault) → p.rest ≢ [] → (r : Result (Place × Place) Fault) → Reads r (λ (x : Place × Place). Is p x.0 x.1) (IsFault p)
      → ((x : Place × Place) → Is p x.0 x.1 → All x.1 (checked (next x.1))) → All p (checked (r >>= λ x. next x.1 >>= λ xs. Ok (x.0 ∷ xs)))
  one p next some (Err f) h others = record { found = tt; only = λ u k. absurd (none k); faulty = of_one some h.faulty }
    where
      none : AreAll Is p → ⊥
      none (no_more nil) = absurd (some nil)
      none (one_more inside after is k) = no_value f (inside, after) (h.only (inside, after) is)
  one p next some (Ok x) h others =
      subst (All p) (sym (checked_more x.0 (next x.1)))
      (reads-as (checked (next x.1)) (others x h.found) (λ u k. one_more x.0 x.1 h.found k) (λ u k. back k) (λ f k. of_later x.0 x.1 h.found k))
    where
      back : AreAll Is p → AreAll Is x.1
      back (no_more nil) = absurd (some nil)
      back (one_more inside after is k) = subst (AreAll Is) (sym (ap (λ (y : Place × Place). y.1) (same_ok {E = Fault} x (inside, after) (h.only (inside, after) is)))) k

  pub reads-all : (fuel : ℕ) (p : Place) (bytes : List ℕ) → p.rest ≡ bytes → length bytes ≤ fuel → All p (checked (each_from read fuel p bytes))
  reads-all zero p [] w le = record { found = no_more w; only = λ u k. refl; faulty = tt }
  reads-all (suc fuel) p [] w le = record { found = no_more w; only = λ u k. refl; faulty = tt }
  reads-all zero p (b ∷ bytes) w le = absurd (omega (arith, le))
  reads-all (suc fuel) p (b ∷ bytes) w le =
      one p (λ q. each_from read fuel q q.rest) (λ nil. absurd (cons_nil b bytes (sym w ∙ nil))) (read p) (reads p)
      (λ x is. reads-all fuel x.1 x.1.rest refl (omega (arith, le, shorter p x.0 x.1 is, ap length w)))

-- ---- elements that aren't known
unknown-true : (from to tag : ℕ) → is_unknown from to tag ≡ true → IsUnknown from to tag
unknown-true from to tag e = (grind (arith, nat_tests), grind (arith, nat_tests))

unknown-false : (from to tag : ℕ) → is_unknown from to tag ≡ false → IsUnknown from to tag → ⊥
unknown-false from to tag e h = grind (arith, nat_tests)

head_begins : (tag : ℕ) (p inside after : Place) → HasHead tag p inside after → begins tag p.rest ≡ true
head_begins tag p inside after h = ap (begins tag) h.whole ∙ eq-eqb tag tag refl

begins_at : (tag b : ℕ) (bytes rest : List ℕ) → rest ≡ b ∷ bytes → begins tag rest ≡ true → tag ≡ b
begins_at tag b bytes rest w e = sym (eqb-true b tag (sym (ap (begins tag) w) ∙ e))

begins_none : (tag : ℕ) (rest : List ℕ) → rest ≡ [] → begins tag rest ≡ true → ⊥
begins_none tag rest w e = false≢true (sym (ap (begins tag) w) ∙ e)

reads-unknown : (from to : ℕ) (p : Place) → Reads (unknown_at from to p) (λ (x : Place × Place). HasUnknown from to p x.0 x.1) (IsUnknownFault from to p)
unfolding unknown_at
reads-unknown from to p = by p.rest refl
  where
    not-known : (f : Fault) → f ≡ record { kind = Trailing; at = p.at } → ((tag : ℕ) → begins tag p.rest ≡ true → IsUnknown from to tag → ⊥)
        → Reads (Err f) (λ (x : Place × Place). HasUnknown from to p x.0 x.1) (IsUnknownFault from to p)
    not-known f is isnt = record { found = tt; only = λ x k. absurd (isnt k.tag (head_begins k.tag p x.0 x.1 k.head) k.is_unknown); faulty = is_known isnt is }

    by : (rest : List ℕ) → p.rest ≡ rest → Reads (unknown_from from to p rest) (λ (x : Place × Place). HasUnknown from to p x.0 x.1) (IsUnknownFault from to p)
    by [] w = not-known _ refl (λ tag b u. begins_none tag p.rest w b)
    by (tag ∷ bytes) w =
        cond_both (is_unknown from to tag) (enter_at tag p) _ (λ r. Reads r (λ (x : Place × Place). HasUnknown from to p x.0 x.1) (IsUnknownFault from to p))
        (λ is. reads-as (enter_at tag p) (reads-enter tag p) (λ x h. record { tag = tag; is_unknown = unknown-true from to tag is; head = h })
        (λ x k. subst (λ t. HasHead t p x.0 x.1) (begins_at k.tag tag bytes p.rest w (head_begins k.tag p x.0 x.1 k.head)) k.head)
        (λ f h. of_unknown tag (ap (begins tag) w ∙ eq-eqb tag tag refl) (unknown-true from to tag is) h))
        (λ isnt. not-known _ refl (λ t b u. unknown-false from to tag isnt (subst (IsUnknown from to) (begins_at t tag bytes p.rest w b) u)))

unknown_shorter : (from to : ℕ) (p inside after : Place) → HasUnknown from to p inside after → length after.rest < length p.rest
unknown_shorter from to p inside after k = head_shorter k.tag p inside after k.head

-- ---- parts
module _ {A B W : Type 0} {Inside : A → Place → Type 0} {After : B → Place → Type 0} {InsideFault AfterFault : Place → Fault → Type 0} {read : Place → Result A Fault} {others : Place → Result B Fault}
    (made : A → B → W) (inside : (p : Place) → Reads (read p) (λ v. Inside v p) (InsideFault p)) (after : (p : Place) → Reads (others p) (λ v. After v p) (AfterFault p)) where
  reads-first : (tag : ℕ) (p : Place) {Whole : W → Type 0} {WholeFault : Fault → Type 0} → ((v : A) (w : B) → HasElement tag (Inside v) (After w) p → Whole (made v w))
      → ((w : W) → Whole w → (v : A) × (u : B) × HasElement tag (Inside v) (After u) p × (made v u ≡ w))
      → ((f : Fault) → IsMustFault tag (λ q. (v : A) × Inside v q) InsideFault AfterFault p f → WholeFault f)
      → Reads (enter_at tag p >>= λ e. read e.0 >>= λ x. others e.1 >>= λ y. Ok (made x y)) Whole WholeFault
  reads-first tag p {Whole = Whole} join split faults =
      reads-then {Next = λ e w. (v : A) × (u : B) × Inside v e.0 × After u e.1 × (made v u ≡ w)} (enter_at tag p) _ (reads-enter tag p)
      (λ e h. reads-both made (read e.0) (λ x. others e.1) (inside e.0) (λ x is. after e.1) (λ v u a b. (v, u, a, b, refl)) (λ w k. k) (λ f k. in_must e.0 e.1 h k)
      (λ v f is k. after_must e.0 e.1 h (v, is) k))
      (λ e w h k. subst Whole k.4 (join k.0 k.1 (record { inside = e.0; after = e.1; head = h; is = k.2; others = k.3 })))
      (λ w k. let s = split w k in ((s.2.inside, s.2.after), s.2.head, (s.0, s.1, s.2.is, s.2.others, s.3)))
      (λ f k. faults f (must_head k)) (λ e f h k. faults f k)

pub reads-parts : (ps : Parts) (p : Place) → Reads (parts_at ps p) (λ v. Stand ps v p) (PartsFault ps p)
unfolding parts_at
reads-parts ended p = reads-end p
reads-parts anything p = record { found = refl; only = λ v e. ap Ok e; faulty = tt }
reads-parts (each_of tag) p = reads-all (enter_at tag) (HasHead tag) (IsHeadFault Elementary tag) (reads-enter tag) (head_shorter tag) (length p.rest) p p.rest refl (le_refl (length p.rest))
reads-parts (unknown from to) p =
    reads-all (unknown_at from to) (HasUnknown from to) (IsUnknownFault from to) (reads-unknown from to) (unknown_shorter from to) (length p.rest) p p.rest refl (le_refl (length p.rest))
reads-parts (last tag ps) p =
    reads-then {Next = λ e v. (e.1.rest ≡ []) × Stand ps v e.0} (enter_at tag p) _ (reads-enter tag p)
    (λ e h. reads-then {Next = λ u v. Stand ps v e.0} (finish_at e.1) _ (reads-end e.1) (λ u nil. reads-parts ps e.0) (λ u v nil k. (nil, k)) (λ v k. (tt, k.0, k.1))
    (λ f k. not_last e.0 e.1 h k) (λ u f nil k. in_last e.0 e.1 h nil k))
    (λ e v h k. record { inside = e.0; after = e.1; head = h; is = k.1; others = k.0 }) (λ v k. ((k.inside, k.after), k.head, (k.others, k.is)))
    (λ f k. last_head k) (λ e f h k. k)
reads-parts (must tag ps qs) p =
    reads-first (λ v w. (v, w)) (λ q. reads-parts ps q) (λ q. reads-parts qs q) tag p (λ v w h. h) (λ w h. (w.0, w.1, h, refl)) (λ f k. k)
reads-parts (may tag ps qs) p =
    cond_both (begins tag p.rest) _ _ (λ r. Reads r (λ v. Stand (may tag ps qs) v p) (PartsFault (may tag ps qs) p))
    (λ b. reads-first (λ v w. (Some v, w)) (λ q. reads-parts ps q) (λ q. reads-parts qs q) tag p (λ v w h. h) (λ w h. is-there b w.0 w.1 h) (λ f k. there b k))
    (λ b. reads-made (λ w. (None, w)) (parts_at qs p) (reads-parts qs p) (λ w h. (b, h)) (λ w h. is-absent b w.0 w.1 h) (λ f k. absent b k))
  where
    is-there : begins tag p.rest ≡ true → (o : Option (PlacesOf ps)) (w : PlacesOf qs) → MayHaveElement tag (λ x. Stand ps x) (Stand qs w) o p
        → (v : PlacesOf ps) × (u : PlacesOf qs) × HasElement tag (Stand ps v) (Stand qs u) p × (◌≡◌ {A = Option (PlacesOf ps) × PlacesOf qs} (Some v, u) (o, w))
    is-there b None w h = absurd (true≢false (sym b ∙ h.0))
    is-there b (Some v) w h = (v, w, h, refl)

    is-absent : begins tag p.rest ≡ false → (o : Option (PlacesOf ps)) (w : PlacesOf qs) → MayHaveElement tag (λ x. Stand ps x) (Stand qs w) o p
        → (u : PlacesOf qs) × Stand qs u p × (◌≡◌ {A = Option (PlacesOf ps) × PlacesOf qs} (None, u) (o, w))
    is-absent b None w h = (w, h.1, refl)
    is-absent b (Some v) w h = absurd (true≢false (sym (head_begins tag p h.inside h.after h.head) ∙ b))

-- ---- what calls answer
pub finds : {X : Type 0} (ps : Parts) (view : X → PlacesOf ps) (r : Result X Fault) (here : Place) → Fills view r (parts_at ps here) → Finds ps view r here
finds ps view (Ok x) here e =
    let h : Reads (Ok (view x)) (λ v. Stand ps v here) (PartsFault ps here) = subst (λ s. Reads s (λ v. Stand ps v here) (PartsFault ps here)) e (reads-parts ps here) in
    record { found = h.found; only = λ v k. same_ok {E = Fault} (view x) v (h.only v k); faulty = tt }
finds ps view (Err f) here e =
    let h : Reads (Err f) (λ v. Stand ps v here) (PartsFault ps here) = subst (λ s. Reads s (λ v. Stand ps v here) (PartsFault ps here)) e (reads-parts ps here) in
    record { found = tt; only = λ v k. absurd (no_value f v (h.only v k)); faulty = h.faulty }

pub found_exactly : (ps : Parts) (v : PlacesOf ps) (here : Place) → (parts_at ps here ≡ Ok v) ↔ Stand ps v here
found_exactly ps v here = (λ e. subst (λ s. IfOk s (λ v. Stand ps v here)) e (reads-parts ps here).found, λ k. (reads-parts ps here).only v k)

pub refused_rightly : (ps : Parts) (here : Place) (f : Fault) → parts_at ps here ≡ Err f → PartsFault ps here f
refused_rightly ps here f e = subst (λ s. IfErr s (PartsFault ps here)) e (reads-parts ps here).faulty
