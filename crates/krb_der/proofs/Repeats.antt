-- One element after another, up to the end: reading the first and then the others, as a whole.
use Rattle.std.proofs.Common.{◌≡◌, ◌≢◌, true, ℕ, zero, suc, ◌<◌, ◌≤◌, List, [], ◌∷◌, ◌++◌, length, Result, Ok, Err, refl, sym, ap, ◌∙◌, arith, length-append}
use Rattle.std.proofs.Math.Nat.{le_refl}
use Rattle.std.proofs.lemmas.Bool.{cond_both}
use Rattle.krb_der.specs.declared.fault.Fault.{Fault}
use Rattle.krb_der.specs.Place.{Place}
use Rattle.krb_der.specs.Fault.{HasHead}
use Rattle.krb_der.specs.Computed.Steps.{◌>>=◌}
use Rattle.krb_der.specs.Computed.Gives.{checked}
use Rattle.krb_der.specs.Computed.Read.{enter_at, each_from, each_at}
use Rattle.krb_der.specs.Computed.Parts.{is_unknown, unknown_from, unknown_at, all_at}
use Rattle.krb_der.proofs.LengthLaws.{no_value}
use Rattle.krb_der.proofs.ElementSteps.{enter_at_read, bind_at}

bind_same : {A B E : Type 0} (r : Result A E) (f g : A → Result B E) → ((x : A) → r ≡ Ok x → f x ≡ g x) → (r >>= f) ≡ (r >>= g)
bind_same (Ok x) f g h = h x refl
bind_same (Err d) f g h = refl

pub checked_more : {V : Type 0} (v : V) (r : Result (List V) Fault) → checked (r >>= λ xs. Ok (v ∷ xs)) ≡ checked r
checked_more v (Ok xs) = refl
checked_more v (Err f) = refl

is_more : (l : List ℕ) → l ≢ [] → (b : ℕ) × (bytes : List ℕ) × (l ≡ b ∷ bytes)
is_more [] some = absurd (some refl)
is_more (b ∷ bytes) some = (b, bytes, refl)

-- for a step that takes a byte at least
module _ {A : Type 0} (read : Place → Result (A × Place) Fault) (shrinks : (p : Place) (v : A) (q : Place) → read p ≡ Ok (v, q) → length q.rest < length p.rest) where
  -- more fuel than bytes makes no difference
  each_fuel : (n m : ℕ) (p : Place) (bytes : List ℕ) → p.rest ≡ bytes → length bytes ≤ n → length bytes ≤ m → each_from read n p bytes ≡ each_from read m p bytes
  each_fuel n m p [] w a c = refl
  each_fuel zero m p (b ∷ bytes) w a c = absurd (omega (arith, a))
  each_fuel (suc n) zero p (b ∷ bytes) w a c = absurd (omega (arith, c))
  each_fuel (suc n) (suc m) p (b ∷ bytes) w a c =
      bind_same (read p) _ _ (λ x e. ap (λ (r : Result (List A) Fault). r >>= λ xs. Ok (x.0 ∷ xs))
      (each_fuel n m x.1 x.1.rest refl (omega (arith, a, shrinks p x.0 x.1 e, ap length w)) (omega (arith, c, shrinks p x.0 x.1 e, ap length w))))

  pub all_nil : (p : Place) → p.rest ≡ [] → each_at read p ≡ Ok []
  all_nil p w = ap (λ (l : List ℕ). each_from read (length l) p l) w

  pub all_more : (p : Place) → p.rest ≢ [] → each_at read p ≡ (read p >>= λ x. each_at read x.1 >>= λ xs. Ok (x.0 ∷ xs))
  all_more p some =
      let m = is_more p.rest some in
      ap (λ (l : List ℕ). each_from read (length l) p l) m.2
      ∙ bind_same (read p) _ _ (λ x e. ap (λ (r : Result (List A) Fault). r >>= λ xs. Ok (x.0 ∷ xs))
      (each_fuel (length m.1) (length x.1.rest) x.1 x.1.rest refl (omega (arith, shrinks p x.0 x.1 e, ap length m.2)) (le_refl (length x.1.rest))))

  pub all_step : (p : Place) (v : A) (q : Place) → read p ≡ Ok (v, q) → checked (each_at read q) ≡ checked (each_at read p)
  all_step p v q e =
      let some : p.rest ≢ [] = λ w. absurd (omega (arith, shrinks p v q e, ap length w)) in
      sym (ap checked (all_more p some ∙ bind_at (read p) _ (v, q) e) ∙ checked_more v (each_at read q))

  pub all_fault : (p : Place) (f : Fault) → read p ≡ Err f → p.rest ≢ [] → checked (each_at read p) ≡ Err f
  all_fault p f e some = ap checked (all_more p some ∙ ap (λ r. r >>= λ x. each_at read x.1 >>= λ xs. Ok (x.0 ∷ xs)) e)

  pub all_end : (p : Place) → p.rest ≡ [] → checked (each_at read p) ≡ Ok tt
  all_end p w = ap checked (all_nil p w)

-- ---- elements with one tag, and elements that aren't known
pub head_shorter : (tag : ℕ) (here inside after : Place) → HasHead tag here inside after → length after.rest < length here.rest
head_shorter tag here inside after h =
    omega (arith, ap length h.whole, length-append h.size (inside.rest ++ after.rest), length-append (h.size ++ inside.rest) after.rest, length-append h.size inside.rest, length-append inside.rest after.rest)

pub enter_shrinks : (tag : ℕ) (p inside after : Place) → enter_at tag p ≡ Ok (inside, after) → length after.rest < length p.rest
enter_shrinks tag p inside after e = head_shorter tag p inside after (enter_at_read tag p inside after e)

pub each_step : (tag : ℕ) (p inside after : Place) → enter_at tag p ≡ Ok (inside, after) → all_at (enter_at tag) after ≡ all_at (enter_at tag) p
each_step tag p inside after e = all_step (enter_at tag) (enter_shrinks tag) p inside after e

pub each_fault : (tag : ℕ) (p : Place) (f : Fault) → enter_at tag p ≡ Err f → p.rest ≢ [] → all_at (enter_at tag) p ≡ Err f
each_fault tag p f e some = all_fault (enter_at tag) (enter_shrinks tag) p f e some

pub each_end : (tag : ℕ) (p : Place) → p.rest ≡ [] → all_at (enter_at tag) p ≡ Ok tt
each_end tag p w = all_end (enter_at tag) (enter_shrinks tag) p w

-- which tag it is
pub unknown_tag : (from to : ℕ) (p inside after : Place) → unknown_at from to p ≡ Ok (inside, after) → (tag : ℕ) × (bytes : List ℕ) × (p.rest ≡ tag ∷ bytes) × (is_unknown from to tag ≡ true) × (enter_at tag p ≡ Ok (inside, after))
unfolding unknown_at
unknown_tag from to p inside after e = by p.rest refl e
  where
    by : (rest : List ℕ) → p.rest ≡ rest → unknown_from from to p rest ≡ Ok (inside, after) → (tag : ℕ) × (bytes : List ℕ) × (p.rest ≡ tag ∷ bytes) × (is_unknown from to tag ≡ true) × (enter_at tag p ≡ Ok (inside, after))
    by [] w k = absurd (no_value _ (inside, after) k)
    by (tag ∷ bytes) w k =
        cond_both (is_unknown from to tag) (enter_at tag p) _ (λ r. r ≡ Ok (inside, after) → (t : ℕ) × (bs : List ℕ) × (p.rest ≡ t ∷ bs) × (is_unknown from to t ≡ true) × (enter_at t p ≡ Ok (inside, after)))
        (λ is j. (tag, bytes, w, is, j)) (λ isnt j. absurd (no_value _ (inside, after) j)) k

pub unknown_shrinks : (from to : ℕ) (p inside after : Place) → unknown_at from to p ≡ Ok (inside, after) → length after.rest < length p.rest
unknown_shrinks from to p inside after e = let t = unknown_tag from to p inside after e in enter_shrinks t.0 p inside after t.4

pub unknown_step : (from to : ℕ) (p inside after : Place) → unknown_at from to p ≡ Ok (inside, after) → all_at (unknown_at from to) after ≡ all_at (unknown_at from to) p
unknown_step from to p inside after e = all_step (unknown_at from to) (unknown_shrinks from to) p inside after e

pub unknown_fault : (from to : ℕ) (p : Place) (f : Fault) → unknown_at from to p ≡ Err f → p.rest ≢ [] → all_at (unknown_at from to) p ≡ Err f
unknown_fault from to p f e some = all_fault (unknown_at from to) (unknown_shrinks from to) p f e some

pub unknown_end : (from to : ℕ) (p : Place) → p.rest ≡ [] → all_at (unknown_at from to) p ≡ Ok tt
unknown_end from to p w = all_end (unknown_at from to) (unknown_shrinks from to) p w
