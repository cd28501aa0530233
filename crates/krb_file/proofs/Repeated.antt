-- Fields of one kind, one after the other: their law, and how a loop reads them.
use Rattle.std.proofs.Common.{◌≡◌, ℕ, zero, suc, ◌+◌, ◌-◌, ◌<◌, ◌≤◌, List, [], ◌∷◌, ◌++◌, length, Option, Some, None, refl, sym, ap, subst, ◌∙◌, append_assoc, append-nil, add-zero, arith}
use Rattle.std.specs.List.{flat_map, AllByRecursion}
use Rattle.std.proofs.lemmas.List.{length-append}
use Rattle.krb_file.specs.Cursor.{Place, ◌>>=◌, times_at}
use Rattle.krb_file.specs.Field.{IsBytes, Takes, IsField}
use Rattle.krb_file.proofs.CursorLaws.{bind_some, some_is, Takes-then}

module _ {X : Type 0} (read : Place → Option (X × Place)) (spelled : X → List ℕ) (InRange : X → Type 0) (field : IsField read spelled InRange) where
  nothing_takes : (place : Place) → IsBytes place.rest → Takes place [] place
  nothing_takes place fits = record { parts = refl; at = omega arith; text_fits = λ i. omega arith; rest_fits = fits }

  times_take : (count : ℕ) (place : Place) (xs : List X) (behind : Place) → IsBytes place.rest → times_at read count place ≡ Some (xs, behind)
      → Takes place (flat_map spelled xs) behind × ((length xs ≡ count) × AllByRecursion InRange xs)
  unfolding times_at
  times_take zero place xs behind fits e =
      subst (λ (p : List X × Place). Takes place (flat_map spelled p.0) p.1 × ((length p.0 ≡ 0) × AllByRecursion InRange p.0)) (some_is ([], place) (xs, behind) e)
      (nothing_takes place fits, (refl, tt))
  times_take (suc count) place xs behind fits e =
      let a = bind_some (read place) (λ first. times_at read count first.1 >>= λ others. Some (first.0 ∷ others.0, others.1)) (xs, behind) e in
      let b = bind_some (times_at read count a.0.1) (λ others. Some (a.0.0 ∷ others.0, others.1)) (xs, behind) a.2 in
      let first = field.takes place a.0.0 a.0.1 fits a.1 in
      let others = times_take count a.0.1 b.0.0 b.0.1 first.0.rest_fits b.1 in
      subst (λ (p : List X × Place). Takes place (flat_map spelled p.0) p.1 × ((length p.0 ≡ suc count) × AllByRecursion InRange p.0)) (some_is (a.0.0 ∷ b.0.0, b.0.1) (xs, behind) b.2)
      (Takes-then place (spelled a.0.0) a.0.1 (flat_map spelled b.0.0) b.0.1 first.0 others.0, (ap suc others.1.0, (first.1, others.1.1)))

  times_again : (count at : ℕ) (xs : List X) (rest : List ℕ) → (length xs ≡ count) × AllByRecursion InRange xs
      → times_at read count (record { at = at; rest = flat_map spelled xs ++ rest }) ≡ Some (xs, record { at = at + length (flat_map spelled xs); rest = rest })
  unfolding times_at
  times_again zero at [] rest h = rw (add-zero) refl
  times_again zero at (x ∷ xs) rest h = absurd (omega (arith, h.0))
  times_again (suc count) at [] rest h = absurd (omega (arith, h.0))
  times_again (suc count) at (x ∷ xs) rest h =
      let grouped : flat_map spelled (x ∷ xs) ++ rest ≡ spelled x ++ (flat_map spelled xs ++ rest) = append_assoc (spelled x) (flat_map spelled xs) rest in
      let first = field.again at x (flat_map spelled xs ++ rest) h.1.0 in
      let others = times_again count (at + length (spelled x)) xs rest (omega (arith, h.0), h.1.1) in
      let place : at + length (spelled x) + length (flat_map spelled xs) ≡ at + length (flat_map spelled (x ∷ xs)) = omega (arith, length-append (spelled x) (flat_map spelled xs)) in
      rw (grouped, first, others, place) refl

  pub IsField-times : (count : ℕ) → IsField (times_at read count) (flat_map spelled) (λ xs. (length xs ≡ count) × AllByRecursion InRange xs)
  IsField-times count = record { takes = times_take count; again = times_again count }

-- ---- a loop that reads them: what was read before, and what is still read

module _ {X : Type 0} (read : Place → Option (X × Place)) where
  abbrev pub with_front : List X → Option (List X × Place) → Option (List X × Place)
  with_front front others = others >>= λ x. Some (front ++ x.0, x.1)

  regroup : (front : List X) (x : X) (others : Option (List X × Place)) → with_front front (others >>= λ y. Some (x ∷ y.0, y.1)) ≡ with_front (front ++ x ∷ []) others
  regroup front x (Some y) = ap (λ (xs : List X). Some (xs, y.1)) (sym (append_assoc front (x ∷ []) y.0))
  regroup front x None = refl

  pub times_goes_on : (front : List X) (count i : ℕ) (place : Place) (x : X) (behind : Place) (total : Option (List X × Place)) → i < count → read place ≡ Some (x, behind)
      → with_front front (times_at read (count - i) place) ≡ total → with_front (front ++ x ∷ []) (times_at read (count - (i + 1)) behind) ≡ total
  unfolding times_at
  times_goes_on front count i place x behind total lt h so_far =
      let k : count - i ≡ suc (count - (i + 1)) = omega arith in
      let one : with_front front (times_at read (count - i) place) ≡ with_front (front ++ x ∷ []) (times_at read (count - (i + 1)) behind) = rw (k, h) (regroup front x (times_at read (count - (i + 1)) behind)) in
      sym one ∙ so_far

  pub times_stops : (front : List X) (count i : ℕ) (place : Place) (total : Option (List X × Place)) → i < count → read place ≡ None → with_front front (times_at read (count - i) place) ≡ total
      → total ≡ None
  unfolding times_at
  times_stops front count i place total lt h so_far =
      let k : count - i ≡ suc (count - (i + 1)) = omega arith in
      let one : with_front front (times_at read (count - i) place) ≡ None = rw (k, h) refl in
      sym so_far ∙ one

  pub times_done : (front : List X) (count i : ℕ) (place : Place) (total : Option (List X × Place)) → count ≤ i → with_front front (times_at read (count - i) place) ≡ total
      → total ≡ Some (front, place)
  unfolding times_at
  times_done front count i place total le so_far =
      let k : count - i ≡ 0 = omega arith in
      let one : with_front front (times_at read (count - i) place) ≡ Some (front, place) = rw k (ap (λ (xs : List X). Some (xs, place)) (append-nil front)) in
      sym so_far ∙ one
