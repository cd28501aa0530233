-- Things of one kind stand one after the other until there are no more.
use Rattle.std.proofs.Common.{◌≡◌, ◌⊎◌, ℕ, zero, suc, ◌+◌, ◌<◌, ◌≤◌, List, [], ◌∷◌, ◌++◌, length, Option, Some, None, refl, sym, ap, subst, ◌∙◌, append_assoc, append-nil, arith, inl, inr}
use Rattle.std.specs.List.{flat_map, AllByRecursion}
use Rattle.std.proofs.lemmas.List.{length-append, nil_from_length}
use Rattle.std.proofs.lemmas.List.Concat.{flat_map-append}
use Rattle.std.proofs.lemmas.List.Elements.{All-push, All-from_recursion}
use Rattle.krb_file.specs.Cursor.{Place}
use Rattle.krb_file.specs.Field.{IsBytes, Takes, IsField}
use Rattle.krb_file.proofs.CursorLaws.{some_is, Takes-then}
use Rattle.krb_ccache.specs.Inner.Standing.{Lies, IsMissing, Reaches}

module _ {X : Type 0} (r : Place → Option (X × Place)) (s : X → List ℕ) (P : X → Type 0) (f : IsField r s P) where
  -- one thing is no beginning of another
  pub same_front : (x y : X) (a b : List ℕ) → P x → P y → s x ++ a ≡ s y ++ b → (x ≡ y) × (a ≡ b)
  same_front x y a b p q e =
      let one = f.again 0 x a p in
      let other = f.again 0 y b q in
      let both = some_is (x, record { at = 0 + length (s x); rest = a }) (y, record { at = 0 + length (s y); rest = b }) (sym one ∙ ap (λ (t : List ℕ). r (record { at = 0; rest = t })) e ∙ other) in
      (ap (λ (k : X × Place). k.0) both, ap (λ (k : X × Place). k.1.rest) both)

  -- where nothing is read, nothing stands
  pub missing_where : (place : Place) → r place ≡ None → IsMissing s P place.rest
  missing_where place none x others p e =
      let read : r place ≡ Some (x, record { at = place.at + length (s x); rest = others }) = ap (λ (t : List ℕ). r (record { at = place.at; rest = t })) e ∙ f.again place.at x others p in
      cc

  -- where something is read, it stands
  pub lies_where : (place : Place) (x : X) (behind : Place) → IsBytes place.rest → r place ≡ Some (x, behind) → Lies s P place x behind
  lies_where place x behind fits e = let t = f.takes place x behind fits e in record { fits = t.1; takes = t.0 }

  module _ (some : (x : X) → P x → 0 < length (s x)) where
    -- there are no bytes, or nothing stands there
    abbrev pub Ends : List ℕ → Type 0
    Ends bytes = (bytes ≡ []) ⊎ IsMissing s P bytes

    not_ended : (x : X) (others bytes : List ℕ) → P x → Ends bytes → bytes ≡ s x ++ others → ⊥
    not_ended x others bytes p (inl none) e = let some_bytes : 0 < length (s x) = some x p in omega (arith, ap length (sym none ∙ e), length-append (s x) others)
    not_ended x others bytes p (inr missing) e = missing x others p e

    parts_of : (x : X) (xs : List X) (bytes : List ℕ) → flat_map s (x ∷ xs) ++ bytes ≡ s x ++ (flat_map s xs ++ bytes)
    parts_of x xs bytes = append_assoc (s x) (flat_map s xs) bytes

    -- what was read before is the first of what is read to the end, or of as many and more
    pub first_things : (xs ys : List X) (a b : List ℕ) → AllByRecursion P xs → AllByRecursion P ys → (length xs ≤ length ys) ⊎ Ends b → flat_map s xs ++ a ≡ flat_map s ys ++ b → (zs : List X) × (ys ≡ xs ++ zs) × (a ≡ flat_map s zs ++ b)
    first_things [] ys a b p q ends e = (ys, refl, e)
    first_things (x ∷ xs) [] a b p q (inl few) e = absurd (omega (arith, few))
    first_things (x ∷ xs) [] a b p q (inr end) e = absurd (not_ended x (flat_map s xs ++ a) b p.0 end (sym e ∙ parts_of x xs a))
    first_things (x ∷ xs) (y ∷ ys) a b p q ends e =
        let first = same_front x y (flat_map s xs ++ a) (flat_map s ys ++ b) p.0 q.0 (sym (parts_of x xs a) ∙ e ∙ parts_of y ys b) in
        let others = first_things xs ys a b p.1 q.1 (fewer ends) first.1 in
        (others.0, ap (λ (k : X). k ∷ ys) (sym first.0) ∙ ap (λ (k : List X). x ∷ k) others.1, others.2)
      where
        fewer : (length (x ∷ xs) ≤ length (y ∷ ys)) ⊎ Ends b → (length xs ≤ length ys) ⊎ Ends b
        fewer (inl few) = inl (omega (arith, few))
        fewer (inr end) = inr end

    -- there is one way to read to the end
    pub same_things : (xs ys : List X) (a b : List ℕ) → AllByRecursion P xs → AllByRecursion P ys → Ends a → Ends b → flat_map s xs ++ a ≡ flat_map s ys ++ b → (xs ≡ ys) × (a ≡ b)
    same_things xs ys a b p q ends also e =
        let one = first_things xs ys a b p q (inr also) e in
        let other = first_things ys xs b a q p (inr ends) (sym e) in
        let none : one.0 ≡ [] = nil_from_length one.0 (omega (arith, ap length one.1, ap length other.1, length-append xs one.0, length-append ys other.0)) in
        (sym (one.1 ∙ ap (λ (k : List X). xs ++ k) none ∙ append-nil xs), one.2 ∙ ap (λ (k : List X). flat_map s k ++ b) none)

  -- ---- one more

  pub reach_none : (place : Place) → IsBytes place.rest → Reaches s P place [] place
  reach_none place fits = record { fit = All-from_recursion P [] tt; takes = record { parts = refl; at = omega arith; text_fits = λ i. omega arith; rest_fits = fits } }

  pub reach_more : (place : Place) (xs : List X) (middle : Place) (x : X) (behind : Place) → Reaches s P place xs middle → Lies s P middle x behind → Reaches s P place (xs ++ x ∷ []) behind
  reach_more place xs middle x behind so_far lies =
      let flat : flat_map s (xs ++ x ∷ []) ≡ flat_map s xs ++ s x = flat_map-append s xs (x ∷ []) ∙ ap (λ (k : List ℕ). flat_map s xs ++ k) (append-nil (s x)) in
      record {
        fit = All-push P xs x so_far.fit lies.fits;
        takes = subst (λ (k : List ℕ). Takes place k behind) (sym flat) (Takes-then place (flat_map s xs) middle (s x) behind so_far.takes lies.takes);
      }

  -- ---- reading comes to an end

  pub record Ended (place : Place) : Type 0 where
    pub xs : List X
    pub behind : Place
    pub reach : Reaches s P place xs behind
    pub end : (behind.rest ≡ []) ⊎ IsMissing s P behind.rest

  module _ (some : (x : X) → P x → 0 < length (s x)) where
    -- one thing more, and fewer bytes left
    pub record Goes (start place : Place) (xs : List X) (x : X) (behind : Place) : Type 0 where
      pub reaches : Reaches s P start (xs ++ x ∷ []) behind
      pub smaller : length behind.rest < length place.rest

    pub goes : (start place : Place) (xs : List X) (x : X) (behind : Place) → Reaches s P start xs place → Lies s P place x behind → Goes start place xs x behind
    goes start place xs x behind reaches lies =
        let first : 0 < length (s x) = some x lies.fits in
        record { reaches = reach_more start xs place x behind reaches lies; smaller = omega (arith, ap length lies.takes.parts, length-append (s x) behind.rest) }

    step_from : (place : Place) (xs : List X) (middle : Place) → Reaches s P place xs middle → ((x : X) (behind : Place) → Reaches s P place (xs ++ x ∷ []) behind → length behind.rest < length middle.rest → Ended place)
        → (read : Option (X × Place)) → r middle ≡ read → Ended place
    step_from place xs middle so_far next None e = record { xs = xs; behind = middle; reach = so_far; end = inr (missing_where middle e) }
    step_from place xs middle so_far next (Some (x, behind)) e =
        let more = goes place middle xs x behind so_far (lies_where middle x behind so_far.takes.rest_fits e) in
        next x behind more.reaches more.smaller

    run_from : (most : ℕ) (place : Place) (xs : List X) (middle : Place) → Reaches s P place xs middle → length middle.rest ≤ most → Ended place
    run_from zero place xs middle so_far few = record { xs = xs; behind = middle; reach = so_far; end = inl (nil_from_length middle.rest (omega arith)) }
    run_from (suc most) place xs middle so_far few = step_from place xs middle so_far (λ x behind more smaller. run_from most place (xs ++ x ∷ []) behind more (omega arith)) (r middle) refl

    pub runs_out : (place : Place) → IsBytes place.rest → Ended place
    runs_out place fits = run_from (length place.rest) place [] place (reach_none place fits) (omega arith)
