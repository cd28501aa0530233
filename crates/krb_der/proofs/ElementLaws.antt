-- What is spelled is read, for all kinds at once.
use Rattle.std.proofs.Common.{◌≡◌, ℕ, zero, suc, ◌+◌, ◌≤◌, true, false, not, ◌&&◌, eqb, List, [], ◌∷◌, ◌++◌, length, Option, Some, None, Ok, refl, sym, ap, subst, ◌∙◌, arith, length-append}
use Rattle.std.proofs.lemmas.Bool.{and_parts, or_parts, not-true, eq-eqb}
use Rattle.std.proofs.lemmas.List.{append-nil}
use Rattle.std.proofs.Math.Nat.{le_refl}
use Rattle.krb_der.specs.Kind.{Kind, leaf, wrapped, sequence, Fields, ends, must, may, each, tag_of, ValueOf, FieldsOf}
use Rattle.krb_der.specs.Content.{leaf_of, Elementary}
use Rattle.krb_der.specs.Place.{Place, begins}
use Rattle.krb_der.specs.Spells.{IsElement, IsJoined, IfPresent, ForEach, SpellsContent, SpellsFields, SpellsBy, StandsAt}
use Rattle.krb_der.specs.Clear.{can_begin, is_clear, are_clear}
use Rattle.krb_der.specs.Computed.Steps.{◌>>=◌}
use Rattle.krb_der.specs.Computed.Read.{value_or, enter_at, finish_at, finish_from, each_from, element_at, fields_at}
use Rattle.krb_der.proofs.LeafLaws.{is_leaf}
use Rattle.krb_der.proofs.ElementSteps.{bind_at, enter_at-head, element_some}

-- what begins with an element begins with its tag
begins-element : (tag other : ℕ) (IsContent : List ℕ → Type 0) (front rest : List ℕ) → IsElement tag IsContent front → begins other (front ++ rest) ≡ eqb tag other
begins-element tag other IsContent front rest h = ap (λ (l : List ℕ). begins other (l ++ rest)) h.whole

-- fields that can't begin with the tag don't
absent : (fs : Fields) (v : FieldsOf fs) (tag : ℕ) → can_begin fs tag ≡ false → (bytes : List ℕ) → SpellsFields Elementary fs v bytes → begins tag bytes ≡ false
absent ends v tag c bytes h = ap (begins tag) h
absent (must k fs) v tag c bytes j = ap (begins tag) j.whole ∙ begins-element (tag_of k) tag (SpellsContent Elementary k v.0) j.front j.back j.first ∙ c
absent (may k fs) v tag c bytes j =
    let p = or_parts (eqb (tag_of k) tag) (can_begin fs tag) c in
    ap (begins tag) j.whole ∙ by p.0 v.0 j.front j.first (absent fs v.1 tag p.1 j.back j.rest)
  where
    by : eqb (tag_of k) tag ≡ false → (o : Option (ValueOf k)) (front : List ℕ) → IfPresent (λ x. IsElement (tag_of k) (SpellsContent Elementary k x)) o front
        → begins tag j.back ≡ false → begins tag (front ++ j.back) ≡ false
    by ne None front h rest = ap (λ (l : List ℕ). begins tag (l ++ j.back)) h ∙ rest
    by ne (Some x) front h rest = begins-element (tag_of k) tag (SpellsContent Elementary k x) front j.back h ∙ ne
absent (each k) [] tag c bytes h = ap (begins tag) h
absent (each k) (v ∷ vs) tag c bytes j = ap (begins tag) j.whole ∙ begins-element (tag_of k) tag (SpellsContent Elementary k v) j.front j.back j.first ∙ c

-- ---- the content of an element that stands at a place, and what comes after a part
abbrev inside_of : (k : Kind) (v : ValueOf k) (p after : Place) → StandsAt Elementary k v p after → Place
inside_of k v p after s = record { at = p.at + (1 + length s.spelled.size); rest = s.spelled.content }

entered : (k : Kind) (v : ValueOf k) (p after : Place) (s : StandsAt Elementary k v p after) → enter_at (tag_of k) p ≡ Ok (inside_of k v p after s, after)
entered k v p after s =
    enter_at-head (tag_of k) p (inside_of k v p after s) after (record {
      size = s.spelled.size;
      length_is = s.spelled.length_is;
      whole = s.whole ∙ ap (λ (l : List ℕ). l ++ after.rest) s.spelled.whole;
      inside_at = refl;
      after_at = omega (arith, s.at_is, ap length s.spelled.whole, length-append s.spelled.size s.spelled.content);
    })

abbrev behind : Place → (front back : List ℕ) → Place
behind p front back = record { at = p.at + length front; rest = back }

first_of : (k : Kind) (v : ValueOf k) (Rest : List ℕ → Type 0) (p : Place) (j : IsJoined (SpellsBy Elementary k v) Rest p.rest) → StandsAt Elementary k v p (behind p j.front j.back)
first_of k v Rest p j = record { front = j.front; spelled = j.first; whole = j.whole; at_is = refl }

-- a reader of a kind
abbrev Reader : Kind → Type 0
Reader k = (v : ValueOf k) (p after : Place) → StandsAt Elementary k v p after → element_at k p ≡ Ok (v, after)

each_read : (k : Kind) → Reader k → (fuel : ℕ) (p : Place) (bytes : List ℕ) (vs : List (ValueOf k)) → p.rest ≡ bytes → ForEach (SpellsBy Elementary k) vs bytes
    → length bytes ≤ fuel → each_from (element_at k) fuel p bytes ≡ Ok vs
each_read k reads fuel p bytes [] w h le = ap (λ (l : List ℕ). each_from (element_at k) fuel p l) h
each_read k reads fuel p [] (v ∷ vs) w j le =
    absurd (omega (arith, ap length j.whole, length-append j.front j.back, element_some (tag_of k) _ j.front j.first))
each_read k reads zero p (b ∷ bytes) (v ∷ vs) w j le = absurd (omega arith)
each_read k reads (suc fuel) p (b ∷ bytes) (v ∷ vs) w j le =
    let after = behind p j.front j.back in
    bind_at (element_at k p) _ _ (reads v p after (record { front = j.front; spelled = j.first; whole = w ∙ j.whole; at_is = refl }))
    ∙ bind_at (each_from (element_at k) fuel after j.back) (λ xs. Ok (v ∷ xs)) vs (each_read k reads fuel after j.back vs refl j.rest
    (omega (arith, le, ap length j.whole, length-append j.front j.back, element_some (tag_of k) _ j.front j.first)))

abbrev FieldsReader : Fields → Type 0
FieldsReader fs = (v : FieldsOf fs) (p : Place) → SpellsFields Elementary fs v p.rest → fields_at fs p ≡ Ok v

may_read : (k : Kind) (fs : Fields) → can_begin fs (tag_of k) ≡ false → Reader k → FieldsReader fs → (o : Option (ValueOf k)) (w : FieldsOf fs) (p : Place)
    → SpellsFields Elementary (may k fs) (o, w) p.rest → fields_at (may k fs) p ≡ Ok (o, w)
unfolding fields_at
may_read k fs other one others None w p j =
    let same : p.rest ≡ j.back = j.whole ∙ ap (λ (l : List ℕ). l ++ j.back) j.first in
    let isnt : begins (tag_of k) p.rest ≡ false = ap (begins (tag_of k)) same ∙ absent fs w (tag_of k) other j.back j.rest in
    rw isnt (bind_at (fields_at fs p) (λ y. Ok (None, y)) w (others w p (subst (SpellsFields Elementary fs w) (sym same) j.rest)))
may_read k fs other one others (Some x) w p j =
    let after = behind p j.front j.back in
    let is : begins (tag_of k) p.rest ≡ true =
    ap (begins (tag_of k)) j.whole ∙ begins-element (tag_of k) (tag_of k) (SpellsContent Elementary k x) j.front j.back j.first ∙ eq-eqb (tag_of k) (tag_of k) refl in
    rw is (bind_at (element_at k p) _ _ (one x p after (first_of k x _ p j)) ∙ bind_at (fields_at fs after) (λ y. Ok (Some x, y)) w (others w after j.rest))

pub finished : (p : Place) → p.rest ≡ [] → finish_at p ≡ Ok tt
unfolding finish_at
finished p e = ap (finish_from p) e

mutual
  unfolding element_at

  pub element_read : (k : Kind) → is_clear k ≡ true → Reader k
  element_read (leaf c) clear v p after s =
      bind_at (enter_at (leaf_of c).tag p) _ _ (entered (leaf c) v p after s)
      ∙ ap (λ o. value_or o (leaf_of c).fault p.at >>= λ x. Ok (x, after)) ((is_leaf c).only v s.spelled.content s.spelled.content_is)
  element_read (wrapped tag k) clear v p after s =
      let inside = inside_of (wrapped tag k) v p after s in
      let end = behind inside inside.rest [] in
      bind_at (enter_at tag p) _ _ (entered (wrapped tag k) v p after s)
      ∙ bind_at (element_at k inside) _ _ (element_read k clear v inside end
      (record { front = inside.rest; spelled = s.spelled.content_is; whole = sym (append-nil inside.rest); at_is = refl }))
      ∙ bind_at (finish_at end) (λ _. Ok (v, after)) _ (finished end refl)
  element_read (sequence fs) clear v p after s =
      let inside = inside_of (sequence fs) v p after s in
      bind_at (enter_at 0x30 p) _ _ (entered (sequence fs) v p after s)
      ∙ bind_at (fields_at fs inside) (λ x. Ok (x, after)) v (fields_read fs clear v inside s.spelled.content_is)

  pub fields_read : (fs : Fields) → are_clear fs ≡ true → FieldsReader fs
  fields_read ends clear v p h = finished p h
  fields_read (must k fs) clear v p j =
      let c = and_parts (is_clear k) (are_clear fs) clear in
      let after = behind p j.front j.back in
      bind_at (element_at k p) _ _ (element_read k c.0 v.0 p after (first_of k v.0 _ p j))
      ∙ bind_at (fields_at fs after) (λ y. Ok (v.0, y)) v.1 (fields_read fs c.1 v.1 after j.rest)
  fields_read (may k fs) clear v p j =
      let c = and_parts (is_clear k && not (can_begin fs (tag_of k))) (are_clear fs) clear in
      let d = and_parts (is_clear k) (not (can_begin fs (tag_of k))) c.0 in
      may_read k fs (not-true _ d.1) (element_read k d.0) (fields_read fs c.1) v.0 v.1 p j
  fields_read (each k) clear v p h = each_read k (element_read k clear) (length p.rest) p p.rest v refl h (le_refl (length p.rest))
