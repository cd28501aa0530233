-- Elements written one after another.
use Rattle.std.proofs.Common.{◌≡◌, ℕ, ◌+◌, ◌<◌, ◌≤◌, suc, List, [], ◌∷◌, ◌++◌, length, map, take, drop, get_or, Result, Ok, Err, refl, sym, ap, subst, ◌∙◌, arith, append_assoc, length-append}
use Rattle.std.proofs.lemmas.List.{take_more, take_all, take-append-drop, map-append, append-nil}
use Rattle.std.proofs.Math.Seq.{drop-cons}
use Rattle.krb_der.specs.declared.fault.EncodeFault.{EncodeFault}
use Rattle.krb_der.specs.Kind.{Kind, each, ValueOf}
use Rattle.krb_der.specs.Spells.{ForEach}
use Rattle.krb_der.specs.Size.{sizes_of, size_of}
use Rattle.krb_der.specs.Writing.{Writes, WritesFields, Appends, Encodes}
use Rattle.krb_der.specs.Inner.Limited.{limited_of, settled}
use Rattle.krb_der.proofs.EncodeLaws.{before_appended, encodes-limited, row_size}

each-append : {V : Type 0} (Part : V → List ℕ → Type 0) (vs ws : List V) (a b : List ℕ) → ForEach Part vs a → ForEach Part ws b → ForEach Part (vs ++ ws) (a ++ b)
each-append Part [] ws a b h k = subst (ForEach Part ws) (sym (ap (λ (l : List ℕ). l ++ b) h)) k
each-append Part (v ∷ vs) ws a b j k =
    record {
      front = j.front;
      back = j.back ++ b;
      first = j.first;
      rest = each-append Part vs ws j.back b j.rest k;
      whole = ap (λ (l : List ℕ). l ++ b) j.whole ∙ append_assoc j.front j.back b;
    }

sizes_of-append : {V : Type 0} (size : V → ℕ) (vs ws : List V) → sizes_of size (vs ++ ws) ≡ sizes_of size vs + sizes_of size ws
sizes_of-append size [] ws = omega arith
sizes_of-append size (v ∷ vs) ws = omega (arith, sizes_of-append size vs ws)

module _ {X : Type 0} (k : Kind) (view : X → ValueOf k) (items : List X) where
  -- the spellings of these items
  abbrev pub Items : List X → List ℕ → Type 0
  Items xs = WritesFields (each k) (map view xs)

  -- and how long they are
  abbrev pub items_size : List X → ℕ
  items_size xs = sizes_of (size_of k) (map view xs)

  module _ (i : ℕ) (x : X) (within : i < length items) (here : x ≡ get_or items i x) where
    front_is : take (i + 1) items ≡ take i items ++ (x ∷ [])
    front_is = take_more items i x within ∙ ap (λ y. take i items ++ (y ∷ [])) (sym here)

    whole_is : items ≡ take i items ++ (x ∷ drop (suc i) items)
    whole_is =
        sym (take-append-drop i items) ∙ ap (λ (l : List X). take i items ++ l) (drop-cons items i x within)
        ∙ ap (λ y. take i items ++ (y ∷ drop (suc i) items)) (sym here)

    -- one more
    pub items_more : {old mid end : List ℕ} → Appends (Items (take i items)) old mid → Appends (Writes k (view x)) mid end → Appends (Items (take (i + 1) items)) old end
    items_more {old = old} a b =
        record {
          bytes = a.bytes ++ b.bytes;
          is =
              subst (λ (l : List X). Items l (a.bytes ++ b.bytes)) (sym front_is)
              (subst (λ (l : List (ValueOf k)). WritesFields (each k) l (a.bytes ++ b.bytes)) (sym (map-append view (take i items) (x ∷ [])))
              (each-append (Writes k) (map view (take i items)) (view x ∷ []) a.bytes b.bytes a.is
              (record { front = b.bytes; back = []; first = b.is; rest = refl; whole = sym (append-nil b.bytes) })));
          whole = b.whole ∙ ap (λ (l : List ℕ). l ++ b.bytes) a.whole ∙ append_assoc old a.bytes b.bytes;
        }

    before_and_after : items_size items ≡ items_size (take i items) + (size_of k (view x) + items_size (drop (suc i) items))
    before_and_after =
        ap items_size whole_is ∙ ap (sizes_of (size_of k)) (map-append view (take i items) (x ∷ drop (suc i) items))
        ∙ sizes_of-append (size_of k) (map view (take i items)) (map view (x ∷ drop (suc i) items))

    -- one that is refused
    pub items_refused : {f : EncodeFault} {r : Result (Unit {0}) EncodeFault} {start : ℕ} {old mid end new : List ℕ} → start ≡ length old → Appends (Items (take i items)) old mid
        → Encodes (Writes k (view x)) (size_of k (view x)) (Err f) mid end → r ≡ Err f → new ≡ settled r start end → Encodes (Items items) (items_size items) r old new
    items_refused {start = start} {old = old} {mid = mid} at a e same left =
        rw (left, same) (record {
          ok = tt;
          too_long = λ t. omega (
            arith,
            e.too_long t,
            ap length a.whole,
            length-append old a.bytes,
            row_size (each k) (map view (take i items)) a.bytes a.is,
            before_and_after,
          );
          kept = ap (take start) e.kept ∙ before_appended (Items (take i items)) start old mid at a;
        })

  -- all of them
  pub items_all : {r : Result (Unit {0}) EncodeFault} {start : ℕ} {old mid new : List ℕ} (n : ℕ) → length items ≤ n → start ≡ length old → Appends (Items (take n items)) old mid
      → r ≡ limited_of {E = Unit {0}} (Ok tt) mid → new ≡ settled r start mid → Encodes (Items items) (items_size items) r old new
  items_all {r = r} {start = start} {old = old} {mid = mid} {new = new} n all at a l left =
      encodes-limited {E = Unit {0}} (Items items) (items_size items) (row_size (each k) (map view items)) (Ok tt) r start old mid new at
      (subst (λ (xs : List X). Appends (Items xs) old mid) (take_all n items all) a) tt l left
