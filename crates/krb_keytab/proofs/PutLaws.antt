-- Texts that are put into bytes one after the other.
use Rattle.std.proofs.Common.{◌≡◌, ℕ, ◌+◌, ◌-◌, ◌≤◌, ◌<◌, List, [], ◌∷◌, ◌++◌, length, get_or, take, drop, sym, ap, subst, ◌∙◌, append_assoc, append-nil, arith}
use borrow.Rule.Slice.PartMut.{put_mid}
use Rattle.std.specs.List.{flat_map}
use Rattle.std.proofs.lemmas.List.{length-append, length-take-le, length-drop, take_more, drop_all, drop-drop, take_at, drop_at, take_all}
use Rattle.std.proofs.lemmas.List.Concat.{flat_map-append}
use Rattle.krb_keytab.specs.Inner.Putting.{Puts, PutsTo}

-- ---- one text

pub puts_mid : (old : List ℕ) (at k : ℕ) (text part : List ℕ) → at + length text ≤ length old → k ≡ length text → part ≡ text → Puts old at text (put_mid at k old part)
puts_mid old at k text part room size e = record {
  room = room;
  new_is =
      ap (λ (n : ℕ). take at old ++ (part ++ drop n (drop at old))) size
      ∙ ap (λ (t : List ℕ). take at old ++ (t ++ drop (length text) (drop at old))) e
      ∙ ap (λ (t : List ℕ). take at old ++ (text ++ t)) (drop-drop (length text) at old);
}

-- ---- two texts

front_is : {old : List ℕ} {at : ℕ} {text new : List ℕ} → Puts old at text new → new ≡ (take at old ++ text) ++ drop (at + length text) old
front_is {old} {at} {text} {new} p = p.new_is ∙ sym (append_assoc (take at old) text (drop (at + length text) old))

front_size : {old : List ℕ} {at : ℕ} {text new : List ℕ} → Puts old at text new → length (take at old ++ text) ≡ at + length text
front_size {old} {at} {text} {new} p = let r = p.room in omega (arith, length-append (take at old) text, length-take-le at old (omega arith))

pub Puts-length : {old : List ℕ} {at : ℕ} {text new : List ℕ} → Puts old at text new → length new ≡ length old
Puts-length {old} {at} {text} {new} p =
    let r = p.room in
    omega (arith, ap length (front_is p), length-append (take at old ++ text) (drop (at + length text) old), front_size p, length-drop (at + length text) old)

pub Puts-front : {old : List ℕ} {at : ℕ} {text new : List ℕ} → Puts old at text new → take (at + length text) new ≡ take at old ++ text
Puts-front {old} {at} {text} {new} p = ap (take (at + length text)) (front_is p) ∙ take_at (take at old ++ text) (drop (at + length text) old) (at + length text) (front_size p)

pub Puts-behind : {old : List ℕ} {at : ℕ} {text new : List ℕ} → Puts old at text new → drop (at + length text) new ≡ drop (at + length text) old
Puts-behind {old} {at} {text} {new} p = ap (drop (at + length text)) (front_is p) ∙ drop_at (take at old ++ text) (drop (at + length text) old) (at + length text) (front_size p)

then_at : {old : List ℕ} {at : ℕ} {x mid y new : List ℕ} → Puts old at x mid → Puts mid (at + length x) y new → Puts old at (x ++ y) new
then_at {old} {at} {x} {mid} {y} {new} p q =
    let place : at + length (x ++ y) ≡ at + length x + length y = omega (arith, length-append x y) in
    let behind : drop (at + length x + length y) mid ≡ drop (at + length (x ++ y)) old =
    sym (drop-drop (length y) (at + length x) mid) ∙ ap (drop (length y)) (Puts-behind p) ∙ drop-drop (length y) (at + length x) old ∙ ap (λ (n : ℕ). drop n old) (sym place) in
    let r = q.room in
    record {
      room = omega (arith, place, Puts-length p);
      new_is =
          q.new_is
          ∙ ap (λ (t : List ℕ). t ++ (y ++ drop (at + length x + length y) mid)) (Puts-front p)
          ∙ ap (λ (t : List ℕ). (take at old ++ x) ++ (y ++ t)) behind
          ∙ append_assoc (take at old) x (y ++ drop (at + length (x ++ y)) old)
          ∙ ap (λ (t : List ℕ). take at old ++ t) (sym (append_assoc x y (drop (at + length (x ++ y)) old)));
    }

pub Puts-then : {old : List ℕ} {at : ℕ} {x mid : List ℕ} {behind : ℕ} {y new : List ℕ} → PutsTo old at x mid behind → Puts mid behind y new → Puts old at (x ++ y) new
Puts-then {old} {at} {x} {mid} {behind} {y} {new} p q = then_at p.puts (subst (λ (n : ℕ). Puts mid n y new) p.end_is q)

pub PutsTo-then : {old : List ℕ} {at : ℕ} {x mid : List ℕ} {behind : ℕ} {y new : List ℕ} {end : ℕ} → PutsTo old at x mid behind → PutsTo mid behind y new end → PutsTo old at (x ++ y) new end
PutsTo-then {old} {at} {x} {mid} {behind} {y} p q = record { puts = Puts-then p q.puts; end_is = omega (arith, p.end_is, q.end_is, length-append x y) }

-- a text from the first byte to the last
pub Puts-whole : {old text new : List ℕ} → Puts old 0 text new → length text ≡ length old → new ≡ text
Puts-whole {old} {text} {new} p e = p.new_is ∙ ap (λ (t : List ℕ). text ++ t) (drop_all (0 + length text) old (omega (arith, e))) ∙ append-nil text

-- ---- a text for each element of a list

pub flat_step : {X : Type 0} (f : X → List ℕ) (xs : List X) (i : ℕ) (x : X) → i < length xs → x ≡ get_or xs i x → flat_map f (take (i + 1) xs) ≡ flat_map f (take i xs) ++ f x
flat_step f xs i x below e =
    ap (flat_map f) (take_more xs i x below ∙ ap (λ y. take i xs ++ y ∷ []) (sym e)) ∙ flat_map-append f (take i xs) (x ∷ []) ∙ ap (λ (t : List ℕ). flat_map f (take i xs) ++ t) (append-nil (f x))

pub one_further : {X : Type 0} (f : X → List ℕ) (front : List X) (x : X) → flat_map f (front ++ x ∷ []) ≡ flat_map f front ++ f x
one_further f front x = flat_map-append f front (x ∷ []) ∙ ap (λ (t : List ℕ). flat_map f front ++ t) (append-nil (f x))

-- ---- a part of a Vec

pub vec_puts : (items slice part text : List ℕ) (from to len : ℕ) → slice ≡ items → length items ≡ len → from ≤ to → to ≤ length items → part ≡ text → length text ≡ to - from
    → Puts items from text (take len (put_mid from (to - from) slice part ++ drop (length (put_mid from (to - from) slice part)) items))
vec_puts items slice part text from to len same size order within is count =
    let made : List ℕ = put_mid from (to - from) slice part in
    let puts : Puts slice from text made = puts_mid slice from (to - from) text part (omega (arith, ap length same, count, order, within)) (sym count) is in
    let long : length made ≡ length items = Puts-length puts ∙ ap length same in
    let none : drop (length made) items ≡ [] = drop_all (length made) items (omega (arith, long)) in
    let whole : take len (made ++ drop (length made) items) ≡ made = ap (λ (t : List ℕ). take len (made ++ t)) none ∙ ap (take len) (append-nil made) ∙ take_all len made (omega (arith, long, size)) in
    subst (Puts items from text) (sym whole) (subst (λ (t : List ℕ). Puts t from text made) same puts)

-- how long a text in two parts is
pub sizes : (x y : List ℕ) → length (x ++ y) ≡ length x + length y
sizes x y = length-append x y
