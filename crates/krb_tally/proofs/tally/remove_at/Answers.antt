use Rattle.std.proofs.Common.{◌≡◌, ◌∙◌, ◌<◌, ◌≤◌, ℕ, List, [], length, get_or, set, ap, sym, subst, arith}
use Rattle.std.specs.List.{remove}
use Rattle.krb_tally.specs.Inner.Buckets.{IsRising, TakesOut, all_of, place_from}
use Rattle.krb_tally.proofs.TallyLaws.{gone_in, less_in, stands, taken_rising}
use Rattle.krb_tally.proofs.tally.remove_at.Goals as goal

less_out : {X : Type 0} (buckets : List (List X)) (at : ℕ) (here : List X) (place : ℕ) (item : X) (new : List X) → at < length buckets → here ≡ get_or buckets at here → place < length (get_or buckets at [])
    → item ≡ get_or here place item → new ≡ remove here place → TakesOut buckets at place item (set buckets at new)
less_out buckets at here place item new within is inside item_is gone =
    less_in buckets at here within is place item new (subst (λ one. place < length one) (sym (stands buckets at here within is)) inside) item_is gone

gone_out : {X : Type 0} (buckets : List (List X)) (at : ℕ) (here read : List X) (place : ℕ) (item : X) → at < length buckets → here ≡ get_or buckets at here → read ≡ get_or buckets at read → length read ≤ 1
    → place < length (get_or buckets at []) → item ≡ get_or here place item → TakesOut buckets at place item (remove buckets at)
gone_out buckets at here read place item within is read_is one inside item_is =
    let same : read ≡ here = stands buckets at read within read_is ∙ sym (stands buckets at here within is) in
    gone_in buckets at here within is place item (subst (λ items. length items ≤ 1) same one) (subst (λ items. place < length items) (sym (stands buckets at here within is)) inside) item_is

pub returns-then-len-gt1-clause-out : goal.returns-then-len-gt1-clause-out
returns-then-len-gt1-clause-out g c =
    less_out c.args.buckets.now.items c.args.place.bucket c.index_mut.result.now c.args.place.at c.take.result c.take.new.self c.requires.there.0 c.index_mut.ensures.value c.requires.there.1
    c.take.ensures.item c.take.ensures.others

pub returns-then-len-gt1-clause-item : goal.returns-then-len-gt1-clause-item
returns-then-len-gt1-clause-item g c =
    c.take.ensures.item ∙ ap (λ one. get_or one c.args.place.at c.take.result)
    (stands c.args.buckets.now.items c.args.place.bucket c.index_mut.result.now c.requires.there.0 c.index_mut.ensures.value)

pub returns-then-len-gt1-clause-rising : goal.returns-then-len-gt1-clause-rising
returns-then-len-gt1-clause-rising g c =
    taken_rising g.T.Timed.timestamp c.args.buckets.now.items (set c.args.buckets.now.items c.args.place.bucket c.take.new.self) c.args.place.bucket c.args.place.at c.take.result
    (less_out c.args.buckets.now.items c.args.place.bucket c.index_mut.result.now c.args.place.at c.take.result c.take.new.self c.requires.there.0 c.index_mut.ensures.value c.requires.there.1
    c.take.ensures.item c.take.ensures.others) c.requires.rising

pub returns-then-len-gt1-clause-sorted : goal.returns-then-len-gt1-clause-sorted
returns-then-len-gt1-clause-sorted g c = record {
  from = λ one_item.
      taken_rising (place_from g.T.Ord.cmp one_item) c.args.buckets.now.items (set c.args.buckets.now.items c.args.place.bucket c.take.new.self) c.args.place.bucket c.args.place.at c.take.result
      (less_out c.args.buckets.now.items c.args.place.bucket c.index_mut.result.now c.args.place.at c.take.result c.take.new.self c.requires.there.0 c.index_mut.ensures.value c.requires.there.1
      c.take.ensures.item c.take.ensures.others) (c.requires.sorted.from one_item);
}

pub returns-clause-out : goal.returns-clause-out
returns-clause-out g c =
    let one = c.if-len-gt1.false in
    let len = c.len.ensures.len in
    subst (λ buckets. TakesOut c.args.buckets.now.items c.args.place.bucket c.args.place.at c.into_item.result buckets) (sym c.remove.ensures.items)
    (gone_out c.args.buckets.now.items c.args.place.bucket c.remove.result c.index.result.now c.args.place.at c.into_item.result c.requires.there.0 c.remove.ensures.value c.index.ensures (omega arith)
    c.requires.there.1 c.into_item.ensures)

pub returns-clause-rising : goal.returns-clause-rising
returns-clause-rising g c =
    let one = c.if-len-gt1.false in
    let len = c.len.ensures.len in
    subst (λ buckets. IsRising g.T.Timed.timestamp (all_of buckets)) (sym c.remove.ensures.items)
    (taken_rising g.T.Timed.timestamp c.args.buckets.now.items (remove c.args.buckets.now.items c.args.place.bucket) c.args.place.bucket c.args.place.at c.into_item.result
    (gone_out c.args.buckets.now.items c.args.place.bucket c.remove.result c.index.result.now c.args.place.at c.into_item.result c.requires.there.0 c.remove.ensures.value c.index.ensures (omega arith)
    c.requires.there.1 c.into_item.ensures) c.requires.rising)

pub returns-clause-sorted : goal.returns-clause-sorted
returns-clause-sorted g c = record {
  from = λ one_item.
      let one = c.if-len-gt1.false in
      let len = c.len.ensures.len in
      subst (λ buckets. IsRising (place_from g.T.Ord.cmp one_item) (all_of buckets)) (sym c.remove.ensures.items)
      (taken_rising (place_from g.T.Ord.cmp one_item) c.args.buckets.now.items (remove c.args.buckets.now.items c.args.place.bucket) c.args.place.bucket c.args.place.at c.into_item.result
      (gone_out c.args.buckets.now.items c.args.place.bucket c.remove.result c.index.result.now c.args.place.at c.into_item.result c.requires.there.0 c.remove.ensures.value c.index.ensures (omega arith)
      c.requires.there.1 c.into_item.ensures) (c.requires.sorted.from one_item));
}
