use Rattle.std.proofs.Common.{◌≡◌, ◌∙◌, [], ◌∷◌, ap, sym, subst}
use Rattle.std.specs.List.{insert}
use Rattle.std.specs.List.Sorted.{IsPermutation}
use Rattle.krb_tally.specs.Inner.Buckets.{IsRising, all_of, place_from}
use Rattle.krb_tally.proofs.OrderLaws.{fits_by_time, fits_from}
use Rattle.krb_tally.proofs.TallyLaws.{new_in}
use Rattle.krb_tally.proofs.tally.add_new.Goals as goal

pub returns-clause-ok : goal.returns-clause-ok
returns-clause-ok g c =
    let made : c.insert.new.self.items ≡ insert c.args.buckets.now.items c.args.bucket (c.args.item ∷ []) =
    c.in_ok-insert.ensures.items
    ∙ (ap (λ buckets. insert buckets c.args.bucket c.in_ok-one.one) c.in_ok-begin.ensures
    ∙ ap (λ one. insert c.args.buckets.now.items c.args.bucket one) c.in_ok-one.ensures) in
    subst (λ buckets. IsPermutation (c.args.item ∷ all_of c.args.buckets.now.items) (all_of buckets)) (sym made)
    (new_in g.T.Timed.timestamp c.args.buckets.now.items c.args.bucket c.args.item
    (fits_by_time g.T.Ord.cmp g.met.T.Ord.total g.T.Timed.timestamp g.met.T.Timed.by_time c.args.buckets.now.items c.args.item _ _ c.requires.fits) c.requires.rising).0

pub returns-clause-rising : goal.returns-clause-rising
returns-clause-rising g c =
    let made : c.insert.new.self.items ≡ insert c.args.buckets.now.items c.args.bucket (c.args.item ∷ []) =
    c.in_ok-insert.ensures.items
    ∙ (ap (λ buckets. insert buckets c.args.bucket c.in_ok-one.one) c.in_ok-begin.ensures
    ∙ ap (λ one. insert c.args.buckets.now.items c.args.bucket one) c.in_ok-one.ensures) in
    subst (λ buckets. IsRising g.T.Timed.timestamp (all_of buckets)) (sym made)
    (new_in g.T.Timed.timestamp c.args.buckets.now.items c.args.bucket c.args.item
    (fits_by_time g.T.Ord.cmp g.met.T.Ord.total g.T.Timed.timestamp g.met.T.Timed.by_time c.args.buckets.now.items c.args.item _ _ c.requires.fits) c.requires.rising).1

pub returns-clause-sorted : goal.returns-clause-sorted
returns-clause-sorted g c = record {
  from = λ one.
      let made : c.insert.new.self.items ≡ insert c.args.buckets.now.items c.args.bucket (c.args.item ∷ []) =
      c.in_ok-insert.ensures.items
      ∙ (ap (λ buckets. insert buckets c.args.bucket c.in_ok-one.one) c.in_ok-begin.ensures
      ∙ ap (λ one. insert c.args.buckets.now.items c.args.bucket one) c.in_ok-one.ensures) in
      subst (λ buckets. IsRising (place_from g.T.Ord.cmp one) (all_of buckets)) (sym made)
      (new_in (place_from g.T.Ord.cmp one) c.args.buckets.now.items c.args.bucket c.args.item
      (fits_from g.T.Ord.cmp g.met.T.Ord.total one c.args.buckets.now.items c.args.item _ _ c.requires.fits) (c.requires.sorted.from one)).1;
}
