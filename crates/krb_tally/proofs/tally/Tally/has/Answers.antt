use Rattle.std.proofs.Common.{◌∙◌, ap, sym, subst}
use Rattle.krb_tally.specs.Times.{HasEqual, LacksEqual}
use Rattle.krb_tally.specs.Inner.Buckets.{IsSorted, all_of}
use Rattle.krb_tally.proofs.tally.Tally.has.Goals as goal

pub has_in-requires : goal.has_in-requires
has_in-requires g c = subst (λ buckets. IsSorted g.T.Ord.cmp (all_of buckets)) (sym c.as_slice.ensures.value) c.self.invariant.1.1.1

pub returns-clause-found : goal.returns-clause-found
returns-clause-found g c = λ same.
    subst (λ items. HasEqual g.T.Timed.timestamp g.T.PartialEq.eq items c.args.item.now) (ap (λ buckets. all_of buckets) c.as_slice.ensures.value ∙ c.self.view_is) (c.has_in.ensures.found same)

pub returns-clause-lacks : goal.returns-clause-lacks
returns-clause-lacks g c = λ other.
    subst (λ items. LacksEqual g.T.Timed.timestamp g.T.PartialEq.eq items c.args.item.now) (ap (λ buckets. all_of buckets) c.as_slice.ensures.value ∙ c.self.view_is) (c.has_in.ensures.lacks other)
