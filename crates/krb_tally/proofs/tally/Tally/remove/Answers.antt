use Rattle.std.proofs.Common.{◌∷◌, subst}
use Rattle.std.specs.List.Sorted.{IsPermutation}
use Rattle.krb_tally.specs.Inner.Buckets.{all_of}
use Rattle.krb_tally.proofs.TallyLaws.{taken}
use Rattle.krb_tally.proofs.tally.Tally.remove.Goals as goal

pub returns-clause-others : goal.returns-clause-others
returns-clause-others g c =
    subst (λ items. IsPermutation items (c.remove_at-item.result ∷ all_of c.remove_at-item.new.buckets.items)) c.self.view_is
    (taken c.self.inside.buckets.items c.remove_at-item.new.buckets.items c.in_ok-place.place.bucket c.in_ok-place.place.at c.remove_at-item.result c.remove_at-item.ensures.out)
