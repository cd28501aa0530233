use Rattle.std.proofs.Common.{List, ap}
use Rattle.krb_replay.specs.Stamp.{Stamp}
use Rattle.krb_replay.specs.Inner.Held.{others}
use Rattle.krb_replay.specs.Inner.Order.{client_cmp, pair_cmp}
use Rattle.krb_replay.proofs.HeldLaws.{counted_none}
use Rattle.krb_replay.proofs.MostLaws.{most_none}
use Rattle.krb_replay.proofs.OnceLaws.{once_none}
use Rattle.krb_replay.proofs.TimesLaws.{timed_none}
use Rattle.krb_replay.proofs.held.Held.new.Goals as goal

pub invariant_of-result : goal.invariant_of-result
invariant_of-result c = (
  once_none c.new.result c.new.ensures,
  (
    timed_none client_cmp c.new.result c.new-2.result.times c.new.ensures c.new-2.ensures.none c.new-2.ensures.no_empty,
    (
      counted_none pair_cmp (others c.new-2.result.times c.new.result) c.new-3.result.counts (ap (λ (stamps : List Stamp). others c.new-2.result.times stamps) c.new.ensures) c.new-3.ensures.none c.new-3.ensures.no_zero,
      most_none c.new-2.result.times c.new-2.ensures.none,
    ),
  ),
)
