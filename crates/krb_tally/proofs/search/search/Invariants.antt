use Rattle.std.proofs.Common.{◌-◌, ◌≤◌, ◌<◌, false, true}
use Rattle.krb_tally.proofs.search.search.Given as goal

abbrev pub invariant-loop-low : goal.invariant-loop-low
invariant-loop-low g l =
    (l.low ≤ l.high)
    × (l.high ≤ l.count)
    × (0 < l.low → goal.P-post g l.passes (l.low - 1) true)
    × (l.high < l.count → goal.P-post g l.passes l.high false)

abbrev pub decreases-loop-low : goal.decreases-loop-low
decreases-loop-low g l = l.high - l.low
