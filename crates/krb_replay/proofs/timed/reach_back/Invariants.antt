use Rattle.std.proofs.Common.{◌≡◌, ◌≤◌, length}
use Rattle.krb_replay.specs.Inner.Held.{since}
use Rattle.krb_replay.proofs.timed.reach_back.Given as goal

abbrev pub invariant-loop : goal.invariant-loop
invariant-loop l = record {
  same : since l.fn.oldest l.held ≡ since l.fn.oldest l.fn.held;
  shrinks : length l.held ≤ length l.fn.held;
}

abbrev pub decreases-loop : goal.decreases-loop
decreases-loop l = length l.held
