use Rattle.std.proofs.Common.{◌≡◌, ◌+◌, length}
use Rattle.krb_replay.specs.Inner.Held.{since}
use Rattle.krb_replay.proofs.timed.free_some.Given as goal

abbrev pub invariant-loop : goal.invariant-loop
invariant-loop l = record {
  same : since l.fn.oldest l.held ≡ since l.fn.oldest l.fn.held;
  freed : length l.held + l.counter ≡ length l.fn.held;
}
