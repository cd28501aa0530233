use Rattle.std.proofs.Common.{◌≡◌, ◌+◌, ◌-◌}
use Rattle.krb_file.specs.Inner.Window.{SkipsWithin}
use Rattle.krb_file.proofs.window.Window.run_out.Given as goal

abbrev pub invariant-loop-self : goal.invariant-loop-self
invariant-loop-self g l = record {
  skips : SkipsWithin (g.S.Source.remaining l.fn.self.source) (g.S.Source.remaining l.self.source) l.fn.self l.self l.limit;
  failures : g.S.Source.failure_count l.self.source ≡ g.S.Source.failure_count l.fn.self.source;
  lent : g.S.Source.lender l.self.source ≡ g.S.Source.lender l.fn.self.source;
}

abbrev pub decreases-loop-self : goal.decreases-loop-self
decreases-loop-self g l = l.limit + 1 - l.self.given
