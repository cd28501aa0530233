use Rattle.krb_file.specs.Window.{Skips}
use Rattle.krb_file.specs.Inner.Window.{ComesSoFar}
use Rattle.krb_file.proofs.window.Window.skip.Given as goal

abbrev pub invariant-loop-left : goal.invariant-loop-left
invariant-loop-left g l = record {
  comes : ComesSoFar Skips g.S.Source.remaining g.S.Source.failure_count g.S.Source.lender l.fn.self l.self l.count l.left;
}

abbrev pub decreases-loop-left : goal.decreases-loop-left
decreases-loop-left g l = l.left
