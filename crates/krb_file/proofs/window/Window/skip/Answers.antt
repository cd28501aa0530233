use Rattle.krb_file.specs.Window.{Skips}
use Rattle.krb_file.proofs.WindowLaws.{skips_more, one_more}
use Rattle.krb_file.proofs.window.Window.skip.Goals as goal

pub loop-left-preserved : goal.loop-left-preserved
loop-left-preserved g c =
    let one = c.in_ok-passed.ensures in
    record { comes = one_more Skips skips_more _ _ _ _ _ _ _ _ _ c.loop-left.invariant.comes one.skips one.failed one.lent }
