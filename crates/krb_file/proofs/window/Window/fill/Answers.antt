use Rattle.krb_file.specs.Window.{Keeps}
use Rattle.krb_file.proofs.WindowLaws.{keeps_more, one_more}
use Rattle.krb_file.proofs.window.Window.fill.Goals as goal

pub loop-left-preserved : goal.loop-left-preserved
loop-left-preserved g c =
    let one = c.in_ok-came.ensures in
    record { comes = one_more Keeps keeps_more _ _ _ _ _ _ _ _ _ c.loop-left.invariant.comes one.keeps one.failed one.lent }
