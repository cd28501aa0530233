use Rattle.std.proofs.Common.{arith, ◌∙◌, ◌++◌}
use Rattle.krb_file.proofs.WindowLaws.{skips_more}
use Rattle.krb_file.proofs.window.Window.run_out.Goals as goal

pub loop-self-preserved : goal.loop-self-preserved
loop-self-preserved g c =
    let first = c.loop-self.invariant.skips in
    let second = c.in_ok-skip_some.ensures.skips in
    record {
      skips = record {
        piece = first.piece ++ second.piece;
        skips = skips_more _ _ _ _ _ _ first.piece second.piece first.skips second.comes;
        one_past = omega (arith, second.comes.given, second.one.0, second.one.1, c.loop-self-test.true, c.given.ensures, c.given-in-loop-self.ensures);
      };
      failures = omega (arith, c.in_ok-skip_some.ensures.failed, c.loop-self.invariant.failures);
      lent = c.in_ok-skip_some.ensures.lent ∙ c.loop-self.invariant.lent;
    }
