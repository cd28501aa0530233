use Rattle.krb_enc.proofs.Compared.{one_more}
use Rattle.krb_enc.proofs.tag.are_same.Goals as goal

pub loop-i-preserved : goal.loop-i-preserved
loop-i-preserved c = one_more c.args.one.now c.args.other.now c.loop-i.i c.loop-i.differing c.loop-i-test.true c.if-one-other.false c.loop-i.invariant
