use Rattle.krb_replay.proofs.KeptLaws.{equal_by}
use Rattle.krb_replay.proofs.held.equal_pair.Goals as goal

pub returns-then-eq : goal.returns-then-eq
returns-then-eq c = equal_by c.args.pair.now c.pair.result.now c.pair-then-eq.result.now c.eq.result c.eq.ensures c.if-eq.true (let one = c.pair.ensures in let other = c.pair-then-eq.ensures in cc)
