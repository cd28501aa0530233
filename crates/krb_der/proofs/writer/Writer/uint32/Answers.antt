use Rattle.std.proofs.Common.{pos, arith}
use Rattle.std.proofs.lemmas.Int.{ints}
use Rattle.krb_der.specs.Kind.{leaf, uint32}
use Rattle.krb_der.proofs.EncodeLaws.{writes_whole}
use Rattle.krb_der.proofs.writer.Writer.uint32.Goals as goal

pub returns : goal.returns
returns c =
    writes_whole {z = pos c.args.number} (leaf uint32) c.args.number c.whole.result (λ content h. (omega arith, h)) (omega (arith, ints, c.from.ensures)) c.whole.ensures.ok c.whole.ensures.kept
