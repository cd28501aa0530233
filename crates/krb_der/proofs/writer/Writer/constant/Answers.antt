use Rattle.std.proofs.Common.{pos, arith}
use Rattle.std.proofs.lemmas.Int.{ints}
use Rattle.krb_der.specs.Kind.{leaf, constant}
use Rattle.krb_der.proofs.EncodeLaws.{writes_whole}
use Rattle.krb_der.proofs.writer.Writer.constant.Goals as goal

pub returns : goal.returns
returns g c =
    writes_whole {z = pos g.row.N} (leaf (constant g.row.N)) tt c.whole.result (λ content h. (omega (arith, g.N.fits), h)) (omega (arith, ints, c.from.ensures, g.N.fits)) c.whole.ensures.ok c.whole.ensures.kept
