use Rattle.std.proofs.Common.{pos, arith}
use Rattle.std.proofs.lemmas.Int.{ints}
use Rattle.krb_der.specs.Kind.{leaf, microseconds}
use Rattle.krb_der.proofs.EncodeLaws.{writes_whole}
use Rattle.krb_der.proofs.writer.Writer.microseconds.Goals as goal

pub returns : goal.returns
returns c =
    writes_whole {z = pos c.args.value} (leaf microseconds) c.args.value c.whole.result (λ content h. (omega (arith, c.get.ensures.value, c.get.ensures.range), h)) (omega (arith, ints, c.from.ensures, c.get.ensures.value)) c.whole.ensures.ok c.whole.ensures.kept
