use Rattle.std.proofs.Common.{arith}
use Rattle.std.proofs.lemmas.Int.{ints}
use Rattle.krb_der.specs.Kind.{leaf, int32}
use Rattle.krb_der.proofs.EncodeLaws.{writes_whole}
use Rattle.krb_der.proofs.writer.Writer.int32.Goals as goal

pub returns : goal.returns
returns c =
    writes_whole {z = c.args.value} (leaf int32) c.args.value c.whole.result (λ content h. (c.ranges.value, h)) (omega (arith, ints, c.from.ensures, c.ranges.value)) c.whole.ensures.ok c.whole.ensures.kept
