use Rattle.std.proofs.Common.{◌≡◌, ◌≤◌, false, length, take, sym, ap, ◌∙◌, arith}
use Rattle.std.proofs.lemmas.Bool.{ne_eqb}
use Rattle.krb_der.specs.Whole.{AreBytes, number}
use Rattle.krb_der.specs.Place.{begins}
use Rattle.krb_der.proofs.Numbers.{AreBytes-from, AreBytes-take}
use Rattle.krb_der.proofs.LengthLaws.{long_of-ok, begins-get_or}
use Rattle.krb_der.proofs.length.long.Goals as goal

pub returns-clause-value : goal.returns-clause-value
returns-clause-value c =
    let bytes : AreBytes c.args.bytes.now = AreBytes-from _ (λ i. omega (arith, c.type_inv.bytes i)) in
    let some : 1 ≤ length c.split_at.result.0.now = omega (arith, c.split_at.ensures.front_len, c.requires.some) in
    let first : begins 0 (take c.args.count c.args.bytes.now) ≡ false =
    ap (begins 0) (sym c.split_at.ensures.front) ∙ begins-get_or 0 c.split_at.result.0.now some ∙ ne_eqb _ 0 c.if-digits-eq0.false in
    sym (long_of-ok c.args.count c.args.bytes.now c.number-length.result c.split_at.result.1.now (omega arith)
    (AreBytes-take c.args.count c.args.bytes.now bytes) first
    (c.number-length.ensures.value ∙ ap number c.split_at.ensures.front) c.split_at.ensures.back (omega arith))
