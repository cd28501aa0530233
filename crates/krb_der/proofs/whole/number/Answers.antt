use Rattle.std.proofs.Common.{◌≡◌, ap, ◌∙◌, arith}
use Rattle.std.proofs.lemmas.List.{take_all}
use Rattle.krb_der.specs.Whole.{AreBytes, number}
use Rattle.krb_der.proofs.Numbers.{AreBytes-from, number-front, number_within}
use Rattle.krb_der.proofs.whole.number.Goals as goal

pub overflow_mul-number : goal.overflow_mul-number
overflow_mul-number c =
    let bytes : AreBytes c.args.bytes.now = AreBytes-from _ (λ i. omega (arith, c.type_inv.bytes i)) in
    omega (arith, number-front c.args.bytes.now c.loop-byte.byte-index bytes (omega arith))

pub overflow_add-number : goal.overflow_add-number
overflow_add-number c =
    let bytes : AreBytes c.args.bytes.now = AreBytes-from _ (λ i. omega (arith, c.type_inv.bytes i)) in
    omega (arith, number-front c.args.bytes.now c.loop-byte.byte-index bytes (omega arith))

pub returns-clause-small : goal.returns-clause-small
returns-clause-small c =
    let bytes : AreBytes c.args.bytes.now = AreBytes-from _ (λ i. omega (arith, c.type_inv.bytes i)) in
    let whole : c.loop-byte.number ≡ number c.args.bytes.now =
    c.loop-byte.invariant ∙ ap number (take_all c.loop-byte.byte-index c.args.bytes.now (omega arith)) in
    omega (arith, number_within c.args.bytes.now 5 bytes c.requires)
