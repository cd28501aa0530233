use Rattle.std.proofs.Common.{[], ◌∷◌, arith}
use Rattle.krb_gss.proofs.ChecksumLaws.{are_same, are_other, message-cut, message-other, message-cut_off, message-found}
use Rattle.krb_gss.proofs.checksum.message.Goals as goal

pub returns-in_default : goal.returns-in_default
returns-in_default c = λ flags. message-cut flags c.args.bytes.now (omega (arith, c.in_default.ensures.cases))

pub returns-in_default-split_first_chunk : goal.returns-in_default-split_first_chunk
returns-in_default-split_first_chunk c =
    λ flags. message-cut flags c.args.bytes.now (omega (arith, c.in_default-split_first_chunk.ensures.cases, c.in-Some.ensures.cases.2))

pub returns-then-ne : goal.returns-then-ne
returns-then-ne c =
    λ flags.
    message-other flags c.args.bytes.now c.in-Some.option.now c.in-Some.ensures.cases.0
    (omega (arith, c.in-Some.ensures.cases.2, c.in-Some-split_first_chunk.ensures.cases.2)) (are_other c.in-Some.option.now (1 ∷ 0 ∷ []) c.if-ne.ensures)

pub returns-in_default-split_at_checked : goal.returns-in_default-split_at_checked
returns-in_default-split_at_checked c =
    let h = c.in-Some.ensures.cases in
    let k = c.in-Some-split_first_chunk.ensures.cases in
    λ flags.
    message-cut_off c.args.bytes.now (λ i. omega (arith, c.type_inv.bytes i)) c.in-Some.option.now c.in-Some.rest.now c.in-Some-split_first_chunk.size.now c.in-Some-split_first_chunk.rest.now c.from_le_bytes.result
    h.0 h.1 k.0 k.1 k.2 (are_same c.in-Some.option.now (1 ∷ 0 ∷ []) c.if-ne.ensures) c.from_le_bytes.ensures flags
    (omega (arith, c.from-size.ensures, c.in_default-split_at_checked.ensures.cases))

pub returns : goal.returns
returns c =
    let h = c.in-Some.ensures.cases in
    let k = c.in-Some-split_first_chunk.ensures.cases in
    λ flags.
    message-found c.args.bytes.now (λ i. omega (arith, c.type_inv.bytes i)) c.in-Some.option.now c.in-Some.rest.now c.in-Some-split_first_chunk.size.now c.in-Some-split_first_chunk.rest.now
    c.from_le_bytes.result h.0 h.1 k.0 k.1 k.2 (are_same c.in-Some.option.now (1 ∷ 0 ∷ []) c.if-ne.ensures) c.from_le_bytes.ensures flags
    c.in-Some-split_at_checked.parts.0 c.in-Some-split_at_checked.parts.1 (rw c.from-size.ensures at c.in-Some-split_at_checked.ensures.cases)
