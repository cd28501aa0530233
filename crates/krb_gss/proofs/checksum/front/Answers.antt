use Rattle.std.proofs.Common.{[], ◌∷◌, arith}
use Rattle.krb_gss.proofs.ChecksumLaws.{front_found, are_same}
use Rattle.krb_gss.proofs.checksum.front.Goals as goal

pub returns : goal.returns
returns c =
    let h = c.in-Some.ensures.cases in
    let k = c.in-Some-split_first_chunk.ensures.cases in
    let l = c.in-Some-split_first_chunk-2.ensures.cases in
    record {
      found =
          front_found c.args.bytes.now (λ i. omega (arith, c.type_inv.bytes i)) c.in-Some.size.now c.in-Some.rest.now c.in-Some-split_first_chunk.bindings.now c.in-Some-split_first_chunk.rest.now
          c.in-Some-split_first_chunk-2.flags.now c.in-Some-split_first_chunk-2.rest.now c.from_le_bytes.result h.0 h.1 k.0 k.1 l.0 l.1 k.2 l.2
          (are_same c.in-Some.size.now (16 ∷ 0 ∷ 0 ∷ 0 ∷ []) c.if-ne.ensures) c.from_le_bytes.ensures;
      faulty = tt;
    }
