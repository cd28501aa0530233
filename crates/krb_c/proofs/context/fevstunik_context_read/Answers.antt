use Rattle.std.proofs.Common.{inl, inr, refl}
use Rattle.krb_gss.specs.Checksum.{content_of}
use Rattle.krb_c.specs.Contexts.{HandsContext, HasContextFault}
use Rattle.krb_c.proofs.context.fevstunik_context_read.Goals as goal

pub returns-in-Ok : goal.returns-in-Ok
returns-in-Ok c =
    let read : HandsContext c.args.checksum.now c.args.context.now c.hand_over_with.new.told c.args.buffer.now c.hand_over_with.new.buffer c.hand_over_with.result = record {
      content = content_of c.in-Ok.found;
      is_checksum = c.in-Ok.ensures.found;
      tells = c.hand_over_with.ensures _ _ c.told.ensures;
    } in inl read

pub returns-in-Err : goal.returns-in-Err
returns-in-Err c =
    let fault : HasContextFault c.args.checksum.now c.context_told.result = record {
      fault = c.in-Err.fault;
      is_fault = c.in-Err.ensures.faulty;
      answer_is = c.context_told.ensures;
    } in inr (fault, (refl, refl))
