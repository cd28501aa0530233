use Rattle.std.proofs.Common.{refl, ap, ℕ, Vec, Global, Result, Err}
use Rattle.krb_gss.specs.declared.wrapping.WrapFault.{WrapFault}
use Rattle.krb_c.specs.Wrapping.{longer, no_memory, later_answer, later_too}
use Rattle.krb_c.proofs.token.later_wrapped.Goals as goal

abbrev Failed : WrapFault → Result (Vec ℕ Global) WrapFault
Failed fault = Err fault

pub returns-in-Err-TooLong-clause-fault : goal.returns-in-Err-TooLong-clause-fault
returns-in-Err-TooLong-clause-fault c =
    later_too c.args.mechanism refl (longer (c.in-Err-TooLong.ensures.too_long (ap Failed c.in-Err-TooLong.field-0-is)) c.plain.ensures)

pub returns-in-Err-OutOfMemory-clause-fault : goal.returns-in-Err-OutOfMemory-clause-fault
returns-in-Err-OutOfMemory-clause-fault c =
    later_too c.args.mechanism refl (no_memory (c.in-Err-OutOfMemory.ensures.memory (ap Failed c.in-Err-OutOfMemory.field-0-is)) c.plain-in-Err-OutOfMemory.ensures)

pub returns-in-Ok-clause-token : goal.returns-in-Ok-clause-token
returns-in-Ok-clause-token c = later_answer c.args.mechanism refl c.in-Ok.ensures.written
