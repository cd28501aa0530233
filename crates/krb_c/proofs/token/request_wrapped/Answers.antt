use Rattle.std.proofs.Common.{ap, ℕ, Vec, Global, Result, Err}
use Rattle.krb_gss.specs.declared.wrapping.WrapFault.{WrapFault}
use Rattle.krb_c.specs.Wrapping.{longer, no_memory, request_size}
use Rattle.krb_c.proofs.token.request_wrapped.Goals as goal

abbrev Failed : WrapFault → Result (Vec ℕ Global) WrapFault
Failed fault = Err fault

pub returns-in-Err-TooLong-clause-fault : goal.returns-in-Err-TooLong-clause-fault
returns-in-Err-TooLong-clause-fault c =
    request_size c.in-Some.wrapping c.in-Some.mechanism c.in-Some.ensures (longer (c.in-Err-TooLong.ensures.too_long (ap Failed c.in-Err-TooLong.field-0-is)) c.plain-in-Err-TooLong.ensures)

pub returns-in-Err-OutOfMemory-clause-fault : goal.returns-in-Err-OutOfMemory-clause-fault
returns-in-Err-OutOfMemory-clause-fault c =
    request_size c.in-Some.wrapping c.in-Some.mechanism c.in-Some.ensures (no_memory (c.in-Err-OutOfMemory.ensures.memory (ap Failed c.in-Err-OutOfMemory.field-0-is)) c.plain-in-Err-OutOfMemory.ensures)
