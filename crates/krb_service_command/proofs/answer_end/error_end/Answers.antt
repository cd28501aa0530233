use Rattle.std.proofs.Common.{ap, inr, Result, Err, String, Global}
use Rattle.krb_gss.specs.declared.wrapping.WrapFault.{WrapFault}
use Rattle.krb_service_command.proofs.answer_end.error_end.Goals as goal

abbrev Failed : WrapFault → Result (String Global) WrapFault
Failed fault = Err fault

pub returns-in-TooLong : goal.returns-in-TooLong
returns-in-TooLong c = inr (inr (record {
  bytes = c.in-Ok.bytes.items;
  error = c.in-Ok.ensures.error;
  too_long = rw c.deref.ensures.value at (c.in-Err-sent_text.ensures.too_long (ap Failed c.in-TooLong.is));
}))
