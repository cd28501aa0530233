use Rattle.std.proofs.Common.{◌∙◌, ap, refl}
use Rattle.std.specs.Prelude.{Some}
use Rattle.krb_c.specs.Answer.{plain}
use Rattle.krb_c.specs.Messages.{verified, not_verified}
use Rattle.krb_c.proofs.messages.verify.Goals as goal

pub returns-in-Ok-clause-takes : goal.returns-in-Ok-clause-takes
returns-in-Ok-clause-takes c = verified c.verify_mic.new.self c.in-Ok.it c.in-Ok.ensures.ok c.in-Ok.ensures.taken refl c.verified_as.ensures c.plain.ensures

pub returns-in-Err-clause-takes : goal.returns-in-Err-clause-takes
returns-in-Err-clause-takes c =
    not_verified c.in-Err.fault c.in-Err.ensures.fault (ap Some c.in-Err.ensures.unchanged) refl (c.plain-in-Err.ensures ∙ ap plain c.receive_code.ensures)
