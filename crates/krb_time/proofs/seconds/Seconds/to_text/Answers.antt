use Rattle.std.proofs.Common.{subst}
use Rattle.krb_time.specs.Time.{IsTime}
use Rattle.krb_time.proofs.Calendar.{time_is}
use Rattle.krb_time.proofs.seconds.Seconds.to_text.Goals as goal

pub returns : goal.returns
returns c =
    subst (λ s. IsTime s c.text_of.result) c.civil_at.ensures.value (time_is c.civil_at.result c.text_of.result c.civil_at.ensures.year c.text_of.ensures)
