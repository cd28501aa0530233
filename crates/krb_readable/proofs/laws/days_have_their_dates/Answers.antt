use Rattle.krb_readable.proofs.DateLaws.{day_text_is}
use Rattle.krb_readable.proofs.laws.days_have_their_dates.Goals as goal

pub returns : goal.returns
returns c = λ year month place day valid from number. day_text_is year month place day valid from number
