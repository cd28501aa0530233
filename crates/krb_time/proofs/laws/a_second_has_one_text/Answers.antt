use Rattle.krb_time.proofs.Calendar.{time_made, time_unique, time_range}
use Rattle.krb_time.proofs.laws.a_second_has_one_text.Goals as goal

pub returns : goal.returns
returns c = record { exists = time_made; one = time_unique; only = time_range }
