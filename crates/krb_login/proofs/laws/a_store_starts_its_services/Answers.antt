use Rattle.krb_login.proofs.Remembering.{not_from_before}
use Rattle.krb_login.proofs.laws.a_store_starts_its_services.Goals as goal

pub returns : goal.returns
returns c = λ from largest old setup history call taken. not_from_before from largest old setup history call taken
