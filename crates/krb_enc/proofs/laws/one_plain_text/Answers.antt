use Rattle.krb_enc.proofs.OnePlain.{one_plain}
use Rattle.krb_enc.proofs.KeyLaws.{one_plain_of_key}
use Rattle.krb_enc.proofs.laws.one_plain_text.Goals as goal

pub returns-clause-profile : goal.returns-clause-profile
returns-clause-profile c = one_plain

pub returns-clause-key : goal.returns-clause-key
returns-clause-key c = one_plain_of_key
