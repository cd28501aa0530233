use Rattle.krb_enc.proofs.OnePlain.{decided}
use Rattle.krb_enc.proofs.KeyLaws.{decided_of_key}
use Rattle.krb_enc.proofs.laws.opening_is_decided.Goals as goal

pub returns-clause-profile : goal.returns-clause-profile
returns-clause-profile c = decided

pub returns-clause-key : goal.returns-clause-key
returns-clause-key c = decided_of_key
