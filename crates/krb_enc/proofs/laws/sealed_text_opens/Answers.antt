use Rattle.krb_enc.proofs.OnePlain.{sealed_opens, sealed_undone}
use Rattle.krb_enc.proofs.laws.sealed_text_opens.Goals as goal

pub returns-clause-sealed : goal.returns-clause-sealed
returns-clause-sealed c = sealed_opens

pub returns-clause-undone : goal.returns-clause-undone
returns-clause-undone c = sealed_undone
