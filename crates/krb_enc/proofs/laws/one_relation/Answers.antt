use Rattle.krb_enc.proofs.Relation.{backwards, forwards}
use Rattle.krb_enc.proofs.laws.one_relation.Goals as goal

pub returns-clause-undone : goal.returns-clause-undone
returns-clause-undone c = backwards

pub returns-clause-sealed : goal.returns-clause-sealed
returns-clause-sealed c = forwards
