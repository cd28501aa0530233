use Rattle.std.proofs.Common.{arith}
use Rattle.krb_der.proofs.Spelled.{spelled_is}
use Rattle.krb_der.proofs.laws.written.Goals as goal

pub returns-clause-exists : goal.returns-clause-exists
returns-clause-exists c = λ k v fits small. (spelled_is k v).made fits (omega (arith, small))

pub returns-clause-one : goal.returns-clause-one
returns-clause-one c = λ k v. (spelled_is k v).one

pub returns-clause-spells : goal.returns-clause-spells
returns-clause-spells c = λ k v. (spelled_is k v).written

pub returns-clause-size : goal.returns-clause-size
returns-clause-size c = λ k v. (spelled_is k v).sized
