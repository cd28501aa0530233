use Rattle.krb_der.proofs.Spelled.{spelled_is}
use Rattle.krb_der.proofs.laws.one_spelling.Goals as goal

pub returns-clause-written : goal.returns-clause-written
returns-clause-written c = λ k v. (spelled_is k v).one

pub returns-clause-negative : goal.returns-clause-negative
returns-clause-negative c = λ k v a b s t. (spelled_is k v).one_negative a b s.0 t.0

pub returns-clause-either : goal.returns-clause-either
returns-clause-either c = λ k few v. (spelled_is k v).either few

pub returns-clause-spells : goal.returns-clause-spells
returns-clause-spells c = λ k v bytes h. (spelled_is k v).negative bytes h.0

pub returns-clause-high : goal.returns-clause-high
returns-clause-high c = λ k none v. (spelled_is k v).none none
