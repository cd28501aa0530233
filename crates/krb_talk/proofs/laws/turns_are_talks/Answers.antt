use Rattle.krb_talk.proofs.Turning.{alone, served}
use Rattle.krb_talk.proofs.laws.turns_are_talks.Goals as goal

pub returns-clause-alone : goal.returns-clause-alone
returns-clause-alone c at options old new decision it = alone at options old new decision it

pub returns-clause-served : goal.returns-clause-served
returns-clause-served c at options old mid new negotiation after decided decision it serves concludes =
    served at options old mid new negotiation after decided decision it serves concludes
