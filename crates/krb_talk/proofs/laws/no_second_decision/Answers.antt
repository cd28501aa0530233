use Rattle.krb_talk.proofs.Ending.{over, same}
use Rattle.krb_talk.proofs.laws.no_second_decision.Goals as goal

pub returns-clause-same : goal.returns-clause-same
returns-clause-same c bytes confounder choice options old mid new first decision after decided takes it is =
    same old mid new first decision bytes confounder choice options after decided is takes it

pub returns-clause-over : goal.returns-clause-over
returns-clause-over c taken bytes confounder choice options old mid new first decision after decided takes none it is =
    over old mid new first decision bytes confounder choice options after decided is taken takes none it
