use Rattle.krb_ap.proofs.Worlds.{agreement, held_in_each}
use Rattle.krb_ap.proofs.WorldsOnce.{in_each_world}
use Rattle.krb_ap.proofs.laws.both_agree.Goals as goal

pub returns-clause-once : goal.returns-clause-once
returns-clause-once c = λ setup credential events end comes. in_each_world c.facts.ensures setup credential events end comes

pub returns-clause-all : goal.returns-clause-all
returns-clause-all c = λ setup credential ticket part events end has comes.
    agreement c.facts.ensures (λ v r bytes one other. c.one_type.ensures.request_or_reply v r bytes one.spelled other.spelled)
    setup credential ticket part has (in_each_world c.facts.ensures setup credential) events end comes

pub returns-clause-each : goal.returns-clause-each
returns-clause-each c = λ awaited bytes agreed is_agreed.
    held_in_each c.facts.ensures (λ v r bytes one other. c.one_type.ensures.request_or_reply v r bytes one.spelled other.spelled)
    (in_each_world c.facts.ensures) awaited bytes agreed is_agreed
