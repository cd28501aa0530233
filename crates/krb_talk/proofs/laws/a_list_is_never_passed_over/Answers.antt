use Rattle.krb_talk.specs.Talk.{DecidesAt}
use Rattle.krb_talk.proofs.LawsOfLists.{no_decision_listed, no_decision_waiting}
use Rattle.krb_talk.proofs.laws.a_list_is_never_passed_over.Goals as goal

pub returns-clause-listed : goal.returns-clause-listed
returns-clause-listed c at options listing login new it = no_decision_listed (DecidesAt at) (Unit {0}) options at.given listing login new it

pub returns-clause-waiting : goal.returns-clause-waiting
returns-clause-waiting c at options pending login new it = no_decision_waiting (DecidesAt at) (Unit {0}) options at.given pending login new it
