use Rattle.krb_talk.specs.Talk.{DecidesAt}
use Rattle.krb_talk.proofs.LawsOfLists.{at_once_from, at_last_from, held_from, listed_by}
use Rattle.krb_talk.proofs.laws.let_in_only_over_its_list.Goals as goal

pub returns-clause-at_once : goal.returns-clause-at_once
returns-clause-at_once c first second options listing asked login new one two =
    at_once_from (DecidesAt second) (Unit {0}) options second.given first.given.bytes.now listing
    (listed_by (DecidesAt first) (Unit {0}) options first.given listing asked one) login new two

pub returns-clause-at_last : goal.returns-clause-at_last
returns-clause-at_last c first second third options listing pending asked again login new one two three =
    at_last_from (DecidesAt second) (Unit {0}) options second.given (DecidesAt third) (Unit {0}) third.given first.given.bytes.now listing
    (listed_by (DecidesAt first) (Unit {0}) options first.given listing asked one) pending
    (held_from (DecidesAt second) (Unit {0}) options second.given listing pending again two) login new three
