use Rattle.std.proofs.Common.{inl, inr}
use Rattle.krb_service_command.proofs.WordLaws.{second_read}
use Rattle.krb_service_command.proofs.explain_command.explain_by.Goals as goal

pub returns-in-Ok-clause-skew : goal.returns-in-Ok-clause-skew
returns-in-Ok-clause-skew g c = λ lacks. absurd (lacks c.in-Ok.wanted.skew c.in-Ok.ensures.asked.skew)

pub returns-in-Ok-clause-others : goal.returns-in-Ok-clause-others
returns-in-Ok-clause-others g c = λ lacks.
    elim lacks [
      | inl unread ↦ absurd (second_read _ c.in-Ok.wanted.second c.in-Ok.ensures.asked.second unread)
      | inr none ↦ absurd (none c.in-Ok.wanted.only c.in-Ok.ensures.asked.only)
    ]

pub returns-in-Err-clause-words : goal.returns-in-Err-clause-words
returns-in-Err-clause-words g c = λ two. rw two at (c.in-Err.ensures.words two)

pub returns-in-Err-clause-skew : goal.returns-in-Err-clause-skew
returns-in-Err-clause-skew g c = λ lacks. let two = c.in-Err.ensures.skew lacks in cc
