use Rattle.std.proofs.Common.{inl, inr}
use Rattle.krb_client_commands.proofs.commands.run_request.Goals as goal

pub returns-in-Ok-clause-moment : goal.returns-in-Ok-clause-moment
returns-in-Ok-clause-moment g c = λ lacks. absurd (lacks c.in-Ok.asked.at c.in-Ok.ensures.asked.moment)

pub returns-in-Ok-clause-others : goal.returns-in-Ok-clause-others
returns-in-Ok-clause-others g c = λ lacks.
    elim lacks [
      | inl none ↦ absurd (none c.in-Ok.asked.service c.in-Ok.ensures.asked.service)
      | inr more ↦ elim more [
        | inl none ↦ absurd (none c.in-Ok.asked.confounder c.in-Ok.ensures.asked.confounder)
        | inr none ↦ absurd (none c.in-Ok.asked.wrapping c.in-Ok.ensures.asked.wrapping)
      ]
    ]

pub returns-in-Err-clause-moment : goal.returns-in-Err-clause-moment
returns-in-Err-clause-moment g c = λ lacks. let two = c.in-Err.ensures.moment lacks in cc

pub returns-in-Err-clause-words : goal.returns-in-Err-clause-words
returns-in-Err-clause-words g c = λ two. rw two at c.in-Err.ensures.fault
