use Rattle.std.proofs.Common.{inl, inr}
use Rattle.krb_service_command.proofs.commands.run_accept.Goals as goal

pub returns-in-Ok-clause-times : goal.returns-in-Ok-clause-times
returns-in-Ok-clause-times g c = λ lacks. let none = c.in-Ok.ensures.times lacks in cc

pub returns-in-Ok-clause-names : goal.returns-in-Ok-clause-names
returns-in-Ok-clause-names g c = λ lacks.
    elim lacks [
      | inl none ↦ absurd (none c.in-Ok.task.service c.in-Ok.ensures.asked.service)
      | inr none ↦ absurd (none c.in-Ok.task.only c.in-Ok.ensures.asked.only)
    ]

pub returns-in-Err-clause-times : goal.returns-in-Err-clause-times
returns-in-Err-clause-times g c = λ lacks. let two = c.in-Err.ensures.times lacks in cc

pub returns-in-Err-clause-words : goal.returns-in-Err-clause-words
returns-in-Err-clause-words g c = λ two. rw two at c.in-Err.ensures.fault
