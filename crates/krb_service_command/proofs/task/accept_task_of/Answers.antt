use Rattle.std.proofs.Common.{inl, refl}
use Rattle.krb_service_command.proofs.task.accept_task_of.Goals as goal

pub returns-in_default-clause-fault : goal.returns-in_default-clause-fault
returns-in_default-clause-fault g c = inl (λ span start is asks. let none = c.in_default.ensures.all span start is asks in cc, refl)

pub returns-in_err-service-clause-times : goal.returns-in_err-service-clause-times
returns-in_err-service-clause-times g c = λ lacks.
    absurd (lacks c.in-Some.times.skew c.in-Some.times.start c.in-Some.ensures.skew c.in-Some.ensures.start)

pub returns-in_err-only-clause-times : goal.returns-in_err-only-clause-times
returns-in_err-only-clause-times g c = λ lacks.
    absurd (lacks c.in-Some.times.skew c.in-Some.times.start c.in-Some.ensures.skew c.in-Some.ensures.start)

pub returns-clause-times : goal.returns-clause-times
returns-clause-times g c = λ lacks.
    absurd (lacks c.in-Some.times.skew c.in-Some.times.start c.in-Some.ensures.skew c.in-Some.ensures.start)
