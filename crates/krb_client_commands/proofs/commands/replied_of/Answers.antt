use Rattle.std.proofs.Common.{inl, inr, refl}
use Rattle.krb_client_commands.proofs.commands.replied_of.Goals as goal

pub returns-in_default-clause-fault : goal.returns-in_default-clause-fault
returns-in_default-clause-fault g c = inr (inl (λ moment is. let none = c.in_default.ensures.all moment is in cc, refl))

pub returns-in_err-service-clause-moment : goal.returns-in_err-service-clause-moment
returns-in_err-service-clause-moment g c = λ lacks. absurd (lacks c.in-Some.at c.in-Some.ensures.asked)
