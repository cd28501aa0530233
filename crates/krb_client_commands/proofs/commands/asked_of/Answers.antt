use Rattle.std.proofs.Common.{inl, inr, refl, rules}
use Rattle.krb_client_commands.proofs.commands.asked_of.Goals as goal

pub returns-in_default-clause-fault : goal.returns-in_default-clause-fault
returns-in_default-clause-fault g c = inr (inl (λ moment is. let none = c.in_default.ensures.all moment is in cc), refl)

pub returns-in_err-service-clause-moment : goal.returns-in_err-service-clause-moment
returns-in_err-service-clause-moment g c = λ lacks. absurd (lacks c.in-Some.at c.in-Some.ensures.asked)

pub returns-in_default-read_confounder-clause-moment : goal.returns-in_default-read_confounder-clause-moment
returns-in_default-read_confounder-clause-moment g c = λ lacks. absurd (lacks c.in-Some.at c.in-Some.ensures.asked)

pub returns-in_default-read_confounder-clause-fault : goal.returns-in_default-read_confounder-clause-fault
returns-in_default-read_confounder-clause-fault g c =
    inr (inr (inl (λ confounder is. c.read_confounder.ensures.none (search rules) confounder is)), c.complain.ensures)

pub returns-in_default-wrapping_of-clause-moment : goal.returns-in_default-wrapping_of-clause-moment
returns-in_default-wrapping_of-clause-moment g c = λ lacks. absurd (lacks c.in-Some.at c.in-Some.ensures.asked)

pub returns-in_default-wrapping_of-clause-fault : goal.returns-in_default-wrapping_of-clause-fault
returns-in_default-wrapping_of-clause-fault g c =
    inr (inr (inr (λ wrapping is. let none = c.in_default-wrapping_of.ensures.all wrapping is in cc)), c.complain-in_default-wrapping_of.ensures)

pub returns-clause-moment : goal.returns-clause-moment
returns-clause-moment g c = λ lacks. absurd (lacks c.in-Some.at c.in-Some.ensures.asked)
