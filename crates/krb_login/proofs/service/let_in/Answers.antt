use Rattle.std.proofs.Common.{refl, sym, subst}
use Rattle.krb_ap.specs.Answer.{taken_of}
use Rattle.krb_login.specs.Login.{HasCause, deciding, added, unanswered}
use Rattle.krb_login.specs.declared.cause.Cause.{Cause}
use Rattle.krb_login.proofs.service.let_in.Goals as goal

pub returns-in-Err-clause-decided : goal.returns-in-Err-clause-decided
returns-in-Err-clause-decided c call request holds ordinary accept meets same_confounder same_choice =
    subst (λ (cause : Cause). HasCause call c.out_of_memory.result cause) (sym c.out_of_memory.ensures.cause)
    (deciding c.args.carrier request holds ordinary, c.out_of_memory.ensures.silent)

pub returns-in-Err-clause-after : goal.returns-in-Err-clause-after
returns-in-Err-clause-after c call request holds accept meets =
    unanswered c.args.carrier request (taken_of c.args.accepted) c.out_of_memory.ensures.cause holds accept meets c.in-Err.ensures.due refl

pub returns-in-Ok-clause-after : goal.returns-in-Ok-clause-after
returns-in-Ok-clause-after c call request holds accept meets = added c.args.carrier request tt holds refl
