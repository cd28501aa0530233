use Rattle.std.proofs.Common.{sym, subst}
use Rattle.krb_login.specs.Login.{HasCause, asking}
use Rattle.krb_login.specs.declared.cause.Cause.{Cause}
use Rattle.krb_login.proofs.service.go_on.Goals as goal

pub returns-in-Err-clause-decided : goal.returns-in-Err-clause-decided
returns-in-Err-clause-decided c call begun asks =
    subst (λ (cause : Cause). HasCause call c.out_of_memory.result cause) (sym c.out_of_memory.ensures.cause) (asking c.args.first begun asks, c.out_of_memory.ensures.silent)
