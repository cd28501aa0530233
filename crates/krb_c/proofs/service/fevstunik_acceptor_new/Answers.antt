use Rattle.std.proofs.Common.{inr, refl, subst}
use Rattle.krb_c.specs.Options.{IsUnmade}
use Rattle.krb_c.specs.declared.structs.AcceptorOptions.{AcceptorOptions}
use Rattle.krb_c.proofs.service.fevstunik_acceptor_new.Goals as goal

pub returns-in-Err : goal.returns-in-Err
returns-in-Err c = inr (
  subst (λ (options : AcceptorOptions). IsUnmade options c.args.service.now c.args.keytab.now c.in-Err.answer) c.whole.ensures c.in-Err.ensures.fault,
  refl,
)
