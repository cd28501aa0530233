use Rattle.std.proofs.Common.{inr, refl, sym, subst}
use Rattle.std.specs.Prelude.{Option}
use Rattle.krb_ap.specs.declared.accepted.Accepted.{Accepted}
use Rattle.krb_c.specs.Choice.{TellsReply}
use Rattle.krb_c.proofs.accepted_state.AcceptedState.reply.Goals as goal

pub returns-in-Err : goal.returns-in-Err
returns-in-Err c = subst (λ (last : Option Accepted). TellsReply last c.args.confounder.now c.args.choice.now c.args.subkey.now c.args.buffer.now c.args.buffer.now c.in-Err.answer)
    (sym c.in-Some.is) (inr (c.in-Err.ensures.fault, refl))
