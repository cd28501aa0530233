use Rattle.std.proofs.Common.{sym, subst}
use Rattle.std.specs.Prelude.{Option}
use Rattle.krb_ap.specs.declared.accepted.Accepted.{Accepted}
use Rattle.krb_c.specs.Known.{TellsKnown, known_of, told_bytes}
use Rattle.krb_c.proofs.accepted_state.AcceptedState.tell.Goals as goal

pub returns-in-Some : goal.returns-in-Some
returns-in-Some c = subst (λ (last : Option Accepted). TellsKnown last c.args.known.now c.hand_over_with.new.told c.args.buffer.now c.hand_over_with.new.buffer c.hand_over_with.result)
    (sym c.in-Some.is) (c.hand_over_with.ensures (told_bytes c.in-Some.accepted) (known_of c.in-Some.accepted) c.tell.ensures)
