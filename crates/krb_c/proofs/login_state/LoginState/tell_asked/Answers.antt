use Rattle.std.proofs.Common.{subst}
use Rattle.std.specs.Prelude.{Option}
use Rattle.krb_name.specs.Text.{text_of}
use Rattle.krb_login.specs.declared.asked.Asked.{Asked}
use Rattle.krb_c.specs.Login.{TellsAskedIf, asked_of}
use Rattle.krb_c.proofs.login_state.LoginState.tell_asked.Goals as goal

pub returns-in-Some : goal.returns-in-Some
returns-in-Some c =
    subst (λ (asked : Option Asked). TellsAskedIf asked c.args.asked.now c.hand_over_with.new.told c.args.buffer.now c.hand_over_with.new.buffer c.hand_over_with.result) c.in-Some.ensures
    (c.hand_over_with.ensures (text_of c.in-Some.found.now.service) (asked_of c.in-Some.found.now) c.asked_told.ensures)
