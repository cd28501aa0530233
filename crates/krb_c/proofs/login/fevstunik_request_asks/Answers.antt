use Rattle.std.proofs.Common.{subst}
use Rattle.std.specs.Prelude.{Option}
use Rattle.std.specs.Option.{MatchOption}
use Rattle.krb_name.specs.Text.{text_of}
use Rattle.krb_login.specs.Asked.{Asks, AsksNothing}
use Rattle.krb_login.specs.declared.asked.Asked.{Asked}
use Rattle.krb_c.specs.Login.{asked_of, asks}
use Rattle.krb_c.proofs.login.fevstunik_request_asks.Goals as goal

pub returns-in-Ok-Some : goal.returns-in-Ok-Some
returns-in-Ok-Some c =
    let found = c.in-Ok-Some.found in
    let is : Asks c.args.request.now found =
    subst (λ (it : Option Asked). MatchOption it (AsksNothing c.args.request.now) (Asks c.args.request.now)) c.in-Ok-Some.field-0-is c.in-Ok-Some.ensures.asked in
    asks found is (c.hand_over_with.ensures (text_of found.service) (asked_of found) c.asked_told.ensures)
