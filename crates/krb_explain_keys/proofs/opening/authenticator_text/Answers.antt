use Rattle.std.proofs.Common.{inr, rules}
use Rattle.krb_msg.specs.Module.{authenticator}
use Rattle.krb_ap.proofs.TurnedAway.{opens_nothing}
use Rattle.krb_explain_keys.proofs.OpeningLaws.{opened_as, under}
use Rattle.krb_explain_keys.proofs.opening.authenticator_text.Goals as goal

pub returns : goal.returns
returns c =
    let made = rw c.in-Some.is at c.session_key_of.ensures in
    opened_as c.opened.result
    (λ shut. inr (λ auth o. opens_nothing _ _ _ authenticator shut auth o.opens))
    (λ plain opens. record { usable = made.1; same_type = search rules; opens = opens })
    (under (λ v. v.items) _ _ _ _ c.opened.result made.0 c.opened.ensures)
