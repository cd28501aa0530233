use Rattle.std.proofs.Common.{ap, refl}
use Rattle.krb_gss.specs.declared.negotiating.Negotiation.{Negotiation}
use Rattle.krb_talk.specs.Turns.{is_checked, takes_last}
use Rattle.krb_talk.specs.declared.talk.Turn.TheVariants.{Serve}
use Rattle.krb_talk.proofs.Turning.{take_at}
use Rattle.krb_talk.proofs.talk.turn_of.Goals as goal

pub returns-in-Login : goal.returns-in-Login
returns-in-Login c = take_at c.args.bytes.now c.login_turn.result.0 c.login_turn.result.1 _ _ c.in-Login.is c.login_turn.ensures

pub returns-in-Listed : goal.returns-in-Listed
returns-in-Listed c = is_checked c.in-Listed.listed c.in-Listed.is (ap (λ (n : Negotiation). Serve n) c.negotiation.ensures) refl

pub returns-in-Waiting : goal.returns-in-Waiting
returns-in-Waiting c = takes_last c.in-Waiting.pending c.finish.result c.end.result c.in-Waiting.is c.finish.ensures refl c.end.ensures refl
