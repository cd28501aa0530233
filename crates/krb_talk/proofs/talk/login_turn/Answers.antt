use Rattle.std.proofs.Common.{ap, refl}
use Rattle.krb_gss.specs.declared.negotiating.Negotiation.{Negotiation}
use Rattle.krb_talk.specs.Turns.{is_passed}
use Rattle.krb_talk.specs.declared.stage.Stage.TheVariants.{Login}
use Rattle.krb_talk.proofs.Turning.{take_at}
use Rattle.krb_talk.proofs.talk.login_turn.Goals as goal

pub returns-in-Begun : goal.returns-in-Begun
returns-in-Begun c =
    take_at c.args.bytes.now c.first_turn.result.0 c.first_turn.result.1 _ _ (ap (λ (n : Negotiation). Login n) c.in-Begun.is) c.first_turn.ensures

pub returns-in_default : goal.returns-in_default
returns-in_default c = is_passed c.args.negotiation refl (λ is listing it. c.in_default.not-Begun is) refl refl
