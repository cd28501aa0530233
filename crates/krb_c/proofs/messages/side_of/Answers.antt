use Rattle.std.proofs.Common.{Bool, subst, sym}
use Rattle.krb_c.specs.Messages.{StandsAt}
use Rattle.krb_c.proofs.messages.side_of.Goals as goal

pub returns-then-has_sent-clause-stands : goal.returns-then-has_sent-clause-stands
returns-then-has_sent-clause-stands c =
    subst (λ (has_sent : Bool). StandsAt has_sent c.args.agreed.now c.args.role c.after_first.result) (sym c.if-has_sent.true) c.after_first.ensures.sent

pub returns-else-has_sent-clause-stands : goal.returns-else-has_sent-clause-stands
returns-else-has_sent-clause-stands c =
    subst (λ (has_sent : Bool). StandsAt has_sent c.args.agreed.now c.args.role c.new.result) (sym c.if-has_sent.false) c.new.ensures.begun
