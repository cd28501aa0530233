use Rattle.std.proofs.Common.{inl, rules}
use Rattle.krb_c.specs.Reply.{agreed_bytes, agreement_told}
use Rattle.krb_c.proofs.pending.finish.Goals as goal

pub returns-in-Ok : goal.returns-in-Ok
returns-in-Ok c = inl (c.in-Ok.agreed, (search rules, c.hand_over_with.ensures (agreed_bytes c.in-Ok.agreed) (agreement_told c.in-Ok.agreed) c.told.ensures))
