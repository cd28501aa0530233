use Rattle.std.proofs.Common.{ap}
use Rattle.krb_ap.specs.Setup.{Setup}
use Rattle.krb_ap.proofs.Truth.{is_so}
use Rattle.krb_ap.proofs.Late.{times_of_new}
use Rattle.krb_ap.proofs.judging.Rules.refusal_of_new.Goals as goal

pub returns : goal.returns
returns c = times_of_new c.args.self.now c.args.now _ _ _ c.self.inside.skew (ap (λ (s : Setup). s.skew) c.self.view_is) _
    (rw c.sent_at.ensures at (is_so _ _ c.is_settled.ensures c.if-not-is_settled.false)) c.refusal_of_times.ensures
