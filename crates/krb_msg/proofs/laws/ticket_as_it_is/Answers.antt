use Rattle.std.proofs.Common.{refl, lit≤}
use Rattle.krb_msg.specs.Module.{ticket}
use Rattle.krb_msg.proofs.OverLaws.{over, inside, no_other}
use Rattle.krb_msg.proofs.laws.ticket_as_it_is.Goals as goal

pub returns-clause-content : goal.returns-clause-content
returns-clause-content c = λ v bytes request m w.
    let law = c.one_spelling.ensures in
    let t = v.ticket in
    over v bytes request (no_other t bytes (law.written ticket t) (law.high ticket refl t) (law.either ticket (lit≤ tt) t bytes m.spelled)) w

pub returns-clause-inside : goal.returns-clause-inside
returns-clause-inside c = λ v bytes request m w.
    inside v.options bytes v.authenticator request (returns-clause-content c v bytes request m w)
