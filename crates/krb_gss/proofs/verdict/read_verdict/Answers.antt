use Rattle.krb_gss.proofs.NegotiationLaws.{match-map, said-none, says-is, says-not}
use Rattle.krb_gss.proofs.verdict.read_verdict.Goals as goal

pub returns-in-None : goal.returns-in-None
returns-in-None c = said-none c.args.bytes.now c.in-None.ensures

pub returns-in-Some : goal.returns-in-Some
returns-in-Some c =
    let e = c.in-Some.ensures in
    match-map c.verdict_of.result (rw (c.rest.ensures, c.name_of.ensures) at c.verdict_of.ensures) (says-not e) (says-is e)
