use Rattle.krb_gss.proofs.negotiating.Negotiation.take.Goals as goal

pub returns-in-Asked : goal.returns-in-Asked
returns-in-Asked c = rw c.in-Asked.is (c.take_later.ensures c.in-Asked.field-0)
