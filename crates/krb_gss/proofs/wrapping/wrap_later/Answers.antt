use Rattle.krb_gss.proofs.wrapping.wrap_later.Goals as goal

pub returns-clause-written : goal.returns-clause-written
returns-clause-written c = let p = c.parts-verdict.ensures in rw (p.state, p.id, p.message) at c.encoded.ensures.written
