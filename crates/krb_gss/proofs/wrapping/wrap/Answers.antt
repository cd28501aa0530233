use Rattle.krb_gss.proofs.wrapping.wrap.Goals as goal

pub returns-in-Bare-default-clause-written : goal.returns-in-Bare-default-clause-written
returns-in-Bare-default-clause-written c = rw c.in-Bare-default.is-0 c.encoded.ensures.written

pub returns-in-Negotiated-None-clause-written : goal.returns-in-Negotiated-None-clause-written
returns-in-Negotiated-None-clause-written c = let r = c.in-Negotiated-None in rw (r.is-0, r.is-1) c.encoded-in-Negotiated-None.ensures.written

pub returns-in-Negotiated-Some-clause-written : goal.returns-in-Negotiated-Some-clause-written
returns-in-Negotiated-Some-clause-written c = let r = c.in-Negotiated-Some in rw (r.is-0, r.is-1) c.encoded-in-Negotiated-Some.ensures.written
