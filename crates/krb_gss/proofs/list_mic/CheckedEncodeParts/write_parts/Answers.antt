use Rattle.krb_gss.proofs.list_mic.CheckedEncodeParts.write_parts.Goals as goal

pub returns-clause-written : goal.returns-clause-written
returns-clause-written c = rw c.state.ensures at c.write_parts.ensures.written
