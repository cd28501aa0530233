use Rattle.std.proofs.Common.{inl}
use Rattle.krb_talk.proofs.listed.held.Goals as goal

pub returns-in-Err-clause-faulty : goal.returns-in-Err-clause-faulty
returns-in-Err-clause-faulty c = inl c.in-Err.ensures.faulty
