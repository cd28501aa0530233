use Rattle.std.proofs.Common.{inl, inr, rules}
use Rattle.krb_file.proofs.Exits.{err_is}
use Rattle.krb_c.proofs.service_options.service_of.Goals as goal

pub returns-in_err-skew-clause-fault : goal.returns-in_err-skew-clause-fault
returns-in_err-skew-clause-fault c =
    rw (err_is c.from_residual.result c.from_residual.ensures.1) (inl c.in_err-skew.ensures.fault)

pub returns-in_err-keytab-clause-fault : goal.returns-in_err-keytab-clause-fault
returns-in_err-keytab-clause-fault c =
    rw (err_is c.from_residual-in_err-keytab.result c.from_residual-in_err-keytab.ensures.1) (inr ((c.in_ok-skew.start, c.in_ok-skew.ensures.valid), inr ((c.in_ok-terms.terms, c.in_ok-terms.ensures.terms), inl c.in_err-keytab.ensures.unusable)))

pub returns-clause-fault : goal.returns-clause-fault
returns-clause-fault c = let is = c.in_ok-keytab.ensures.served in
    inr ((c.in_ok-skew.start, c.in_ok-skew.ensures.valid), inr ((c.in_ok-terms.terms, c.in_ok-terms.ensures.terms), inr ((is.entries, is.keytab), c.plain.ensures)))

pub returns-in-Ok-clause-made : goal.returns-in-Ok-clause-made
returns-in-Ok-clause-made c = record {
  start = c.in_ok-skew.start;
  valid = c.in_ok-skew.ensures.valid;
  terms = c.in_ok-terms.terms;
  terms_are = c.in_ok-terms.ensures.terms;
  kept = c.in_ok-keytab.keytab;
  is_served = c.in_ok-keytab.ensures.served;
  state_is = search rules;
  stands = search rules;
}
