use Rattle.std.proofs.Common.{inl, ap, refl, subst, List, ℕ}
use Rattle.std.specs.Prelude.{Result, Err}
use Rattle.krb_keytab.specs.Edit.{LacksEntry}
use Rattle.krb_keytab.specs.Format.{IsFaultOf}
use Rattle.krb_keytab.specs.declared.fault.KeytabFault.{KeytabFault}
use Rattle.krb_c.proofs.keytab_file.removed.Goals as goal

abbrev Refused : KeytabFault → Result (Unit {0}) KeytabFault
Refused fault = Err fault

pub returns-in-Err-remove_in-clause-fault : goal.returns-in-Err-remove_in-clause-fault
returns-in-Err-remove_in-clause-fault c = let remove_in = c.in-Err-remove_in.ensures in inl (record {
  fault = c.in-Err-remove_in.fault;
  missing = λ is. subst (λ (bytes : List ℕ). LacksEntry bytes c.args.index) c.in-Ok.ensures.items (remove_in.missing.0 (ap Refused is));
  holds = λ other. subst (λ (bytes : List ℕ). IsFaultOf bytes c.in-Err-remove_in.fault) c.in-Ok.ensures.items ((remove_in.fault c.in-Err-remove_in.fault other).0 refl);
  answer_is = c.keytab.ensures;
})
