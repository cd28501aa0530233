use Rattle.std.proofs.Common.{refl, rules}
use Rattle.krb_keytab.specs.Format.{IsAnswerOf, IsKeytab}
use Rattle.krb_keytab.specs.declared.fault.KeytabFault.TheVariants.{OutOfMemory, Read}
use Rattle.krb_file_commands.specs.declared.fault.PickFault.TheVariants as pick
use Rattle.krb_file_commands.proofs.FileLaws.{of_file}
use Rattle.krb_file_commands.proofs.FaultLaws.{err_is, if_some_map}
use Rattle.krb_file_commands.proofs.PickLaws.{allows_unmet, none_unpicked, unmet_of, unmet_reads}
use Rattle.krb_file_commands.proofs.ReadingLaws.{faulty, fault_met, keytab_counted, lacking, value_made}
use Rattle.krb_file_commands.proofs.pick.PickKeyProduct.make.Goals as goal

pub returns-in_err-keytab : goal.returns-in_err-keytab
returns-in_err-keytab g c =
    rw (err_is c.from_residual.result c.from_residual.ensures.1)
    (fault_met _ _ _ _ _ _ _ _ _ IsAnswerOf OutOfMemory Read c.read.result c.read.ensures.reads pick.Keytab c.in_err-keytab.field-0.0 c.in_err-keytab.was refl refl (λ given is. is) tt
    (search (rules, keytab_counted)))

pub returns-in_err-entry : goal.returns-in_err-entry
returns-in_err-entry g c =
    let e = c.in_err-entry.field-0.0 in
    let unmet = c.in_err-entry.ensures.unpicked in
    rw (err_is c.from_residual-in_err-entry.result c.from_residual-in_err-entry.ensures.1)
    (faulty _ _ _ _ _ _ _ _ _ e (if_some_map (g.S.Source.remaining c.args.source.now) (λ given is. unmet_of _ given c.in_ok-keytab.keytab e is unmet) c.in_ok-keytab.ensures.reads.found)
    (allows_unmet _ _ c.in_ok-keytab.keytab e unmet) (rw (unmet_reads _ c.in_ok-keytab.keytab e unmet) (search rules)) c.read.ensures.reads.taken)

pub returns-in_err-line : goal.returns-in_err-line
returns-in_err-line g c =
    rw (err_is c.from_residual-in_err-line.result c.from_residual-in_err-line.ensures.1)
    (lacking _ _ _ _ _ _ _ _ _ pick.OutOfMemory refl (of_file IsKeytab _ c.in_ok-keytab.keytab _ c.in_ok-keytab.ensures.reads.found (c.in_ok-entry.entry.now, c.in_ok-entry.ensures.chosen)) (search rules) c.read.ensures.reads.taken)

pub returns : goal.returns
returns g c =
    value_made _ _ _ _ _ _ _ _ _ IsAnswerOf OutOfMemory Read c.read.result c.read.ensures.reads c.in_ok-keytab.keytab c.in_ok-line.line c.in_ok-keytab.was
    (of_file IsKeytab _ c.in_ok-keytab.keytab _ c.in_ok-keytab.ensures.reads.found (record { entry = c.in_ok-entry.entry.now; picked = c.in_ok-entry.ensures.chosen; line = c.in_ok-line.ensures }))
    (λ given e is has. none_unpicked c.each_file_has_one_answer.ensures.one c.each_choice_is_one.ensures _ given c.in_ok-keytab.keytab c.in_ok-entry.entry.now is c.in_ok-entry.ensures.chosen e has) (search rules)
