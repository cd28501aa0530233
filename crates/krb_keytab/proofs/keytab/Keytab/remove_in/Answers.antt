use Rattle.std.proofs.Common.{Ok, Err, Some, None}
use Rattle.krb_file.proofs.Exits.{err_is}
use Rattle.krb_keytab.proofs.EditLaws.{makes_hole, loses_entry, removal_missing, removal_faults}
use Rattle.krb_keytab.proofs.keytab.Keytab.remove_in.Goals as goal

pub returns-in_err-find_entry-clause-missing : goal.returns-in_err-find_entry-clause-missing
returns-in_err-find_entry-clause-missing c =
    rw (err_is c.from_residual.result c.from_residual.ensures.1) (removal_missing c.args.file.now.items c.args.index (Err c.in_err-find_entry.field-0.0) (rw c.deref.ensures.value at c.in_err-find_entry.ensures))

pub returns-in_err-find_entry-clause-fault : goal.returns-in_err-find_entry-clause-fault
returns-in_err-find_entry-clause-fault c =
    rw (err_is c.from_residual.result c.from_residual.ensures.1) (removal_faults c.args.file.now.items c.args.index (Err c.in_err-find_entry.field-0.0) (rw c.deref.ensures.value at c.in_err-find_entry.ensures))

pub returns-in-None-clause-fault : goal.returns-in-None-clause-fault
returns-in-None-clause-fault c = removal_faults c.args.file.now.items c.args.index (Ok None) (rw (c.in-None.is, c.deref.ensures.value) at c.in_ok-find_entry.ensures)

pub returns-in-Some-clause-ok : goal.returns-in-Some-clause-ok
returns-in-Some-clause-ok c = makes_hole (rw (c.in-Some.is, c.deref.ensures.value) at c.in_ok-find_entry.ensures) c.clear_in.ensures

pub returns-in-Some-clause-list : goal.returns-in-Some-clause-list
returns-in-Some-clause-list c = loses_entry (makes_hole (rw (c.in-Some.is, c.deref.ensures.value) at c.in_ok-find_entry.ensures) c.clear_in.ensures)

pub returns-in-Some-clause-missing : goal.returns-in-Some-clause-missing
returns-in-Some-clause-missing c = removal_missing c.args.file.now.items c.args.index (Ok (Some c.in-Some.place)) (rw (c.in-Some.is, c.deref.ensures.value) at c.in_ok-find_entry.ensures)

pub returns-in-Some-clause-fault : goal.returns-in-Some-clause-fault
returns-in-Some-clause-fault c = removal_faults c.args.file.now.items c.args.index (Ok (Some c.in-Some.place)) (rw (c.in-Some.is, c.deref.ensures.value) at c.in_ok-find_entry.ensures)
