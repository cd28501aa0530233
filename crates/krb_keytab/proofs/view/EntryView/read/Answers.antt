use Rattle.std.proofs.Common.{List, ℕ, sym, subst, arith}
use Rattle.std.proofs.lemmas.Result.{err_from_is_err_and}
use Rattle.krb_keytab.specs.Inner.Entry.{HoldsEntry}
use Rattle.krb_keytab.proofs.EntryLaws.{row_taken, none_holds}
use Rattle.krb_keytab.proofs.view.EntryView.read.Goals as goal

pub returns-in_err-row-clause-short : goal.returns-in_err-row-clause-short
returns-in_err-row-clause-short c =
    let p = err_from_is_err_and c.from_residual.result c.from_residual.ensures.1 in
    rw p.1 (none_holds c.args.body.now (rw c.new-cursor.ensures at c.in_err-row.ensures.short))

pub from_row-requires : goal.from_row-requires
from_row-requires c =
    (row_taken c.args.body.now c.in_ok-row.row c.read.new.cursor (λ i. omega (arith, c.type_inv.body i)) (rw c.new-cursor.ensures at c.in_ok-row.ensures.read)).1

pub returns-clause-read : goal.returns-clause-read
returns-clause-read c =
    let taken = row_taken c.args.body.now c.in_ok-row.row c.read.new.cursor (λ i. omega (arith, c.type_inv.body i)) (rw c.new-cursor.ensures at c.in_ok-row.ensures.read) in
    subst (λ (body : List ℕ). HoldsEntry body c.from_row.result) (sym taken.0.parts) (rw c.rest.ensures at c.from_row.ensures)
