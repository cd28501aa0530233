use Rattle.std.proofs.Common.{rules, arith}
use Rattle.krb_keytab.proofs.EntryLaws.{row_holds}
use Rattle.krb_keytab.proofs.view.EntryView.from_row.Goals as goal

pub returns : goal.returns
returns c =
    let held = row_holds c.args.row c.args.rest.now c.requires (λ i. omega (arith, c.type_inv.rest i)) in
    search (rules, c.row.view_is, c.realm.view_is, c.key.view_is)
