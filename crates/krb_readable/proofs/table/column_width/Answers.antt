use Rattle.std.proofs.Common.{◌≡◌, ℕ, get_or, ap, arith}
use Rattle.std.proofs.lemmas.Bool.Decides.{nat_tests}
use Rattle.krb_readable.specs.Table.{TableRow, width, cell_at}
use Rattle.krb_readable.proofs.TableLaws.{greatest_more}
use Rattle.krb_readable.proofs.table.column_width.Goals as goal

pub loop-row-preserved : goal.loop-row-preserved
loop-row-preserved c =
    let f : TableRow → ℕ = λ row. width (cell_at c.args.column row) in
    let step = greatest_more f c.args.rows.now c.loop-row.row-index c.row-item.result (omega arith) in
    let here : f c.row-item.result ≡ f (get_or c.args.rows.now c.loop-row.row-index c.row-item.result) = ap f c.row-item.is in
    grind (arith, nat_tests, step, here)
