use Rattle.std.proofs.Common.{arith}
use Rattle.krb_readable.proofs.TableLaws.{widths_counted}
use Rattle.krb_readable.proofs.table.column_widths.Goals as goal

pub returns : goal.returns
returns c =
    widths_counted c.args.rows.now c.loop-column.widths.items c.loop-column.column
    (λ k d h. omega (arith, c.columns-column-end.ensures k d h)) c.loop-column.invariant.counted c.loop-column.invariant.each
