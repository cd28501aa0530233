use Rattle.std.proofs.Common.{arith, string_bytes, slice_index}
use Rattle.krb_readable.proofs.TableLaws.{spaced_step}
use Rattle.krb_readable.proofs.table.write_cells.Goals as goal

pub loop-column-preserved : goal.loop-column-preserved
loop-column-preserved c =
    spaced_step (slice_index c.args.widths.now) (string_bytes c.args.text.now) _ _ c.args.cells.now c.loop-column.column c.width_at.result c.index-cells-column.result
    (omega arith) c.index-cells-column.is c.width_at.ensures c.loop-column.invariant c.in_ok-write_spaced.ensures
