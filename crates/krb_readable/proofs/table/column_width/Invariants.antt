use Rattle.std.proofs.Common.{◌≡◌, map, take}
use Rattle.krb_readable.specs.Table.{greatest, width, cell_at}
use Rattle.krb_readable.proofs.table.column_width.Given as goal

abbrev pub invariant-loop-row : goal.invariant-loop-row
invariant-loop-row l = l.most ≡ greatest (map (λ row. width (cell_at l.column row)) (take l.row-index l.rows))
