use Rattle.std.proofs.Common.{ℕ, ◌<◌, ◌≤◌, length, get_or}
use Rattle.krb_readable.specs.Table.{TableRow}
use Rattle.krb_readable.proofs.table.columns.Given as goal

abbrev pub invariant-loop-row : goal.invariant-loop-row
invariant-loop-row l = (k : ℕ) (d : TableRow) → k < l.row-index → length (get_or l.rows k d).cells ≤ l.most
