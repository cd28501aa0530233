use Rattle.std.proofs.Common.{◌≡◌, ℕ, ◌<◌, length, get_or}
use Rattle.krb_readable.specs.Table.{column_width}
use Rattle.krb_readable.proofs.table.column_widths.Given as goal

abbrev pub invariant-loop-column : goal.invariant-loop-column
invariant-loop-column l = record {
  counted : length l.widths.items ≡ l.column;
  each : (k : ℕ) → k < l.column → get_or l.widths.items k 0 ≡ column_width l.rows k;
}
