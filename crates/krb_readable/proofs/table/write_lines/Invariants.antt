use Rattle.std.proofs.Common.{◌≡◌, ◌++◌, string_bytes, take, slice_index}
use Rattle.std.specs.List.{flat_map}
use Rattle.krb_readable.specs.Table.{line_of}
use Rattle.krb_readable.proofs.table.write_lines.Given as goal

abbrev pub invariant-loop-row : goal.invariant-loop-row
invariant-loop-row l = string_bytes l.text
    ≡ string_bytes l.fn.text ++ flat_map (line_of (slice_index l.widths)) (take l.row-index l.rows)
