use Rattle.std.proofs.Common.{◌≡◌, ◌++◌, string_bytes, take, slice_index}
use Rattle.std.specs.List.{flat_map, enumerate_from}
use Rattle.krb_readable.specs.Table.{spaced}
use Rattle.krb_readable.proofs.table.write_cells.Given as goal

abbrev pub invariant-loop-column : goal.invariant-loop-column
invariant-loop-column l = string_bytes l.text
    ≡ string_bytes l.fn.text ++ flat_map (spaced (slice_index l.widths)) (enumerate_from 0 (take l.column l.cells))
