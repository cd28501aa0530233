use Rattle.std.proofs.Common.{◌≡◌, length, map, take}
use Rattle.krb_der.specs.Kind.{each}
use Rattle.krb_der.specs.Writing.{WritesFields, Appends}
use Rattle.krb_der.proofs.list.ItemsEncodeRow.write_row.Given as goal

abbrev pub invariant-loop-item : goal.invariant-loop-item
invariant-loop-item g l =
    (l.start ≡ length l.fn.out) × Appends (WritesFields (each g.As.Item.kind) (map g.As.Item.view (take l.item-index l.item-items))) l.fn.out l.out
