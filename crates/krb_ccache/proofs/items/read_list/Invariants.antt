use Rattle.std.proofs.Common.{◌≡◌, ◌-◌}
use Rattle.krb_file.specs.Cursor.{times_at}
use Rattle.krb_file.proofs.Repeated.{with_front}
use Rattle.krb_ccache.proofs.items.read_list.Given as goal

abbrev pub invariant-loop : goal.invariant-loop
invariant-loop g l = with_front g.L.Listed.element (g.L.Listed.elements l.list) (times_at g.L.Listed.element (l.count - l.counter) l.cursor) ≡ times_at g.L.Listed.element l.count l.fn.cursor
