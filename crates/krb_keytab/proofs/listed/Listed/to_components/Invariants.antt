use Rattle.std.proofs.Common.{◌≡◌, ◌-◌}
use Rattle.std.specs.Int.{w16}
use Rattle.krb_file.specs.Cursor.{data_at, times_at}
use Rattle.krb_file.proofs.Repeated.{with_front}
use Rattle.krb_keytab.proofs.listed.Listed.to_components.Given as goal

abbrev pub invariant-loop : goal.invariant-loop
invariant-loop l = with_front (data_at w16) l.components (times_at (data_at w16) (l.count - l.counter) l.cursor) ≡ times_at (data_at w16) l.count l.initial.cursor
