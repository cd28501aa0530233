use Rattle.std.proofs.Common.{◌≡◌, ◌-◌, ℕ, List}
use Rattle.std.specs.Int.{w16}
use Rattle.krb_file.specs.Cursor.{data_at, times_at}
use Rattle.krb_file.proofs.Repeated.{with_front}
use Rattle.krb_keytab.proofs.listed.skip_components.Given as goal

abbrev pub invariant-loop : goal.invariant-loop
invariant-loop l = (front : List (List ℕ)) × (with_front (data_at w16) front (times_at (data_at w16) (l.count - l.counter) l.cursor) ≡ times_at (data_at w16) l.count l.fn.cursor)
