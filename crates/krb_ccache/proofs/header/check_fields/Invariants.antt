use Rattle.std.proofs.Common.{List, length}
use Rattle.krb_ccache.specs.Types.{HeaderField}
use Rattle.krb_ccache.specs.Spelling.{field_bytes}
use Rattle.krb_ccache.specs.Inner.Standing.{Reaches, FitsField}
use Rattle.krb_ccache.proofs.header.check_fields.Given as goal

abbrev pub invariant-loop-cursor : goal.invariant-loop-cursor
invariant-loop-cursor l = (header : List HeaderField) × Reaches field_bytes FitsField (record { at = 0; rest = l.body }) header l.cursor

abbrev pub decreases-loop-cursor : goal.decreases-loop-cursor
decreases-loop-cursor l = length l.cursor.rest
