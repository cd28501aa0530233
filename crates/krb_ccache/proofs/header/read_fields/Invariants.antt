use Rattle.std.proofs.Common.{length}
use Rattle.krb_ccache.specs.Spelling.{field_bytes}
use Rattle.krb_ccache.specs.Inner.Standing.{Reaches, FitsField}
use Rattle.krb_ccache.proofs.header.read_fields.Given as goal

abbrev pub invariant-loop-cursor : goal.invariant-loop-cursor
invariant-loop-cursor l = Reaches field_bytes FitsField (record { at = 0; rest = l.body }) l.header.items l.cursor

abbrev pub decreases-loop-cursor : goal.decreases-loop-cursor
decreases-loop-cursor l = length l.cursor.rest
