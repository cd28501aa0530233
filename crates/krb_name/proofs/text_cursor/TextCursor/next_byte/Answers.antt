use Rattle.std.proofs.Common.{arith}
use Rattle.krb_name.proofs.NameReading.{byte_shorter, byte_step}
use Rattle.krb_name.proofs.text_cursor.TextCursor.next_byte.Goals as goal

pub overflow_sub-self : goal.overflow_sub-self
overflow_sub-self c = byte_shorter c.self.inside.rest.now c.in_ok-byte.byte c.in_ok-byte.rest.now c.in_ok-byte.ensures

pub invariant_of-self : goal.invariant_of-self
invariant_of-self c = omega (arith, byte_shorter c.self.inside.rest.now c.in_ok-byte.byte c.in_ok-byte.rest.now c.in_ok-byte.ensures)

pub returns-clause-some : goal.returns-clause-some
returns-clause-some c = rw (← c.self.view_is) (byte_step c.self.inside.at c.self.inside.rest.now c.in_ok-byte.byte c.in_ok-byte.rest.now c.in_ok-byte.ensures)
