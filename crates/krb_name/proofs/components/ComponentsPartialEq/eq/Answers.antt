use Rattle.std.proofs.Common.{sym, ap, ◌∙◌}
use Rattle.krb_name.proofs.HeldEqual.{by_bytes, by_count}
use Rattle.krb_name.proofs.components.ComponentsPartialEq.eq.Goals as goal

pub returns-then-self-other : goal.returns-then-self-other
returns-then-self-other c = rw (← c.self.view_is, ← c.other.view_is, c.eq.ensures, c.as_slice.ensures.value, c.as_slice-then-self-other.ensures.value) (by_bytes _ _ _ _ c.self.invariant c.other.invariant c.if-self-other.true)

pub returns-else-self-other : goal.returns-else-self-other
returns-else-self-other c = rw (← c.self.view_is, ← c.other.view_is) (by_count _ _ _ _ c.self.invariant c.other.invariant c.if-self-other.false)
