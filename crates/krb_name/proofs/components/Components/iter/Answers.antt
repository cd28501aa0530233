use Rattle.std.proofs.Common.{ap, subst, sym}
use Rattle.krb_name.proofs.HeldLaws.{is_read}
use Rattle.krb_name.proofs.components.Components.iter.Goals as goal

pub invariant_of-result : goal.invariant_of-result
invariant_of-result c = rw (c.new.ensures, c.as_slice.ensures.value) (is_read _ _ c.self.invariant)
