use Rattle.std.proofs.Common.{length, ap, sym, ◌∙◌}
use Rattle.krb_name.proofs.HeldLaws.{view_is}
use Rattle.krb_name.proofs.components.Components.len.Goals as goal

pub returns : goal.returns
returns c = sym (ap length (sym c.self.view_is ∙ view_is _ _ c.self.invariant) ∙ c.self.invariant.count_is)
