use Rattle.std.proofs.Common.{sym, ◌∙◌}
use Rattle.krb_ccache.proofs.OffsetLaws.{begins_so}
use Rattle.krb_ccache.proofs.configuration.has_name.Goals as goal

pub returns-in-Some : goal.returns-in-Some
returns-in-Some c = begins_so c.args.components.now c.in-Some.first.now _ _ c.eq.result (sym c.iter.ensures ∙ c.in-Some.ensures.steps) c.eq.ensures
