use Rattle.krb_ccache.proofs.ComputedOffset.{held_computed}
use Rattle.krb_ccache.proofs.laws.the_offset_is_computed.Goals as goal

pub returns-clause-held : goal.returns-clause-held
returns-clause-held c = held_computed
