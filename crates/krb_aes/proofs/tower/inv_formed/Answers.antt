use Rattle.krb_aes.specs.Inner.Tower.{inv_form}
use Rattle.krb_aes.proofs.tower.inv_formed.Goals as goal

pub returns : goal.returns
unfolding inv_form
returns c = c.by_nibbles.ensures
