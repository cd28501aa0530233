use Rattle.krb_aes.specs.Inner.Tower.{tower_form}
use Rattle.krb_aes.proofs.tower.formed.Goals as goal

pub returns : goal.returns
unfolding tower_form
returns c = c.by_nibbles.ensures
