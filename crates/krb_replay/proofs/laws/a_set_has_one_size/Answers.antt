use Rattle.krb_replay.proofs.SizeLaws.{one_size}
use Rattle.krb_replay.proofs.laws.a_set_has_one_size.Goals as goal

pub returns : goal.returns
returns c = one_size
