use Rattle.krb_name.proofs.Names.{same_hash}
use Rattle.krb_name.proofs.laws.the_same_names_have_one_hash.Goals as goal

pub returns : goal.returns
returns c = same_hash
