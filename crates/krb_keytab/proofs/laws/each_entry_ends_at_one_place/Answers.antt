use Rattle.krb_keytab.proofs.OnePlace.{same_place}
use Rattle.krb_keytab.proofs.laws.each_entry_ends_at_one_place.Goals as goal

pub returns : goal.returns
returns c = same_place
