use Rattle.krb_keytab.proofs.ToldLaws.{first_told}
use Rattle.krb_keytab.proofs.laws.a_reader_gives_the_first_entries.Goals as goal

pub returns : goal.returns
returns c = first_told
