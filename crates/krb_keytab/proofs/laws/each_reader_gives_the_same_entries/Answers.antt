use Rattle.krb_keytab.proofs.ToldLaws.{same_before}
use Rattle.krb_keytab.proofs.laws.each_reader_gives_the_same_entries.Goals as goal

pub returns : goal.returns
returns c = same_before
