use Rattle.krb_keytab.proofs.PutLaws.{PutsTo-then}
use Rattle.krb_keytab.proofs.part.Tuple2Part.put.Goals as goal

pub returns : goal.returns
returns g c = PutsTo-then c.put-next.ensures c.put.ensures
