use Rattle.std.proofs.Common.{sym}
use Rattle.krb_keytab.proofs.PutLaws.{PutsTo-then}
use Rattle.krb_keytab.proofs.part.DataPart.put.Goals as goal

pub returns : goal.returns
returns c = rw (sym c.self.view_is) (PutsTo-then (rw c.bytes_of_u16.ensures at c.put-next.ensures) c.put_bytes.ensures)
