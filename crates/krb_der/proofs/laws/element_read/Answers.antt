use Rattle.krb_der.proofs.Reading.{element_read_exactly}
use Rattle.krb_der.proofs.laws.element_read.Goals as goal

pub returns : goal.returns
returns c = element_read_exactly
