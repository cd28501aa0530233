use Rattle.std.proofs.Common.{inr, refl}
use Rattle.krb_c.proofs.keytab_file.fevstunik_keytab_add.Goals as goal

pub returns-in-Err : goal.returns-in-Err
returns-in-Err c = inr (c.in-Err.ensures.fault, refl)
