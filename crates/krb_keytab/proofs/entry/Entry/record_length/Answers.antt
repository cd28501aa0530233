use Rattle.std.proofs.Common.{arith, ap, length}
use Rattle.krb_keytab.proofs.MadeLaws.{body_short}
use Rattle.krb_keytab.proofs.entry.Entry.record_length.Goals as goal

pub size-requires : goal.size-requires
size-requires c = omega (arith, body_short c.args.self.now c.body.ensures.fits.lengths, ap length c.body.ensures.spelled)

pub overflow_add-result : goal.overflow_add-result
overflow_add-result c = record { fits = omega (arith, body_short c.args.self.now c.body.ensures.fits.lengths, ap length c.body.ensures.spelled, c.size.ensures) }
