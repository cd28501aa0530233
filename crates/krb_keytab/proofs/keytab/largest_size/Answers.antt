use Rattle.krb_keytab.proofs.SizeLaws.{largest_more}
use Rattle.krb_keytab.proofs.keytab.largest_size.Goals as goal

pub loop-entry-preserved : goal.loop-entry-preserved
loop-entry-preserved c =
    largest_more c.args.entries.now c.loop-entry.entry-index c.entry-item.result c.loop-entry.largest c.name_size.result c.max-largest.result
    c.loop-entry-test.true c.entry-item.is c.loop-entry.invariant c.name_size.ensures c.max-largest.ensures
