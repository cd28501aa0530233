use Rattle.krb_ccache.proofs.HeaderLaws.{field_goes}
use Rattle.krb_ccache.proofs.header.read_fields.Goals as goal

pub loop-cursor-smaller : goal.loop-cursor-smaller
loop-cursor-smaller c = (field_goes c.args.body.now c.loop-cursor.cursor c.loop-cursor.header.items c.in_ok-field.field c.read_field.new.cursor c.loop-cursor.invariant c.in_ok-field.ensures.read).smaller

pub loop-cursor-preserved : goal.loop-cursor-preserved
loop-cursor-preserved c =
    rw c.in_ok-copy_to.ensures (field_goes c.args.body.now c.loop-cursor.cursor c.loop-cursor.header.items c.in_ok-field.field c.read_field.new.cursor c.loop-cursor.invariant c.in_ok-field.ensures.read).reaches
