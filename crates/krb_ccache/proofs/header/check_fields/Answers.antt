use Rattle.std.proofs.Common.{[], ◌∷◌, ◌++◌}
use Rattle.krb_ccache.proofs.HeaderLaws.{field_goes}
use Rattle.krb_ccache.proofs.header.check_fields.Goals as goal

pub loop-cursor-smaller : goal.loop-cursor-smaller
loop-cursor-smaller c = (field_goes c.args.body.now c.loop-cursor.cursor c.loop-cursor.invariant.0 c.in_ok-read_field.field-0 c.read_field.new.cursor c.loop-cursor.invariant.1 c.in_ok-read_field.ensures.read).smaller

pub loop-cursor-preserved : goal.loop-cursor-preserved
loop-cursor-preserved c = (
  c.loop-cursor.invariant.0 ++ c.in_ok-read_field.field-0 ∷ [],
  (field_goes c.args.body.now c.loop-cursor.cursor c.loop-cursor.invariant.0 c.in_ok-read_field.field-0 c.read_field.new.cursor c.loop-cursor.invariant.1 c.in_ok-read_field.ensures.read).reaches,
)
