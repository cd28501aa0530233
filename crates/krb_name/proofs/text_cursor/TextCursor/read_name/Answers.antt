use Rattle.krb_name.proofs.NameReading.{name_offends}
use Rattle.krb_name.proofs.text_cursor.TextCursor.read_name.Goals as goal

pub returns-then-not-is_name_end : goal.returns-then-not-is_name_end
returns-then-not-is_name_end c =
    name_offends c.args.self.now c.loop-byte.self c.loop-byte.name _ c.self.inside.at c.self.inside.rest.now c.loop-byte.invariant c.in_default.ensures.none c.in_default.ensures.stays c.self.view_is c.if-not-is_name_end.ensures
