use Rattle.std.proofs.Common.{◌∷◌, [], ◌++◌}
use Rattle.krb_name.proofs.NameReading.{ReadsBytes-more, name_offends}
use Rattle.krb_name.proofs.text_cursor.TextCursor.skip_name.Goals as goal

pub loop-byte-preserved : goal.loop-byte-preserved
loop-byte-preserved c = (c.loop-byte.invariant.0 ++ c.in-Some._byte ∷ [], ReadsBytes-more _ _ _ _ _ c.loop-byte.invariant.1 c.in-Some.ensures.some)

pub returns-then-not-is_name_end : goal.returns-then-not-is_name_end
returns-then-not-is_name_end c =
    name_offends c.args.self.now c.loop-byte.self c.loop-byte.invariant.0 _ c.self.inside.at c.self.inside.rest.now c.loop-byte.invariant.1 c.in_default.ensures.none c.in_default.ensures.stays c.self.view_is c.if-not-is_name_end.ensures
