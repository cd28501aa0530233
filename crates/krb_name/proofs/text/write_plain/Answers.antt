use Rattle.krb_name.proofs.TextLaws.{plain_is_utf8}
use Rattle.krb_name.proofs.text.write_plain.Goals as goal

pub unreachable-requires : goal.unreachable-requires
unreachable-requires c = absurd (c.in-Err.ensures.cases.0 (plain_is_utf8 c.args.bytes.now c.requires))
