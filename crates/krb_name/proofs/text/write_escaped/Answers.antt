use Rattle.std.proofs.lemmas.Result.{IfOk-equal}
use Rattle.krb_name.proofs.TextLaws.{escaped_written}
use Rattle.krb_name.proofs.text.write_escaped.Goals as goal

pub returns-clause-ok : goal.returns-clause-ok
returns-clause-ok c =
    let written = escaped_written _ _ c.args.bytes.now _ _ c.plain_len.result c.plain_len.ensures.plain c.split_at.ensures.front c.split_at.ensures.back c.in_ok-write_plain.ensures.ok in
    IfOk-equal c.write_bytes.result _ _ _ c.write_bytes.ensures.ok written
