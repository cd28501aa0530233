use Rattle.krb_ap.proofs.Truth.{is_not}
use Rattle.krb_ap.proofs.Finishing.{malformed}
use Rattle.krb_ap.proofs.finish.read_reply.Goals as goal

pub returns-in-Err-clause-refused : goal.returns-in-Err-clause-refused
returns-in-Err-clause-refused c = λ awaited. malformed awaited c.args.bytes.now (is_not _ _ c.begins_otherwise.ensures c.if-begins_otherwise.false)
    c.in-Err.ensures.only c.in-Err.fault c.in-Err.ensures.faulty
