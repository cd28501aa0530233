use Rattle.std.proofs.Common.{[]}
use Rattle.krb_ap.specs.Answer.{taken_of}
use Rattle.krb_explain_keys.proofs.verdict.verdict.Goals as goal

pub returns-in-Ok : goal.returns-in-Ok
returns-in-Ok c = (taken_of c.in-Ok.field-0, rw c.new-acceptor.ensures.setup at (c.in-Ok.ensures.answer [] c.new-acceptor.ensures.stands))
