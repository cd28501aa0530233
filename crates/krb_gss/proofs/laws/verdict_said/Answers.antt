use Rattle.krb_gss.proofs.WrittenLaws.{verdict-said}
use Rattle.krb_gss.proofs.laws.verdict_said.Goals as goal

pub returns : goal.returns
returns c = verdict-said
