use Rattle.krb_gss.proofs.ChecksumLaws.{one_value, one_spelling}
use Rattle.krb_gss.proofs.laws.one_checksum.Goals as goal

pub returns-clause-value : goal.returns-clause-value
returns-clause-value c = one_value

pub returns-clause-bytes : goal.returns-clause-bytes
returns-clause-bytes c = one_spelling
