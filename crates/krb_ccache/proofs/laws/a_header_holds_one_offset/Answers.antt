use Rattle.krb_ccache.proofs.OffsetLaws.{one_seconds, one_microseconds}
use Rattle.krb_ccache.proofs.laws.a_header_holds_one_offset.Goals as goal

pub returns-clause-seconds : goal.returns-clause-seconds
returns-clause-seconds c = one_seconds

pub returns-clause-microseconds : goal.returns-clause-microseconds
returns-clause-microseconds c = one_microseconds
