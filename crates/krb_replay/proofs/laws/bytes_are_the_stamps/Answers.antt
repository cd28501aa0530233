use Rattle.krb_replay.proofs.BytesLaws.{stamp_back}
use Rattle.krb_replay.proofs.laws.bytes_are_the_stamps.Goals as goal

pub returns-clause-same : goal.returns-clause-same
returns-clause-same c = stamp_back
