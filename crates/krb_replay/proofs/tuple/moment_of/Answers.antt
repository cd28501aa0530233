use Rattle.std.proofs.Common.{rules}
use Rattle.krb_replay.proofs.KeepingLaws.{is_moment}
use Rattle.krb_replay.proofs.tuple.moment_of.Goals as goal

pub returns : goal.returns
returns c = is_moment _ _ _ c.new.result (search rules) (search rules) c.new.ensures
