use Rattle.std.proofs.Common.{ap}
use Rattle.std.specs.Option.{option_map}
use Rattle.krb_replay.proofs.KeptLaws.{own_names}
use Rattle.krb_replay.proofs.held.is_other.Goals as goal

pub returns-in-None : goal.returns-in-None
returns-in-None c = own_names _ c.args.names.now (ap (λ kept. option_map (λ it. it.now) kept) c.in-None.is)
