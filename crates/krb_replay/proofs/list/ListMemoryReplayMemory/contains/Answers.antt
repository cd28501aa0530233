use Rattle.std.proofs.Common.{◌∙◌, ap}
use Rattle.krb_replay.proofs.SetLaws.{found}
use Rattle.krb_replay.proofs.list.ListMemoryReplayMemory.contains.Goals as goal

pub returns : goal.returns
returns c =
    found c.deref.result.now c.args.self.now.stamps c.args.tuple.now c.contains.result c.contains.ensures.cases
    (c.deref.ensures.value ∙ ap (λ memory. memory.stamps) c.self.view_is)
