use Rattle.std.proofs.Common.{ap, ◌∙◌}
use Rattle.krb_ap.proofs.Limits.{counted_of, full_of}
use Rattle.krb_ap.proofs.acceptor.Acceptor.remember.Goals as goal

pub returns-clause-heeds : goal.returns-clause-heeds
returns-clause-heeds g c = record {
  full = full_of g.M.ReplayMemory.has g.M.ReplayMemory.limits g.M.ReplayMemory.refusals g.M.ReplayMemory.newest _ c.args.self.now _ c.args.now c.args.tuple _ _
      (ap (λ inside. record { setup = inside.rules; memory = inside.memory }) c.self-inside.view_is ∙ c.self.view_is) c.expect.ensures.set c.expect.ensures.limits c.expect.ensures.refusals
      (c.remember.ensures.full _ c.expect.ensures.counts) (c.remember.ensures.first _ c.expect.ensures.counts);
  counted = counted_of g.M.ReplayMemory.has g.M.ReplayMemory.limits g.M.ReplayMemory.refusals g.M.ReplayMemory.newest _ c.args.self.now _ c.args.now c.args.tuple _ _
      (ap (λ inside. record { setup = inside.rules; memory = inside.memory }) c.self-inside.view_is ∙ c.self.view_is) c.expect.ensures.set c.expect.ensures.limits c.expect.ensures.refusals
      (c.remember.ensures.refused _ c.expect.ensures.counts) (c.remember.ensures.first _ c.expect.ensures.counts);
}
