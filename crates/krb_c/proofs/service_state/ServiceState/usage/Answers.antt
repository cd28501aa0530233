use Rattle.std.proofs.Common.{◌≡◌, ◌∙◌, Contains, refl, sym, ap, subst}
use Rattle.krb_replay.specs.Limit.{Limited}
use Rattle.krb_replay.specs.Memory.{IsSizeOf, Memory}
use Rattle.krb_c.proofs.service_state.ServiceState.usage.Goals as goal

pub returns : goal.returns
returns c =
    let limited : c.memory-memory.result.now ≡ c.args.self.now.service.acceptor.memory = c.memory-memory.ensures in
    record {
      remembered = subst (λ (memory : Limited Memory). IsSizeOf (Contains memory.memory.stamps) c.len.result) limited c.len.ensures;
      held = c.held.ensures.least c.len.result (subst (λ (memory : Memory). IsSizeOf (Contains memory.stamps) c.len.result) (sym c.memory.ensures) c.len.ensures);
      limit = c.limit.ensures ∙ ap (λ (memory : Limited Memory). memory.limit) limited;
      limit_for_client = c.limit_for_client.ensures ∙ ap (λ (memory : Limited Memory). memory.limit_for_client) limited;
      full = c.refused.ensures ∙ ap (λ (memory : Limited Memory). memory.refused) limited;
      answer_is = refl;
    }
