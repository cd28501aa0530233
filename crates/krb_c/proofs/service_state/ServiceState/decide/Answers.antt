use Rattle.std.proofs.Common.{◌∙◌, ℕ, refl, sym, ap, subst}
use Rattle.krb_replay.specs.Limit.{Limited}
use Rattle.krb_replay.specs.Memory.{Memory}
use Rattle.krb_ap.specs.Setup.{arrival}
use Rattle.krb_c.specs.Service.{Decides, accepted_by, full_of, refused_by, told_of}
use Rattle.krb_c.specs.declared.accepted_state.AcceptedState.{AcceptedState}
use Rattle.krb_c.specs.declared.service_state.ServiceState.{ServiceState}
use Rattle.krb_c.proofs.Memory.{is_remembered, of_accepted}
use Rattle.krb_c.proofs.service_state.ServiceState.decide.Goals as goal

pub returns-clause-sent : goal.returns-clause-sent
returns-clause-sent c = ap (λ (kept : AcceptedState). kept.has_sent) c.keep.ensures.kept

pub returns-clause-decides : goal.returns-clause-decides
returns-clause-decides c = let accept = c.accept-outcome.ensures in let outcome = c.accept-outcome.result in
    subst (λ (kept : AcceptedState). Decides c.args.self.now c.keep.new.self (arrival c.args.bytes.now c.args.now) kept.accepted c.keep.result) (sym c.keep.ensures.kept) (
    subst (λ (new : ServiceState). Decides c.args.self.now new (arrival c.args.bytes.now c.args.now) (accepted_by outcome) c.keep.result) (sym c.keep.ensures.state) (record {
      outcome = outcome;
      answers = accept.answer;
      goes_on = accept.goes_on;
      forgets = accept.forgets refl;
      limits = cc (accept.limits);
      setup = accept.setup;
      terms = refl;
      subkey = refl;
      shared = refl;
      moves = accept.moves;
      offset = accept.offset;
      memory = accept.memory;
      unchanged = accept.unchanged;
      kept_is = refl;
      service = of_accepted _ outcome accept.service;
      remembered = λ history stands. is_remembered _ _ _ _ history (arrival c.args.bytes.now c.args.now) outcome
          (accept.answer history stands) accept.setup (accept.goes_on history stands);
      refusal = refl;
      told_is = c.keep.ensures.answer
          ∙ ap (λ (before : ℕ). told_of before (full_of (record { service = record { acceptor = c.accept-outcome.new.self; terms = c.args.self.now.service.terms }; subkey_type = c.args.self.now.subkey_type; is_shared = c.args.self.now.is_shared; refusal = refused_by outcome })) outcome)
          (c.refused-full.ensures ∙ ap (λ (memory : Limited Memory). memory.refused) c.memory.ensures);
    }))
