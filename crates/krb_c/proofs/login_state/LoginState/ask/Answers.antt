use Rattle.std.proofs.Common.{◌≡◌, ◌∙◌, ℕ, List, ap, refl, subst, sym}
use Rattle.std.specs.Prelude.{◌==◌, not}
use Rattle.krb_replay.specs.Limit.{Limited}
use Rattle.krb_replay.specs.Memory.{Memory}
use Rattle.krb_c.specs.Login.{IsAsked, StepsTo}
use Rattle.krb_c.specs.Service.{nothing_kept}
use Rattle.krb_c.specs.declared.service_state.ServiceState.{ServiceState}
use Rattle.krb_c.proofs.login_state.LoginState.ask.Goals as goal

pub returns : goal.returns
returns c =
    let call = c.ask-step in
    let given = c.args.given in
    let old = c.args.service.now in
    let new : ServiceState = record { service = record { acceptor = call.new.self.acceptor; terms = call.new.self.terms }; subkey_type = old.subkey_type; is_shared = old.is_shared; refusal = old.refusal } in
    let before : c.refused-full.result ≡ old.service.acceptor.memory.refused =
    c.refused-full.ensures ∙ ap (λ (memory : Limited Memory). memory.refused) c.memory.ensures in
    let after : c.refused.result ≡ call.new.self.acceptor.memory.refused =
    c.refused.ensures ∙ ap (λ (memory : Limited Memory). memory.refused) c.memory-2.ensures in
    subst (λ (bytes : List ℕ). IsAsked old new c.args.self.now.talk c.follow.new.self nothing_kept c.args.negotiation bytes given.now given.confounder.now given.choice)
    c.as_slice.ensures.value (record {
      next = call.new.negotiation;
      step = call.result;
      steps = λ history stands. call.ensures.steps history stands given.confounder.now given.choice;
      service = record {
        goes_on = λ history stands. call.ensures.goes_on history stands given.confounder.now given.choice;
        moves = call.ensures.moves;
        forgets = λ history stands. call.ensures.forgets refl history stands given.confounder.now given.choice;
        unchanged = λ history stands. call.ensures.unchanged history stands given.confounder.now given.choice;
        limit = λ history stands. call.ensures.limit history stands given.confounder.now given.choice;
        limits = cc (call.ensures.limits);
        setup = call.ensures.setup;
        terms = call.ensures.terms;
        subkey = refl;
        shared = refl;
        refusal = refl;
      };
      leads_to = call.ensures.negotiation;
      steps_to = subst (λ (bytes : List ℕ). StepsTo (not (call.new.self.acceptor.memory.refused == old.service.acceptor.memory.refused)) c.args.self.now.talk
          call.new.negotiation bytes given.confounder.now given.choice call.result c.follow.new.self) (sym c.as_slice.ensures.value)
          (subst (λ (n : ℕ). StepsTo (not (n == old.service.acceptor.memory.refused)) c.args.self.now.talk
          call.new.negotiation c.args.message.items given.confounder.now given.choice call.result c.follow.new.self) after
          (subst (λ (n : ℕ). StepsTo (not (c.refused.result == n)) c.args.self.now.talk
          call.new.negotiation c.args.message.items given.confounder.now given.choice call.result c.follow.new.self) before c.follow.ensures));
      kept_is = refl;
    })
