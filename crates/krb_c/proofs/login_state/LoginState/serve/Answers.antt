-- serve
use Rattle.std.proofs.Common.{◌≡◌, ◌∙◌, ℕ, ap, refl, subst}
use Rattle.std.specs.Prelude.{◌==◌, not}
use Rattle.krb_ap.specs.declared.reply.ReplyOptions.{ReplyOptions}
use Rattle.krb_replay.specs.Limit.{Limited}
use Rattle.krb_replay.specs.Memory.{Memory}
use Rattle.krb_c.specs.Login.{IsConcluded, IsKept}
use Rattle.krb_c.proofs.login_state.LoginState.serve.Goals as goal

pub returns : goal.returns
returns c =
    let call = c.answer-decided in
    let given = c.args.given in
    let old = c.args.service.now in
    let it = c.conclude_kept.ensures in
    let before : c.refused-full.result ≡ old.service.acceptor.memory.refused =
    c.refused-full.ensures ∙ ap (λ (memory : Limited Memory). memory.refused) c.memory.ensures in
    let after : c.refused.result ≡ call.new.self.acceptor.memory.refused =
    c.refused.ensures ∙ ap (λ (memory : Limited Memory). memory.refused) c.memory-2.ensures in
    record {
      next = call.new.negotiation;
      decided = call.result;
      decision = it.0;
      decides = call.ensures.decided;
      service = record {
        goes_on = call.ensures.goes_on;
        moves = call.ensures.moves;
        forgets = call.ensures.forgets refl;
        unchanged = call.ensures.unchanged;
        limit = call.ensures.limit;
        limits = cc (call.ensures.limits);
        setup = call.ensures.setup;
        terms = call.ensures.terms;
        subkey = refl;
        shared = refl;
        refusal = refl;
      };
      goes_to = call.ensures.negotiation;
      concluded = subst (λ (choice : ReplyOptions). IsConcluded given.bytes.now given.confounder.now choice c.args.self.now.talk call.new.negotiation call.result
          it.0 c.conclude_kept.new.self.talk) c.choice_again.ensures it.1.0;
      is_kept = subst (λ (n : ℕ). IsKept (not (n == old.service.acceptor.memory.refused)) it.0 c.conclude_kept.new.self c.conclude_kept.new.kept) after
          (subst (λ (n : ℕ). IsKept (not (c.refused.result == n)) it.0 c.conclude_kept.new.self c.conclude_kept.new.kept) before it.1.1);
    }
