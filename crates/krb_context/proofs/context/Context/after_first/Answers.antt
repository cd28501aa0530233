use Rattle.std.proofs.Common.{◌≡◌, ◌∙◌, ℕ, [], ◌∷◌, ap, arith, subst, sym}
use Rattle.krb_context.specs.Context.{State, first_of, number_after}
use Rattle.krb_context.specs.Sequence.{Known, Stands}
use Rattle.krb_context.specs.Side.{peer_of}
use Rattle.krb_context.proofs.context.Context.after_first.Goals as goal

pub returns-clause-sent : goal.returns-clause-sent
returns-clause-sent c =
    let first = first_of c.args.agreed.now (peer_of c.args.role) in
    let number : c.first_number-2.result ≡ first = c.first_number-2.ensures ∙ ap (first_of c.args.agreed.now) c.peer.ensures in
    let window : c.context.inside.window ≡ c.new-context.result.window = ap (λ (s : State). s.window) c.context.view_is in
    let begun : Stands c.context.inside.window first [] = subst (λ (w : Known). Stands w first []) (sym window) c.new-context.ensures.window in
    record {
      sender_is = ap (λ (s : State). s.sender) c.context.view_is ∙ c.new-context.ensures.sender;
      next_is = c.number_after-context-inside.ensures ∙ ap number_after c.first_number.ensures;
      rotation_fits = omega arith;
      took = subst (λ (n : ℕ). Stands c.mark.new.self first (n ∷ [])) number (c.mark.ensures first [] begun);
    }
