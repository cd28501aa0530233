use Rattle.std.proofs.Common.{◌≡◌, ℕ, List, take, drop, ap, subst}
use Rattle.std.proofs.lemmas.Result.{err_from_is_err_and}
use Rattle.krb_context.specs.Side.{Sender, peer_sender}
use Rattle.krb_context.specs.Faults.{IsWrapFault}
use Rattle.krb_context.specs.Wrap.{IsWrap}
use Rattle.krb_context.specs.Context.{State}
use Rattle.krb_context.proofs.Sides.{not_next_wrap}
use Rattle.krb_context.proofs.context.Context.unwrap.Goals as goal

pub returns-in_err-text-clause-fault : goal.returns-in_err-text-clause-fault
returns-in_err-text-clause-fault c =
    let peer : peer_sender c.self.inside.keys ≡ peer_sender c.args.self.now.sender = ap (λ (s : State). peer_sender s.sender) c.self.view_is in
    let p = err_from_is_err_and c.from_residual.result c.from_residual.ensures.1 in
    rw (p.1, p.2) (subst (λ (s : Sender). IsWrapFault s c.args.token.now c.in_err-text.field-0.0) peer c.in_err-text.ensures.fault)

pub returns-in-Err-clause-fault : goal.returns-in-Err-clause-fault
returns-in-Err-clause-fault c =
    let peer : peer_sender c.self.inside.keys ≡ peer_sender c.args.self.now.sender = ap (λ (s : State). peer_sender s.sender) c.self.view_is in
    let it = c.in_ok-text.text in
    let text : List ℕ = take it.len (drop it.start c.unwrap.new.token) in
    not_next_wrap c.args.self.now it.is_sealed it.number text c.args.token.now
    (subst (λ (s : Sender). IsWrap s it.is_sealed it.number text c.args.token.now) peer c.in_ok-text.ensures.ok) c.in-Err.fault c.in-Err.ensures.fault
