use Rattle.std.proofs.Common.{◌≡◌, ℕ, sym, ap, subst}
use Rattle.std.proofs.lemmas.Result.{err_from_is_err_and}
use Rattle.krb_context.specs.Side.{Sender, peer_sender}
use Rattle.krb_context.specs.Mic.{IsMic}
use Rattle.krb_context.specs.Faults.{IsMicFault}
use Rattle.krb_context.specs.Context.{State, IsOutOfOrder}
use Rattle.krb_context.proofs.context.Context.verify_mic.Goals as goal

pub returns-in_err-number-clause-found : goal.returns-in_err-number-clause-found
returns-in_err-number-clause-found c number mic =
    let peer : peer_sender c.self.inside.keys ≡ peer_sender c.args.self.now.sender = ap (λ (s : State). peer_sender s.sender) c.self.view_is in
    absurd (cc (c.verify_mic.ensures.found number (subst (λ (s : Sender). IsMic s number c.args.text.now c.args.token.now) (sym peer) mic), c.in_err-number.was))

pub returns-in_err-number-clause-fault : goal.returns-in_err-number-clause-fault
returns-in_err-number-clause-fault c =
    let peer : peer_sender c.self.inside.keys ≡ peer_sender c.args.self.now.sender = ap (λ (s : State). peer_sender s.sender) c.self.view_is in
    let p = err_from_is_err_and c.from_residual.result c.from_residual.ensures.1 in
    rw (p.1, p.2) (subst (λ (s : Sender). IsMicFault s c.args.text.now c.args.token.now c.in_err-number.field-0.0) peer c.in_err-number.ensures.fault)

pub returns-in_err-order-clause-found : goal.returns-in_err-order-clause-found
returns-in_err-order-clause-found c number mic =
    let peer : peer_sender c.self.inside.keys ≡ peer_sender c.args.self.now.sender = ap (λ (s : State). peer_sender s.sender) c.self.view_is in
    let same : c.in_ok-number.number ≡ number =
    cc (c.in_ok-number.was, c.verify_mic.ensures.found number (subst (λ (s : Sender). IsMic s number c.args.text.now c.args.token.now) (sym peer) mic)) in
    let p = err_from_is_err_and c.from_residual-in_err-order.result c.from_residual-in_err-order.ensures.1 in
    rw (p.1, p.2) (subst (λ (n : ℕ). IsOutOfOrder c.args.self.now n c.in_err-order.field-0.0) same c.in_err-order.ensures.fault)
