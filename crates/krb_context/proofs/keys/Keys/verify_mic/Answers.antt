use Rattle.std.proofs.Common.{◌≡◌, ◌∙◌, ap}
use Rattle.krb_context.specs.Side.{peer_sender}
use Rattle.krb_context.specs.Inner.Prepared.{sender_of}
use Rattle.krb_context.specs.declared.role.Role.{Role}
use Rattle.krb_context.proofs.keys.Keys.verify_mic.Goals as goal

pub returns-in-Some : goal.returns-in-Some
returns-in-Some c =
    let other : c.deref.result.now ≡ peer_sender c.args.self.now = c.deref.ensures ∙ ((rw c.in-Some.is at c.self.invariant.1) ∙ ap peer_sender c.self.view_is) in
    rw other at c.verify_mic.ensures

pub returns-in-None : goal.returns-in-None
returns-in-None c =
    let peer = ap (λ (r : Role). sender_of c.self.inside.key r c.self.inside.is_acceptor_subkey) c.peer.ensures in
    rw (c.new.ensures ∙ peer ∙ ap peer_sender c.self.view_is) at c.verify_mic-in-None.ensures
