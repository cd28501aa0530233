use Rattle.std.proofs.Common.{◌≡◌, ◌-◌, length, take, drop, sym, ap, subst, ◌∙◌, arith, length-append, length-drop}
use Rattle.krb_der.specs.Inner.HeadView.{IsHeadOf, head_bytes, turned_at}
use Rattle.krb_der.proofs.HeadLaws.{head_is, wraps-turned, written_back}
use Rattle.krb_der.proofs.writer.Writer.wrap.Goals as goal

pub returns-clause-ok : goal.returns-clause-ok
returns-clause-ok c =
    let old = c.args.self.now in
    let head = take c.head_of-head.result.len c.head_of-head.result.bytes in
    let mid = rw c.self.view_is at c.in_ok-extend_from_slice.ensures.items in
    let rest : c.len.result - c.args.start ≡ length (drop c.args.start old) = omega (arith, length-drop c.args.start old, c.len.ensures, c.self.inside.bytes.ok.0, ap length c.self.view_is) in
    let same : length c.turn.new.bytes ≡ length c.extend_from_slice.new.self.items = c.turn.auto.bytes ∙ ap length c.deref_mut.ensures.value in
    let end : length c.deref_mut.result.now - c.head_of-head.result.len ≡ length old =
    omega (arith, ap length c.deref_mut.ensures.value, ap length mid, length-append old head, c.head_of-head.ensures.width) in
    wraps-turned c.args.tag c.args.start old head c.extend_from_slice.new.self.items _ c.requires.within
    (subst (IsHeadOf c.args.tag (length (drop c.args.start old))) (sym (c.head_of-head.ensures.is ∙ ap (head_bytes c.args.tag) rest)) (head_is c.args.tag (length (drop c.args.start old)) c.requires.fits)) mid
    (written_back c.turn.new.bytes c.extend_from_slice.new.self.items c.extend_from_slice.new.self.len same c.extend_from_slice.new.self.ok.0
    ∙ c.turn.ensures ∙ ap (λ e. turned_at c.args.start e c.deref_mut.result.now) end ∙ ap (turned_at c.args.start (length old)) c.deref_mut.ensures.value)
