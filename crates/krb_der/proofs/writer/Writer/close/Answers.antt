use Rattle.std.proofs.Common.{◌≡◌, ◌+◌, ◌-◌, ◌<◌, [], ◌∷◌, length, drop, ap, subst, ◌∙◌, arith, length-drop}
use Rattle.krb_der.specs.Inner.HeadView.{IsHeadOf, filled_at}
use Rattle.krb_der.proofs.HeadLaws.{short-head, filled-wraps, filled_at-whole, written_back}
use Rattle.krb_der.proofs.writer.Writer.close.Goals as goal

pub returns-clause-ok : goal.returns-clause-ok
returns-clause-ok c =
    let old = c.args.self.now in
    let start = c.args.start in
    let n = length (drop (start + 2) old) in
    let head = c.args.tag ∷ (c.len.result - start - 2) ∷ [] in
    let at : c.len.result ≡ length old = omega (arith, c.len.ensures, c.self.inside.bytes.ok.0, ap length c.self.view_is) in
    let rest : c.len.result - start - 2 ≡ n = omega (arith, length-drop (start + 2) old, at) in
    let few : c.len.result - start - 2 < 128 = omega (arith, c.if-count-ge128.false) in
    let value = c.deref_mut.ensures.value ∙ c.self.view_is in
    let same : length c.fill_short.new.bytes ≡ length c.self.inside.bytes.items = c.fill_short.auto.bytes ∙ ap length c.deref_mut.ensures.value in
    filled-wraps c.args.tag start old head _ c.requires.within
    (subst (λ k. IsHeadOf c.args.tag k head) rest (short-head c.args.tag (c.len.result - start - 2) few))
    (written_back c.fill_short.new.bytes c.self.inside.bytes.items c.self.inside.bytes.len same c.self.inside.bytes.ok.0
    ∙ c.fill_short.ensures ∙ ap (λ l. filled_at start head (length l) l) value ∙ filled_at-whole start head old)
