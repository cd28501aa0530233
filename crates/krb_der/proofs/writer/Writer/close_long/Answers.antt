use Rattle.std.proofs.Common.{◌≡◌, ◌+◌, ◌-◌, ◌≤◌, ◌<◌, ◌^◌, ◌++◌, ℕ, List, length, take, drop, refl, sym, ap, subst, ◌∙◌, arith, length-drop}
use Rattle.std.proofs.lemmas.Result.{on_ok_weaker}
use Rattle.krb_der.specs.Writing.{Wraps}
use Rattle.krb_der.specs.Inner.HeadView.{IsHeadOf, head_bytes, without_room}
use Rattle.krb_der.proofs.HeadLaws.{head_is, filled-wraps}
use Rattle.krb_der.proofs.writer.Writer.close_long.Goals as goal

-- the head that was made, put where the room is
closes : (tag start n len some : ℕ) (old bytes new : List ℕ) → start + 2 ≤ length old → length (drop (start + 2) old) < 2 ^ 32 → n ≡ length (drop (start + 2) old)
    → take len bytes ≡ head_bytes tag n → len ≡ some → new ≡ take start old ++ (take some bytes ++ drop (start + 2) old) → Wraps tag start (without_room start old) new
closes tag start n len some old bytes new within fits rest is same put =
    filled-wraps tag start old (take some bytes) new within
    (subst (IsHeadOf tag (length (drop (start + 2) old))) (sym (ap (λ k. take k bytes) (sym same) ∙ is ∙ ap (head_bytes tag) rest)) (head_is tag _ fits)) put

pub returns-in-3-clause-ok : goal.returns-in-3-clause-ok
returns-in-3-clause-ok c =
    let old = c.args.self.now in
    let start = c.args.start in
    let rest : c.len.result - start - 2 ≡ length (drop (start + 2) old) = omega (arith, length-drop (start + 2) old, c.len.ensures, c.self.inside.bytes.ok.0, ap length c.self.view_is) in
    on_ok_weaker c.put_head.result
    (closes c.args.tag start _ _ 3 old c.head_of-head.result.bytes _ c.requires.within c.requires.fits rest c.head_of-head.ensures.is c.in-3.is) c.put_head.ensures.ok

pub returns-in-4-clause-ok : goal.returns-in-4-clause-ok
returns-in-4-clause-ok c =
    let old = c.args.self.now in
    let start = c.args.start in
    let rest : c.len.result - start - 2 ≡ length (drop (start + 2) old) = omega (arith, length-drop (start + 2) old, c.len.ensures, c.self.inside.bytes.ok.0, ap length c.self.view_is) in
    on_ok_weaker c.put_head-in-4.result
    (closes c.args.tag start _ _ 4 old c.head_of-head.result.bytes _ c.requires.within c.requires.fits rest c.head_of-head.ensures.is c.in-4.is) c.put_head-in-4.ensures.ok

pub returns-in_default-clause-ok : goal.returns-in_default-clause-ok
returns-in_default-clause-ok c =
    let old = c.args.self.now in
    let start = c.args.start in
    let rest : c.len.result - start - 2 ≡ length (drop (start + 2) old) = omega (arith, length-drop (start + 2) old, c.len.ensures, c.self.inside.bytes.ok.0, ap length c.self.view_is) in
    on_ok_weaker c.put_head-in_default.result
    (closes c.args.tag start _ _ c.head_of-head.result.len old c.head_of-head.result.bytes _ c.requires.within c.requires.fits rest c.head_of-head.ensures.is refl) c.put_head-in_default.ensures.ok
