use Rattle.std.proofs.Common.{◌≡◌, ◌+◌, ◌++◌, ◌∙◌, ℕ, List, length, drop, ap, ap₂, arith}
use Rattle.std.proofs.lemmas.List.{drop-drop}
use Rattle.krb_context.proofs.direction.lay_out.Goals as goal

pub returns : goal.returns
returns c =
    let body = c.args.body.now in
    let size : ℕ = length c.args.text.now in
    let sum : 16 + size + 16 ≡ 32 + size = omega arith in
    let rest : c.split_at_mut-end.result.1.now ≡ drop (32 + size) body =
    c.split_at_mut-end.ensures.back ∙ ap (drop 16) (c.split_at_mut-middle.ensures.back ∙ ap (drop size) c.split_at_mut-rest.ensures.back ∙ drop-drop size 16 body)
    ∙ drop-drop 16 (16 + size) body ∙ ap (λ (n : ℕ). drop n body) sum in
    ap₂ (λ (x y : List ℕ). x ++ y) c.split_at_mut-rest.ensures.front
    (ap₂ (λ (x y : List ℕ). x ++ y) c.copy_from_slice.ensures.after (ap₂ (λ (x y : List ℕ). x ++ y) c.copy_from_slice-2.ensures.after rest))
