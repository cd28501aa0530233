use Rattle.std.proofs.Common.{◌≡◌, ◌∙◌, ◌++◌, ℕ, List, codes, ap}
use Rattle.krb_explain.proofs.layer_lines.token_line.Goals as goal

pub returns : goal.returns
returns c =
    let told : c.new.result ≡ c.args.side.now ++ (codes " token (GSS-API): mechanism " ++ c.mechanism_text-name.result.now) = c.new.ensures ∙ c.in_ok-format.ensures.ok in
    told ∙ ap (λ (name : List ℕ). c.args.side.now ++ (codes " token (GSS-API): mechanism " ++ name)) c.mechanism_text-name.ensures
