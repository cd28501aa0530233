use Rattle.std.proofs.Common.{◌≡◌, ◌∙◌, ◌++◌, ℕ, List, codes, ap, rules}
use Rattle.krb_explain.proofs.layer_lines.negotiation_line.Goals as goal

pub returns : goal.returns
returns c =
    let told : c.new.result ≡ c.args.side.now ++ (codes " negotiation (SPNEGO): mechanism " ++ c.mechanism_text-name.result.now) = search rules in
    told ∙ ap (λ (name : List ℕ). c.args.side.now ++ (codes " negotiation (SPNEGO): mechanism " ++ name)) c.mechanism_text-name.ensures
