use Rattle.std.proofs.Common.{◌∙◌, ℕ, List, [], ◌∷◌, ap}
use Rattle.krb_explain.proofs.error.client_time.Goals as goal

pub returns : goal.returns
returns c = record {
  line = c.in_ok-line.line;
  line_is = c.in_ok-line.ensures;
  lines_are = c.in_ok-lines.ensures ∙ ap (λ (difference : List ℕ). c.in_ok-line.line ∷ difference ∷ []) c.in_ok-difference.ensures;
}
