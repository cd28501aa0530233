use Rattle.std.proofs.Common.{ap, ◌∙◌, ◌++◌, string_bytes, sym}
use Rattle.std.proofs.lemmas.Result.{IfOk-equal}
use Rattle.krb_name.specs.Text.{escaped}
use Rattle.krb_name.proofs.TextLaws.{components_written}
use Rattle.krb_name.proofs.text.write_components.Goals as goal

pub returns-clause-ok : goal.returns-clause-ok
returns-clause-ok c =
    let parts = sym c.iter-others.ensures ∙ c.in-Some.ensures.steps in
    IfOk-equal c.write_others.result _ _ _ c.write_others.ensures.ok (components_written (string_bytes c.args.text.now) _ c.in-Some.first.now _ _ c.in_ok-write_escaped.ensures.ok parts)
