use Rattle.std.proofs.Common.{◌∙◌, ap, rules}
use Rattle.std.specs.Option.{option_map}
use Rattle.krb_explain.specs.Page.{page_of}
use Rattle.krb_explain_keys.proofs.OpeningLaws.{if_ok}
use Rattle.krb_explain_keys.proofs.keyed.explain_with_keys.Goals as goal

pub returns : goal.returns
returns c = if_ok c.page.result (λ text is. record {
  lines = c.in_ok-explained.explained.lines.items;
  request = option_map (λ x. x.now) c.in_ok-explained.explained.request;
  others = c.in_ok-others.others.items;
  explain = c.in_ok-explained.ensures;
  others_are = c.in_ok-others.ensures;
  text_is = is ∙ ap page_of (search rules);
}) c.page.ensures
