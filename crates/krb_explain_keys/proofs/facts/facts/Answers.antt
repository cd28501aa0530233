use Rattle.krb_explain_keys.proofs.facts.facts.Goals as goal

pub returns : goal.returns
returns c = record {
  one_value = λ k m v w bytes one other. c.one_value.ensures k m v w bytes one.spelled other.spelled;
  one_plain = c.one_plain_text.ensures.key;
  one_choice = λ setup request one other. c.each_choice_is_one.ensures _ _ _ _ one other;
}
