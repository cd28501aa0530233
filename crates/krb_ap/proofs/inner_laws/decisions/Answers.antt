use Rattle.krb_ap.proofs.inner_laws.decisions.Goals as goal

pub returns : goal.returns
returns c = record {
  message = c.decided.ensures;
  fault = c.faulty.ensures;
  bit = c.bit_decided.ensures;
  usable = c.usable_is_decided.ensures;
  opening = c.opening_is_decided.ensures.key;
  choice = c.a_choice_exists.ensures;
}
