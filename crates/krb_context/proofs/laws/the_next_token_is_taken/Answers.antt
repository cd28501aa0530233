use Rattle.krb_context.proofs.Turns.{next_wrap, next_mic, next_order, not_refused, taken_again, goes_on}
use Rattle.krb_context.proofs.laws.the_next_token_is_taken.Goals as goal

pub returns : goal.returns
returns c = record {
  wrap = next_wrap;
  mic = next_mic;
  next = next_order;
  not_refused = not_refused;
  again = taken_again;
  goes_on = goes_on;
}
