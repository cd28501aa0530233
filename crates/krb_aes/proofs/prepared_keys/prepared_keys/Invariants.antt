use Rattle.std.proofs.Common.{◌≡◌, ◌<◌, ◌≤◌, ℕ, length}
use Rattle.krb_aes.specs.KeyExpansion.{round_key}
use Rattle.krb_aes.specs.Inner.Schedule.{form_round_key, inv_round_key}
use Rattle.krb_aes.proofs.prepared_keys.prepared_keys.Given as goal

abbrev pub invariant-loop-at : goal.invariant-loop-at
invariant-loop-at l = record {
  formed : (j : ℕ) → 1 ≤ j → j < l.at → round_key l.form_words j ≡ form_round_key l.words j;
  inverse : (j : ℕ) → 1 ≤ j → j < l.at → round_key l.inv_words j ≡ inv_round_key l.words j;
  form_long : length l.form_words ≡ 240;
  inv_long : length l.inv_words ≡ 240;
}
