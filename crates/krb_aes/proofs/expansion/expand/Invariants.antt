use Rattle.std.proofs.Common.{◌≡◌, ◌*◌, ◌-◌, take, length}
use Rattle.krb_aes.specs.KeyExpansion.{first_words, key_words}
use Rattle.krb_aes.proofs.expansion.expand.Given as goal

abbrev pub invariant-loop-i : goal.invariant-loop-i
invariant-loop-i l = record {
  words : take (4 * l.i) l.words ≡ first_words l.key (l.i - key_words l.key);
  long : length l.words ≡ 240;
}
