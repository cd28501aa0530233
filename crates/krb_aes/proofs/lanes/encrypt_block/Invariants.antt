use Rattle.std.proofs.Common.{◌≡◌, ◌+◌, ◌-◌, ◌%◌, map}
use Rattle.krb_aes.specs.KeyExpansion.{key_expansion, round_key}
use Rattle.krb_aes.specs.Cipher.{IsBlock, rounds}
use Rattle.krb_aes.specs.Inner.Schedule.{kept}
use Rattle.krb_aes.specs.Inner.Tower.{tower_form}
use Rattle.krb_aes.proofs.lanes.encrypt_block.Given as goal

abbrev pub invariant-loop-at : goal.invariant-loop-at
invariant-loop-at l = record {
  is_block : IsBlock (rounds (round_key (key_expansion l.schedule)) (l.at - 1) l.block);
  form : l.form ≡ map tower_form (kept ((l.at + 3) % 4) (rounds (round_key (key_expansion l.schedule)) (l.at - 1) l.block));
}
