-- What is left to do gives InvCipher of the block.
use Rattle.std.proofs.Common.{◌≡◌, ◌-◌}
use Rattle.krb_aes.specs.KeyExpansion.{key_expansion, round_key}
use Rattle.krb_aes.specs.Cipher.{inv_rounds, inv_cipher}
use Rattle.krb_aes.proofs.plain.decrypt_block.Given as goal

abbrev pub invariant-loop-round : goal.invariant-loop-round
invariant-loop-round l =
    inv_rounds (round_key (key_expansion l.schedule)) (l.round - 1) l.state ≡ inv_cipher l.schedule l.block
