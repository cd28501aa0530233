use Rattle.std.proofs.Common.{◌≡◌, ◌-◌}
use Rattle.krb_aes.specs.KeyExpansion.{key_expansion, round_key}
use Rattle.krb_aes.specs.Cipher.{rounds}
use Rattle.krb_aes.proofs.plain.encrypt_block.Given as goal

abbrev pub invariant-loop-round : goal.invariant-loop-round
invariant-loop-round l =
    l.state ≡ rounds (round_key (key_expansion l.schedule)) (l.round - 1) l.block
