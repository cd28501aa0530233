use Rattle.std.proofs.Common.{◌≡◌, ◌+◌, ◌-◌, arith, rules}
use Rattle.krb_aes.specs.KeyExpansion.{key_expansion, round_key}
use Rattle.krb_aes.specs.Cipher.{rounds, cipher}
use Rattle.krb_aes.proofs.Bytes.{block_of_array}
use Rattle.krb_aes.proofs.RoundLaws.{inv_cipher-cipher}
use Rattle.krb_aes.proofs.RoundRules.{rounds_after}
use Rattle.krb_aes.proofs.plain.encrypt_block.Goals as goal

pub loop-round-init : goal.loop-round-init
unfolding rounds
loop-round-init c = cc

pub loop-round-preserved : goal.loop-round-preserved
loop-round-preserved c =
    let k = round_key (key_expansion c.args.schedule.now) in
    let same : c.loop-round.round + 1 - 1 ≡ c.loop-round.round = omega arith in
    rw same (cc (rounds_after k c.args.block.now c.loop-round.round (omega arith)))

pub returns-clause-block : goal.returns-clause-block
unfolding cipher
returns-clause-block c =
    let end : c.loop-round.round ≡ c.rounds-last.result = omega arith in
    cc

pub returns-clause-undone : goal.returns-clause-undone
returns-clause-undone c =
    let block = block_of_array c.args.block.now (search rules) c.fits-block in
    rw (returns-clause-block c) (inv_cipher-cipher c.args.schedule.now c.args.block.now c.rounds-last.ensures.key block)
