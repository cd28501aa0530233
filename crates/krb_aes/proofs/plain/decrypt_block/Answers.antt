use Rattle.std.proofs.Common.{◌≡◌, ◌-◌, arith, rules}
use Rattle.krb_aes.specs.KeyExpansion.{key_expansion, round_key}
use Rattle.krb_aes.specs.Cipher.{inv_rounds, inv_cipher}
use Rattle.krb_aes.proofs.Bytes.{block_of_array}
use Rattle.krb_aes.proofs.RoundLaws.{cipher-inv_cipher}
use Rattle.krb_aes.proofs.RoundRules.{inv_rounds_before}
use Rattle.krb_aes.proofs.plain.decrypt_block.Goals as goal

pub loop-round-init : goal.loop-round-init
unfolding inv_cipher
loop-round-init c = cc

pub loop-round-preserved : goal.loop-round-preserved
loop-round-preserved c =
    let k = round_key (key_expansion c.args.schedule.now) in
    cc (inv_rounds_before k c.loop-round.state (c.loop-round.round - 1) (omega arith))

pub returns-clause-block : goal.returns-clause-block
unfolding inv_rounds
returns-clause-block c =
    let end : c.loop-round.round - 1 ≡ 0 = omega arith in
    let done = rw end at c.loop-round.invariant in
    cc

pub returns-clause-undone : goal.returns-clause-undone
returns-clause-undone c =
    let block = block_of_array c.args.block.now (search rules) c.fits-block in
    rw (returns-clause-block c) (cipher-inv_cipher c.args.schedule.now c.args.block.now c.rounds-last.ensures.key block)
