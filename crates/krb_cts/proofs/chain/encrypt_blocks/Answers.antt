use Rattle.std.proofs.Common.{◌≡◌, ◌+◌, ◌*◌, ◌≤◌, length, suc, refl, ap, ap₂, ◌∙◌, add-one, arith}
use Rattle.krb_aes.specs.Cipher.{cipher}
use Rattle.krb_cts.specs.Stealing.{cipher_block, joined, xor}
use Rattle.krb_cts.proofs.Blocks.{IsDone, next_block, goes_on, length-cipher_block, cipher_block-next}
use Rattle.krb_cts.proofs.chain.encrypt_blocks.Goals as goal

pub loop-i-init : goal.loop-i-init
unfolding joined cipher_block
loop-i-init c = record { chained = refl; key = λ some. absurd (omega arith); last = refl }

pub loop-i-preserved : goal.loop-i-preserved
loop-i-preserved c =
    let key = c.args.schedule.now in
    let old = c.args.text.now in
    let n = c.loop-i.i in
    let done : IsDone (cipher_block key old) n old c.loop-i.text = record { parts = c.loop-i.invariant.chained; whole = λ i _. length-cipher_block key old (suc i) } in
    let fits : 16 * n + 16 ≤ length old = omega arith in
    let next : c.encrypt_block.new.block ≡ cipher_block key old (suc n) =
    c.encrypt_block.ensures.block ∙ ap (λ b. cipher key b) (c.xor-block.ensures ∙ ap₂ xor (c.block_at.ensures ∙ next_block _ n old c.loop-i.text done) c.loop-i.invariant.last)
    ∙ cipher_block-next key old n fits in
    rw add-one (record {
      chained = c.put_block.ensures ∙ goes_on (cipher_block key old) n old c.loop-i.text c.encrypt_block.new.block done fits next;
      key = λ some. c.encrypt_block.ensures.key;
      last = next;
    })
