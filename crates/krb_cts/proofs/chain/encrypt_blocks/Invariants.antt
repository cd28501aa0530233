use Rattle.std.proofs.Common.{◌≡◌, ◌*◌, ◌<◌, ◌++◌, drop}
use Rattle.krb_aes.specs.KeyExpansion.{IsKey}
use Rattle.krb_cts.specs.Stealing.{cipher_block, joined}
use Rattle.krb_cts.proofs.chain.encrypt_blocks.Given as goal

-- the blocks before the index are chained, and the others are as they were
abbrev pub invariant-loop-i : goal.invariant-loop-i
invariant-loop-i l = record {
  chained : l.text ≡ joined (cipher_block l.schedule l.fn.text) l.i ++ drop (16 * l.i) l.fn.text;
  key : 0 < l.i → IsKey l.schedule;
  last : l.previous ≡ cipher_block l.schedule l.fn.text l.i;
}
