use Rattle.std.proofs.Common.{◌≡◌, ◌*◌, ◌<◌}
use Rattle.krb_aes.specs.KeyExpansion.{IsKey}
use Rattle.krb_cts.specs.Inner.Chain.{whole_block}
use Rattle.krb_cts.proofs.Unchained.{IsUndone}
use Rattle.krb_cts.proofs.chain.decrypt_blocks.Given as goal

-- the chain of twice as many blocks as the index says is undone, and the others are as they were
abbrev pub invariant-loop-i : goal.invariant-loop-i
invariant-loop-i l = record {
  undone : IsUndone l.schedule l.fn.text (2 * l.i) l.text;
  key : 0 < l.i → IsKey l.schedule;
  last : l.previous ≡ whole_block l.fn.text (2 * l.i);
}
