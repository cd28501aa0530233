use Rattle.std.proofs.Common.{◌≡◌, length, ◌∙◌, rules}
use Rattle.krb_kdf.proofs.Blocks.{block_key-long}
use Rattle.krb_kdf.proofs.hmac.block_key.Goals as goal

pub returns-else-key : goal.returns-else-key
returns-else-key g c =
    let is = c.copy_from_slice-else-key.ensures.after ∙ g.met.D.BlockHash.digest_is _ _ c.digest.ensures in
    let size : length c.copy_from_slice-else-key.new.self ≡ g.row.N = search rules in
    block_key-long g.D.BlockHash.hash c.args.key.now c.copy_from_slice-else-key.new.self g.row.N g.row.B
    c.requires.block c.if-key.false is size
