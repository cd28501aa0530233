use Rattle.std.proofs.Common.{◌≡◌, ◌+◌, ◌-◌, ◌<◌, length, sym, arith, subst}
use Rattle.krb_index.specs.Inner.Buckets.{IsLinkedFrom}
use Rattle.krb_index.proofs.IndexLaws.{one_linked}
use Rattle.krb_index.proofs.hash_index.link.Goals as goal

pub loop-at-preserved : goal.loop-at-preserved
loop-at-preserved c =
    let hashes = c.args.hashes.now in
    let count = length c.args.firsts.now in
    let now = c.loop-at.invariant in
    let place = c.loop-at.at - 1 in
    let within : place < length hashes = omega arith in
    let before : c.loop-at.at ≡ place + 1 = omega arith in
    one_linked count hashes c.loop-at.firsts c.loop-at.nexts place c.bucket_of-bucket.result within
    (subst (λ n. c.bucket_of-bucket.result < n) now.firsts_count c.bucket_of-bucket.ensures.within)
    (sym (rw now.firsts_count at c.bucket_of-bucket.ensures.bucket))
    (subst (λ n. IsLinkedFrom count hashes n c.loop-at.firsts c.loop-at.nexts) before now)
