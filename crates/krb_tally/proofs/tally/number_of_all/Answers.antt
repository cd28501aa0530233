use Rattle.std.proofs.Common.{◌+◌, arith}
use Rattle.krb_tally.proofs.TallyLaws.{length_more, length_part}
use Rattle.krb_tally.proofs.tally.number_of_all.Goals as goal

pub overflow_add-found : goal.overflow_add-found
overflow_add-found g c =
    let so_far = c.loop-bucket.invariant in
    let one = c.len-found.ensures.len in
    let sum = length_more c.args.buckets.now c.loop-bucket.bucket-index c.bucket-item.result c.loop-bucket-test.true c.bucket-item.is in
    let part = length_part c.args.buckets.now (c.loop-bucket.bucket-index + 1) in
    let few = c.requires in
    omega arith

pub loop-bucket-preserved : goal.loop-bucket-preserved
loop-bucket-preserved g c =
    let so_far = c.loop-bucket.invariant in
    let one = c.len-found.ensures.len in
    let sum = length_more c.args.buckets.now c.loop-bucket.bucket-index c.bucket-item.result c.loop-bucket-test.true c.bucket-item.is in
    omega arith
