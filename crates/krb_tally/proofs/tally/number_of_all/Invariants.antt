use Rattle.std.proofs.Common.{◌≡◌, length, take}
use Rattle.krb_tally.specs.Inner.Buckets.{all_of}
use Rattle.krb_tally.proofs.tally.number_of_all.Given as goal

abbrev pub invariant-loop-bucket : goal.invariant-loop-bucket
invariant-loop-bucket g l = l.found ≡ length (all_of (take l.bucket-index l.buckets))
