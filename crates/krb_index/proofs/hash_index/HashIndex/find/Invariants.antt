use Rattle.std.proofs.Common.{◌≡◌, ℕ, ◌<◌, ◌≤◌, ◌-◌, ◌%◌, length}
use Rattle.std.specs.Prelude.{◌≢◌, slice_index}
use Rattle.krb_index.specs.Inner.Buckets.{bucket_at}
use Rattle.krb_index.proofs.hash_index.HashIndex.find.Given as goal

abbrev pub invariant-loop-at : goal.invariant-loop-at
invariant-loop-at l =
    let hashes = l.self-inside.hashes.items in
    let count = length l.self-inside.firsts.items in
    record {
      others : (k : ℕ) → l.from ≤ k → k < l.at → k < length hashes → slice_index hashes k ≢ l.hash;
      lands : l.at < length hashes → bucket_at count hashes l.at ≡ l.hash % count;
    }

abbrev pub decreases-loop-at : goal.decreases-loop-at
decreases-loop-at l = length l.self-inside.hashes.items - l.at
