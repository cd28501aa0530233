-- An index of hashes: each falls into a bucket, and the places of a bucket are linked, from first to last.
use Rattle.std.specs.Prelude.{◌≡◌, ◌≢◌, ℕ, ◌+◌, ◌%◌, ◌^◌, ◌<◌, ◌≤◌, List, length, slice_index}

-- the bucket of the hash at a place, among so many
abbrev pub bucket_at : ℕ → List ℕ → ℕ → ℕ
bucket_at count hashes k = slice_index hashes k % count

-- the first place of this bucket that isn't before another place; or past all places
pub record LeadsTo (count : ℕ) (hashes : List ℕ) (bucket from to : ℕ) : Type 0 where
  pub forward : from ≤ to
  pub skips : (k : ℕ) → from ≤ k → k < to → k < length hashes → bucket_at count hashes k ≢ bucket
  pub lands : to < length hashes → bucket_at count hashes to ≡ bucket

-- the places from one on are linked: each bucket leads to its first, and each place to the next of
-- its bucket
pub record IsLinkedFrom (count : ℕ) (hashes : List ℕ) (from : ℕ) (firsts nexts : List ℕ) : Type 0 where
  pub firsts_count : length firsts ≡ count
  pub nexts_count : length nexts ≡ length hashes
  pub first : (bucket : ℕ) → bucket < count → LeadsTo count hashes bucket from (slice_index firsts bucket)
  pub next : (k : ℕ) → from ≤ k → k < length hashes → LeadsTo count hashes (bucket_at count hashes k) (k + 1) (slice_index nexts k)

-- the index leads to all hashes, whose places have 32 bits
pub record IsIndex (hashes firsts nexts : List ℕ) : Type 0 where
  pub some : 0 < length firsts
  pub most : length hashes < 2 ^ 32
  pub linked : IsLinkedFrom (length firsts) hashes 0 firsts nexts
