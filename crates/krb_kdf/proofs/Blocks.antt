-- Keys as blocks, and blocks under a pad.
use Rattle.std.proofs.Common.{◌≡◌, ℕ, ◌+◌, ◌<◌, List, ◌++◌, length, map, set, take, drop, get_or, replicate, arith, ◌∙◌, append_assoc}
use Rattle.std.proofs.lemmas.Bool.{lt-leb}
use Rattle.std.proofs.lemmas.List.{drop-replicate, drop_more, get_or_at, set_at, map_more, length-map, length-take-le}
use Rattle.krb_kdf.specs.Hmac.{Hash, block_key}

-- a key that is longer than a block: its digest, written over zeros
pub block_key-long : (h : Hash) (key digest : List ℕ) (n b : ℕ) → h.block_len ≡ b → b < length key
    → digest ≡ h.digest key → length digest ≡ n → digest ++ drop n (replicate b 0) ≡ block_key h key
block_key-long h key digest n b block long is size =
    let longer : h.block_len < length key = omega arith in
    rw (lt-leb (length key) h.block_len longer, ← is, size, block, drop-replicate)

-- one more element of a list that is mapped from its front
pub mapped_more : (f : ℕ → ℕ) (xs : List ℕ) (i d : ℕ) → i < length xs
    → set (map f (take i xs) ++ drop i xs) i (f (get_or (map f (take i xs) ++ drop i xs) i d))
    ≡ map f (take (i + 1) xs) ++ drop (i + 1) xs
mapped_more f xs i d inside =
    let front : length (map f (take i xs)) ≡ i = length-map (take i xs) f ∙ length-take-le i xs (omega arith) in
    rw (
      drop_more xs i d inside,
      get_or_at (map f (take i xs)) (get_or xs i d) (drop (i + 1) xs) d i front,
      set_at (map f (take i xs)) (get_or xs i d) (drop (i + 1) xs) (f (get_or xs i d)) i front,
      map_more f xs i d inside,
      append_assoc,
    )
