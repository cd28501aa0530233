-- Names kept as bytes, in the form of Bytes, and how they are read back.
use Rattle.std.specs.Prelude.{◌≡◌, ◌≤◌, ℕ, pos, zero, suc, List, [], ◌∷◌, length, take, drop}
use Rattle.std.specs.Int.{w64, from_be_bytes}
use Rattle.krb_name.specs.Name.{name_hash}
use Rattle.krb_replay.specs.Bytes.{HasLengths, name_bytes}
use Rattle.krb_replay.specs.Stamp.{RealmAndName}

abbrev pub number_at : List ℕ → ℕ
number_at bytes = from_be_bytes w64 (take 8 bytes)

abbrev pub text_at : List ℕ → List ℕ
text_at bytes = take (number_at bytes) (drop 8 bytes)

abbrev pub after_text : List ℕ → List ℕ
after_text bytes = drop (number_at bytes) (drop 8 bytes)

abbrev pub texts_at : ℕ → List ℕ → List (List ℕ)
texts_at zero bytes = []
texts_at (suc count) bytes = text_at bytes ∷ texts_at count (after_text bytes)

-- the name whose bytes are there
abbrev pub name_at : List ℕ → RealmAndName
name_at bytes = record { realm = text_at bytes; components = texts_at (number_at (after_text bytes)) (drop 8 (after_text bytes)) }

-- a hash of a name; its type doesn't count
abbrev pub hash_of : RealmAndName → ℕ
hash_of name = name_hash (record { realm = name.realm; name_type = pos 0; components = name.components })

-- These are the bytes of two names. The first name takes so many, and the second one has this hash.
pub record AreNames (bytes : List ℕ) (first hash : ℕ) : Type 0 where
  pub within : first ≤ length bytes
  pub server : HasLengths (name_at bytes)
  pub client : HasLengths (name_at (drop first bytes))
  pub server_is : take first bytes ≡ name_bytes (name_at bytes)
  pub client_is : drop first bytes ≡ name_bytes (name_at (drop first bytes))
  pub hash_is : hash ≡ hash_of (name_at (drop first bytes))
