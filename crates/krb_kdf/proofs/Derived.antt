-- What a key is derived by, as one part.
use Rattle.std.proofs.Common.{◌≡◌, ℕ, ◌/◌, List, [], ◌++◌, take}
use Rattle.std.proofs.lemmas.List.{append-nil}
use Rattle.krb_kdf.specs.Hmac.{Hash, hmac_of}
use Rattle.krb_kdf.specs.Kdf.{kdf_of, kdf_text}

pub kdf-text : (h : Hash) (block label text : List ℕ) (k : ℕ) → text ≡ kdf_text label k
    → take (k / 8) (hmac_of h block (text ++ [])) ≡ kdf_of h block label k
unfolding kdf_of
kdf-text h block label text k is = rw (append-nil, is)
