-- How long an HMAC and a derived key are.
use Rattle.std.proofs.Common.{◌≡◌, ℕ, ◌/◌, ◌≤◌, List, length, arith}
use Rattle.std.proofs.lemmas.List.{length-take-le}
use Rattle.sha2.proofs.Facts256.{length-sha256}
use Rattle.sha2.proofs.Facts512.{length-sha384}
use Rattle.krb_kdf.specs.Hmac.{Hash, sha256_hash, sha384_hash, hmac, hmac_of}
use Rattle.krb_kdf.specs.Kdf.{kdf, kdf_text}

pub length-hmac_sha256 : (key text : List ℕ) → length (hmac sha256_hash key text) ≡ 32
unfolding hmac hmac_of
length-hmac_sha256 key text = length-sha256 _

pub length-hmac_sha384 : (key text : List ℕ) → length (hmac sha384_hash key text) ≡ 48
unfolding hmac hmac_of
length-hmac_sha384 key text = length-sha384 _

-- a derived key of at most n bytes, where an HMAC has n bytes
pub length-kdf : (h : Hash) (n : ℕ) → ((key text : List ℕ) → length (hmac h key text) ≡ n)
    → (key label : List ℕ) (k : ℕ) → k / 8 ≤ n → length (kdf h key label k) ≡ k / 8
unfolding kdf
length-kdf h n whole key label k fits = length-take-le (k / 8) (hmac h key (kdf_text label k)) (omega (arith, whole key (kdf_text label k)))
