-- How long tags and sealed texts are.
use Rattle.std.proofs.Common.{◌≡◌, ℕ, List, length, subst, sym, inl, inr, arith}
use Rattle.std.proofs.lemmas.List.{length-take-le}
use Rattle.krb_kdf.specs.Hmac.{sha256_hash, sha384_hash, hmac}
use Rattle.krb_kdf.proofs.Lengths.{length-hmac_sha256, length-hmac_sha384}
use Rattle.krb_enc.specs.Sealed.{Profile, IsProfile, short_mac, tag_of, checksum_of}

length-short_mac : (p : Profile) (key text : List ℕ) → IsProfile p → length (short_mac p key text) ≡ p.tag_len
length-short_mac p key text known =
    elim known [
      | inl is ↦ subst (λ (q : Profile). length (short_mac q key text) ≡ q.tag_len) (sym is) (length-take-le 16 (hmac sha256_hash key text) (omega (arith, length-hmac_sha256 key text)))
      | inr is ↦ subst (λ (q : Profile). length (short_mac q key text) ≡ q.tag_len) (sym is) (length-take-le 24 (hmac sha384_hash key text) (omega (arith, length-hmac_sha384 key text)))
    ]

pub length-tag_of : (p : Profile) (key : List ℕ) (usage : ℕ) (text : List ℕ) → IsProfile p → length (tag_of p key usage text) ≡ p.tag_len
unfolding tag_of
length-tag_of p key usage text known = length-short_mac p _ _ known

pub length-checksum_of : (p : Profile) (key : List ℕ) (usage : ℕ) (text : List ℕ) → IsProfile p → length (checksum_of p key usage text) ≡ p.tag_len
unfolding checksum_of
length-checksum_of p key usage text known = length-short_mac p _ _ known

pub ruleset lengths = (length-tag_of, length-checksum_of)
