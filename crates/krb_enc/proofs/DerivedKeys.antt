-- Derived keys and tags are bytes, and Ke is a key of AES.
use Rattle.std.proofs.Common.{All, ℕ, zero, suc, ◌/◌, ◌<◌, List, subst, sym, arith, inl, inr}
use Rattle.std.proofs.lemmas.List.Elements.{All-nil, All-cons, All-append, All-take}
use Rattle.std.specs.Prelude.{slice_index}
use Rattle.std.specs.Int.{byte_at, bytes_high_first, to_be_bytes, w32, w64}
use Rattle.sha2.specs.Sha256.{sha256, digest_bytes as bytes_of_32}
use Rattle.sha2.specs.Sha512.{sha384, digest_bytes as bytes_of_64}
use Rattle.krb_aes.specs.KeyExpansion.{IsKey}
use Rattle.krb_kdf.specs.Hmac.{Hash, sha256_hash, sha384_hash, hmac, hmac_of}
use Rattle.krb_kdf.specs.Kdf.{kdf, kdf_text, label}
use Rattle.krb_kdf.specs.declared.purpose.Purpose.TheVariants.{Ke}
use Rattle.krb_kdf.proofs.Lengths.{length-hmac_sha256, length-hmac_sha384, length-kdf}
use Rattle.krb_enc.specs.Sealed.{Profile, IsProfile, encryption_key, short_mac, tag_of}

abbrev pub AreBytes : List ℕ → Type 0
AreBytes text = All (λ byte. byte < 256) text

byte_at-lt : (k n : ℕ) → byte_at k n < 256
byte_at-lt zero n = omega arith
byte_at-lt (suc k) n = omega arith

bytes-high_first : (k n : ℕ) → AreBytes (bytes_high_first k n)
bytes-high_first zero n = All-nil (λ byte. byte < 256)
bytes-high_first (suc k) n = All-cons (λ byte. byte < 256) (byte_at k n) (bytes_high_first k n) (byte_at-lt k n) (bytes-high_first k n)

bytes-words32 : (h : List ℕ) (n : ℕ) → AreBytes (bytes_of_32 h n)
unfolding bytes_of_32
bytes-words32 h zero = All-nil (λ byte. byte < 256)
bytes-words32 h (suc n) =
    All-append (λ byte. byte < 256) (bytes_of_32 h n) (to_be_bytes w32 (slice_index h n)) (bytes-words32 h n) (bytes-high_first 4 (slice_index h n))

bytes-words64 : (h : List ℕ) (n : ℕ) → AreBytes (bytes_of_64 h n)
unfolding bytes_of_64
bytes-words64 h zero = All-nil (λ byte. byte < 256)
bytes-words64 h (suc n) =
    All-append (λ byte. byte < 256) (bytes_of_64 h n) (to_be_bytes w64 (slice_index h n)) (bytes-words64 h n) (bytes-high_first 8 (slice_index h n))

bytes-sha256 : (text : List ℕ) → AreBytes (sha256 text)
unfolding sha256
bytes-sha256 text = bytes-words32 _ 8

bytes-sha384 : (text : List ℕ) → AreBytes (sha384 text)
unfolding sha384
bytes-sha384 text = All-take (λ byte. byte < 256) 48 _ (bytes-words64 _ 8)

bytes-hmac : (h : Hash) → ((text : List ℕ) → AreBytes (h.digest text)) → (key text : List ℕ) → AreBytes (hmac h key text)
unfolding hmac hmac_of
bytes-hmac h bytes key text = bytes _

bytes-kdf : (h : Hash) → ((text : List ℕ) → AreBytes (h.digest text)) → (key label : List ℕ) (k : ℕ) → AreBytes (kdf h key label k)
unfolding kdf
bytes-kdf h bytes key label k = All-take (λ byte. byte < 256) (k / 8) (hmac h key (kdf_text label k)) (bytes-hmac h bytes key (kdf_text label k))

pub IsKey-encryption_key : (p : Profile) (key : List ℕ) (usage : ℕ) → IsProfile p → IsKey (encryption_key p key usage)
IsKey-encryption_key p key usage known =
    elim known [
      | inl is ↦ subst (λ (q : Profile). IsKey (encryption_key q key usage)) (sym is) (record {
        size = inl (length-kdf sha256_hash 32 length-hmac_sha256 key (label usage Ke) 128 (omega arith));
        bytes = bytes-kdf sha256_hash bytes-sha256 key (label usage Ke) 128;
      })
      | inr is ↦ subst (λ (q : Profile). IsKey (encryption_key q key usage)) (sym is) (record {
        size = inr (length-kdf sha384_hash 48 length-hmac_sha384 key (label usage Ke) 256 (omega arith));
        bytes = bytes-kdf sha384_hash bytes-sha384 key (label usage Ke) 256;
      })
    ]

bytes-short_mac : (p : Profile) (key text : List ℕ) → IsProfile p → AreBytes (short_mac p key text)
bytes-short_mac p key text known =
    elim known [
      | inl is ↦ subst (λ (q : Profile). AreBytes (short_mac q key text)) (sym is) (All-take (λ byte. byte < 256) 16 (hmac sha256_hash key text) (bytes-hmac sha256_hash bytes-sha256 key text))
      | inr is ↦ subst (λ (q : Profile). AreBytes (short_mac q key text)) (sym is) (All-take (λ byte. byte < 256) 24 (hmac sha384_hash key text) (bytes-hmac sha384_hash bytes-sha384 key text))
    ]

pub bytes-tag_of : (p : Profile) (key : List ℕ) (usage : ℕ) (text : List ℕ) → IsProfile p → AreBytes (tag_of p key usage text)
unfolding tag_of
bytes-tag_of p key usage text known = bytes-short_mac p _ _ known
