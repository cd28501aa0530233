-- What holds of the keys of both types.
use Rattle.std.proofs.Common.{◌≡◌, ◌⊎◌, ℕ, ℤ, pos, negsuc, int_eq, ◌+◌, ◌≤◌, ◌==◌, Bool, true, false, List, ◌++◌, length, refl, sym, subst, inl, inr, arith, length-append}
use Rattle.std.specs.Prelude.{if◌then◌else◌}
use Rattle.std.specs.Bool.{Decides}
use Rattle.std.proofs.lemmas.Bool.{cases_eq}
use Rattle.std.proofs.lemmas.Bool.Decides.{Decides-int_eq}
use Rattle.krb_cts.proofs.Encrypted.{length-cts}
use Rattle.krb_enc.specs.Sealed.{Profile, IsProfile, aes128_sha256, aes256_sha384, encryption_key, tag_of, cipher_text, sealed}
use Rattle.krb_enc.specs.Opens.{Opens, OpensToNothing}
use Rattle.krb_enc.specs.Key.{KeyValue, IsKnown, IsUsable, numbered, profile_of}
use Rattle.krb_kdf.specs.BaseKey.{IsUsableKey}
use Rattle.krb_enc.proofs.Tags.{length-tag_of}
use Rattle.krb_enc.proofs.OnePlain.{one_plain, decided}

one_of_two : (b : Bool) → IsProfile (if b then aes256_sha384 else aes128_sha256)
one_of_two true = inr refl
one_of_two false = inl refl

IsProfile-numbered : (etype : ℤ) → IsProfile (numbered etype)
IsProfile-numbered (pos n) = one_of_two (n == 20)
IsProfile-numbered (negsuc n) = inl refl

pub known_profile : (key : KeyValue) → IsProfile (profile_of key)
known_profile key = IsProfile-numbered key.etype

numbered_etype : (etype : ℤ) → IsKnown etype → (numbered etype).etype ≡ etype
numbered_etype etype known =
    elim known [
      | inl is ↦ subst (λ (z : ℤ). (numbered z).etype ≡ z) (sym is) refl
      | inr is ↦ subst (λ (z : ℤ). (numbered z).etype ≡ z) (sym is) refl
    ]

pub profile_etype : (key : KeyValue) → IsKnown key.etype → (profile_of key).etype ≡ key.etype
profile_etype key known = numbered_etype key.etype known

numbered_length : (etype : ℤ) (bytes : List ℕ) → IsUsableKey etype bytes → length bytes ≡ (numbered etype).key_len
numbered_length etype bytes usable =
    elim usable [
      | inl is ↦ subst (λ (z : ℤ). length bytes ≡ (numbered z).key_len) (sym is.0) is.1
      | inr is ↦ subst (λ (z : ℤ). length bytes ≡ (numbered z).key_len) (sym is.0) is.1
    ]

pub profile_key_len : (key : KeyValue) → IsUsable key → length key.bytes ≡ (profile_of key).key_len
profile_key_len key usable = numbered_length key.etype key.bytes usable

-- ---- what is decided

decided_by : (P : Type 0) (b : Bool) → Decides b P → P ⊎ (P → ⊥)
decided_by P true d = inl (d.0 refl)
decided_by P false d = inr (λ p. let bad : false ≡ true = d.1 p in absurd cc)

both_decided : (P Q : Type 0) → P ⊎ (P → ⊥) → Q ⊎ (Q → ⊥) → (P × Q) ⊎ (P × Q → ⊥)
both_decided P Q (inl p) (inl q) = inl (p, q)
both_decided P Q (inl p) (inr none) = inr (λ h. none h.1)
both_decided P Q (inr none) other = inr (λ h. none h.0)

either_decided : (P Q : Type 0) → P ⊎ (P → ⊥) → Q ⊎ (Q → ⊥) → (P ⊎ Q) ⊎ (P ⊎ Q → ⊥)
either_decided P Q (inl p) other = inl (inl p)
either_decided P Q (inr no_p) (inl q) = inl (inr q)
either_decided P Q (inr no_p) (inr no_q) = inr (λ h. elim h [ inl p ↦ no_p p | inr q ↦ no_q q ])

same_number : (one other : ℤ) → (one ≡ other) ⊎ (one ≡ other → ⊥)
same_number one other = decided_by (one ≡ other) (int_eq one other) (Decides-int_eq one other)

pub usable_decided : (key : KeyValue) → IsUsable key ⊎ (IsUsable key → ⊥)
usable_decided key =
    either_decided _ _
    (both_decided _ _ (same_number key.etype (pos 19)) (cases_eq (length key.bytes) 16))
    (both_decided _ _ (same_number key.etype (pos 20)) (cases_eq (length key.bytes) 32))

-- ---- opening under a key

pub one_plain_of_key : (key : KeyValue) (usage : ℕ) (text one other : List ℕ) → Opens (profile_of key) key.bytes usage text one → Opens (profile_of key) key.bytes usage text other → one ≡ other
one_plain_of_key key usage text one other = one_plain (profile_of key) key.bytes usage text one other (known_profile key)

pub decided_of_key : (key : KeyValue) (usage : ℕ) (text : List ℕ)
    → ((plain : List ℕ) × Opens (profile_of key) key.bytes usage text plain) ⊎ OpensToNothing (profile_of key) key.bytes usage text
decided_of_key key usage text = decided (profile_of key) key.bytes usage text (known_profile key)

-- ---- lengths

pub length-sealed : (p : Profile) (key : List ℕ) (usage : ℕ) (confounder plain : List ℕ) → IsProfile p → length confounder ≡ 16 → length (sealed p key usage confounder plain) ≡ 16 + length plain + p.tag_len
length-sealed p key usage confounder plain known size =
    let front = cipher_text p key usage confounder plain in
    let tag = tag_of p key usage front in
    let whole : 16 ≤ length (confounder ++ plain) = omega (arith, length-append confounder plain, size) in
    omega (arith, length-append front tag, length-tag_of p key usage front known, length-cts (encryption_key p key usage) (confounder ++ plain) whole, length-append confounder plain, size)
