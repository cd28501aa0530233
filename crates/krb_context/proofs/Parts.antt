-- Texts made of parts.
use Rattle.std.proofs.Common.{◌≡◌, ◌++◌, ◌∙◌, ℕ, List, [], refl, sym, ap, ap₂, append_assoc, append-nil}
use Rattle.krb_enc.specs.Key.{KeyValue, UsageKeyValue, profile_of}
use Rattle.krb_enc.specs.Sealed.{checksum_of}

-- three parts that were copied before a rest
pub three_parts : (a b c a' b' c' rest rest' : List ℕ) → a' ≡ a → b' ≡ b → c' ≡ c → rest' ≡ rest → a' ++ (b' ++ (c' ++ rest')) ≡ (a ++ (b ++ c)) ++ rest
three_parts a b c a' b' c' rest rest' a_is b_is c_is rest_is =
    ap₂ (λ (x y : List ℕ). x ++ y) a_is (ap₂ (λ (x y : List ℕ). x ++ y) b_is (ap₂ (λ (x y : List ℕ). x ++ y) c_is rest_is))
    ∙ ap (λ (x : List ℕ). a ++ x) (sym (append_assoc b c rest)) ∙ sym (append_assoc a (b ++ c) rest)

-- a checksum of a text and a header, under a key that was prepared for a usage
pub checksum_under : (prepared : UsageKeyValue) (key : KeyValue) (usage : ℕ) (text header header' tag : List ℕ)
    → tag ≡ checksum_of (profile_of prepared.key) prepared.key.bytes prepared.usage (text ++ (header ++ []))
    → prepared ≡ record { key = key; usage = usage } → header ≡ header'
    → tag ≡ checksum_of (profile_of key) key.bytes usage (text ++ header')
checksum_under prepared key usage text header header' tag is prepared_is header_is =
    is ∙ ap (λ (p : UsageKeyValue). checksum_of (profile_of p.key) p.key.bytes p.usage (text ++ (header ++ []))) prepared_is
    ∙ ap (λ (h : List ℕ). checksum_of (profile_of key) key.bytes usage (text ++ h)) (append-nil header ∙ header_is)

pub checksum_back : (prepared : UsageKeyValue) (key : KeyValue) (usage : ℕ) (text header header' tag : List ℕ)
    → tag ≡ checksum_of (profile_of key) key.bytes usage (text ++ header')
    → prepared ≡ record { key = key; usage = usage } → header ≡ header'
    → tag ≡ checksum_of (profile_of prepared.key) prepared.key.bytes prepared.usage (text ++ (header ++ []))
checksum_back prepared key usage text header header' tag is prepared_is header_is =
    is ∙ sym (checksum_under prepared key usage text header header' _ refl prepared_is header_is)

-- two parts that were written before a rest
pub two_parts_before : (a b a' b' rest rest' : List ℕ) → a' ≡ a → b' ≡ b → rest' ≡ rest → a' ++ (b' ++ rest') ≡ (a ++ b) ++ rest
two_parts_before a b a' b' rest rest' a_is b_is rest_is =
    ap₂ (λ (x y : List ℕ). x ++ y) a_is (ap₂ (λ (x y : List ℕ). x ++ y) b_is rest_is) ∙ sym (append_assoc a b rest)
