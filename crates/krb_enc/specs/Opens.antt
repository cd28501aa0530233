-- What a sealed text opens to (RFC 8009, section 5).
use Rattle.std.specs.Prelude.{◌≡◌, All, ◌<◌, ◌+◌, ◌-◌, ℕ, List, length, take, drop}
use Rattle.krb_aes.specs.Cipher.{IsBlock}
use Rattle.krb_enc.specs.Sealed.{Profile, tag_of, sealed}

-- some confounder of 16 bytes seals the plain text to this text; nothing is decrypted
pub record Opens (p : Profile) (key : List ℕ) (usage : ℕ) (text plain : List ℕ) : Type 0 where
  pub confounder : List ℕ
  pub is_block : IsBlock confounder
  pub plain_bytes : All (λ byte. byte < 256) plain
  pub sealed_is : sealed p key usage confounder plain ≡ text

-- no plain text was sealed to it
abbrev pub OpensToNothing : Profile → List ℕ → ℕ → List ℕ → Type 0
OpensToNothing p key usage text = (plain : List ℕ) → Opens p key usage text plain → ⊥

-- it opens to this plain text and to no other
pub record OpensOnlyTo (p : Profile) (key : List ℕ) (usage : ℕ) (text plain : List ℕ) : Type 0 where
  pub opens : Opens p key usage text plain
  pub only : (other : List ℕ) → Opens p key usage text other → other ≡ plain

-- what comes before the tag, and the tag
abbrev pub body_of : Profile → List ℕ → List ℕ
body_of p text = take (length text - p.tag_len) text

abbrev pub end_of : Profile → List ℕ → List ℕ
end_of p text = drop (length text - p.tag_len) text

-- a text is shorter than a sealed empty text
abbrev pub IsShort : Profile → List ℕ → Type 0
IsShort p text = length text < 16 + p.tag_len

-- the last bytes are the tag of the rest
abbrev pub HasTag : Profile → List ℕ → ℕ → List ℕ → Type 0
HasTag p key usage text = end_of p text ≡ tag_of p key usage (body_of p text)
