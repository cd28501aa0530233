-- A text opens to one plain text at most, and it is decided whether it opens.
use Rattle.std.proofs.Common.{◌≡◌, ◌⊎◌, ℕ, ◌+◌, ◌<◌, List, [], ◌∷◌, ◌++◌, length, drop, Bool, true, false, refl, sym, ap, ◌∙◌, inl, inr, arith}
use Rattle.std.specs.Bool.{Decides}
use Rattle.std.specs.Str.{bytes_eq}
use Rattle.std.proofs.lemmas.Slice.Eq.{bytes_eq-Decides}
use Rattle.std.proofs.lemmas.Bool.{cases_lt}
use Rattle.std.proofs.lemmas.List.Elements.{All-nil, All-cons, All-head, All-tail}
use Rattle.std.proofs.lemmas.List.{drop_at}
use Rattle.krb_cts.specs.Undo.{undo}
use Rattle.krb_aes.specs.Cipher.{IsBlock}
use Rattle.krb_enc.specs.Sealed.{Profile, IsProfile, encryption_key, tag_of, sealed}
use Rattle.krb_enc.specs.Opens.{Opens, OpensToNothing, OpensOnlyTo, body_of, end_of}
use Rattle.krb_enc.specs.Backwards.{OpensBack, OpensBackOnlyTo}
use Rattle.krb_enc.proofs.DerivedKeys.{AreBytes}
use Rattle.krb_enc.proofs.Relation.{tagged_back, backwards, forwards, bytes_of_opens}

one_plain_back : (p : Profile) (key : List ℕ) (usage : ℕ) (text one other : List ℕ) → OpensBack p key usage text one → OpensBack p key usage text other → one ≡ other
one_plain_back p key usage text one other a b =
    let same : a.confounder ++ one ≡ b.confounder ++ other = sym a.undone ∙ b.undone in
    sym (drop_at a.confounder one 16 a.size) ∙ ap (λ (t : List ℕ). drop 16 t) same ∙ drop_at b.confounder other 16 b.size

pub one_plain : (p : Profile) (key : List ℕ) (usage : ℕ) (text one other : List ℕ) → IsProfile p → Opens p key usage text one → Opens p key usage text other → one ≡ other
one_plain p key usage text one other known a b =
    one_plain_back p key usage text one other (backwards p key usage text one known a) (backwards p key usage text other known b)

-- what was sealed opens to its plain text
pub sealed_opens : (p : Profile) (key : List ℕ) (usage : ℕ) (confounder plain : List ℕ) → IsProfile p → IsBlock confounder → AreBytes plain
    → OpensOnlyTo p key usage (sealed p key usage confounder plain) plain
sealed_opens p key usage confounder plain known block bytes =
    let opens : Opens p key usage (sealed p key usage confounder plain) plain = record { confounder = confounder; is_block = block; plain_bytes = bytes; sealed_is = refl } in
    record { opens = opens; only = λ other o. one_plain p key usage (sealed p key usage confounder plain) other plain known o opens }

-- and by decryption as well
pub sealed_undone : (p : Profile) (key : List ℕ) (usage : ℕ) (confounder plain : List ℕ) → IsProfile p → IsBlock confounder → AreBytes plain
    → OpensBackOnlyTo p key usage (sealed p key usage confounder plain) plain
sealed_undone p key usage confounder plain known block bytes =
    let text = sealed p key usage confounder plain in
    let back : OpensBack p key usage text plain = backwards p key usage text plain known (sealed_opens p key usage confounder plain known block bytes).opens in
    record { opens = back; only = λ other o. one_plain_back p key usage text other plain o back }

-- whether two texts are equal is decided
same_by : (one other : List ℕ) (same : Bool) → Decides same (one ≡ other) → (one ≡ other) ⊎ (one ≡ other → ⊥)
same_by one other true d = inl (d.0 refl)
same_by one other false d = inr (λ e. let bad : false ≡ true = d.1 e in absurd cc)

same_texts : (one other : List ℕ) → (one ≡ other) ⊎ (one ≡ other → ⊥)
same_texts one other = same_by one other (bytes_eq one other) (bytes_eq-Decides one other)

decided_back : (p : Profile) (key : List ℕ) (usage : ℕ) (text : List ℕ)
    → ((plain : List ℕ) × OpensBack p key usage text plain) ⊎ ((plain : List ℕ) → OpensBack p key usage text plain → ⊥)
decided_back p key usage text =
    elim (cases_lt (length text) (16 + p.tag_len)) [
      | inl short ↦ inr (λ plain o. absurd (omega (arith, o.long)))
      | inr long ↦
          elim (same_texts (end_of p text) (tag_of p key usage (body_of p text))) [
            | inl has_tag ↦ inl (drop 16 (undo (encryption_key p key usage) (body_of p text)), tagged_back p key usage text long has_tag)
            | inr no_tag ↦ inr (λ plain o. no_tag o.has_tag)
          ]
    ]

-- whether a text is bytes is decided
are_bytes : (text : List ℕ) → AreBytes text ⊎ (AreBytes text → ⊥)
are_bytes [] = inl (All-nil (λ byte. byte < 256))
are_bytes (x ∷ xs) =
    elim (cases_lt x 256) [
      | inl byte ↦
          elim (are_bytes xs) [
            | inl bytes ↦ inl (All-cons (λ byte. byte < 256) x xs byte bytes)
            | inr other ↦ inr (λ all. other (All-tail (λ byte. byte < 256) x xs all))
          ]
      | inr above ↦ inr (λ all. absurd (omega (arith, All-head (λ byte. byte < 256) x xs all)))
    ]

pub decided : (p : Profile) (key : List ℕ) (usage : ℕ) (text : List ℕ) → IsProfile p
    → ((plain : List ℕ) × Opens p key usage text plain) ⊎ OpensToNothing p key usage text
decided p key usage text known =
    elim (are_bytes text) [
      | inl bytes ↦
          elim (decided_back p key usage text) [
            | inl found ↦ inl (found.0, forwards p key usage text found.0 known bytes found.1)
            | inr none ↦ inr (λ plain o. none plain (backwards p key usage text plain known o))
          ]
      | inr other ↦ inr (λ plain o. other (bytes_of_opens p key usage text plain known o))
    ]
