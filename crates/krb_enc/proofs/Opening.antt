-- What the steps of opening say of a text: its parts, their tag, and what they are undone to.
use Rattle.std.proofs.Common.{◌≡◌, ℕ, ◌+◌, ◌-◌, ◌≤◌, List, length, take, drop, sym, subst, ap, ◌∙◌, length-drop}
use Rattle.krb_cts.specs.Undo.{undo}
use Rattle.krb_enc.specs.Sealed.{Profile, IsProfile, encryption_key, tag_of}
use Rattle.krb_enc.specs.Opens.{Opens, OpensToNothing, body_of, end_of, HasTag}
use Rattle.krb_enc.proofs.DerivedKeys.{AreBytes}
use Rattle.krb_cts.proofs.Lengths.{length-undo}
use Rattle.krb_enc.proofs.Relation.{tagged_back, backwards, forwards}
use Rattle.krb_enc.proofs.OnePlain.{one_plain}

-- a text's body and end, and the tag of the body
pub record HasParts (p : Profile) (key : List ℕ) (usage : ℕ) (text body end tag : List ℕ) : Type 0 where
  pub body_is : body ≡ body_of p text
  pub end_is : end ≡ end_of p text
  pub tag_is : tag ≡ tag_of p key usage body

pub parts_of : (p : Profile) (key : List ℕ) (usage : ℕ) (text body end tag : List ℕ) (size : ℕ) → size ≡ p.tag_len
    → body ≡ take (length text - size) text → end ≡ drop (length text - size) text → tag ≡ tag_of p key usage body → HasParts p key usage text body end tag
parts_of p key usage text body end tag size size_is body_is end_is tag_is = record {
  body_is = body_is ∙ ap (λ (n : ℕ). take (length text - n) text) size_is;
  end_is = end_is ∙ ap (λ (n : ℕ). drop (length text - n) text) size_is;
  tag_is = tag_is;
}

pub has_tag : (p : Profile) (key : List ℕ) (usage : ℕ) (text body end tag : List ℕ) → HasParts p key usage text body end tag → tag ≡ end → HasTag p key usage text
has_tag p key usage text body end tag parts same = sym parts.end_is ∙ sym same ∙ parts.tag_is ∙ ap (tag_of p key usage) parts.body_is

-- a text that doesn't have its tag opens to nothing
pub no_tag : (p : Profile) (key : List ℕ) (usage : ℕ) (text body end tag : List ℕ) → IsProfile p
    → HasParts p key usage text body end tag → (tag ≡ end → ⊥) → OpensToNothing p key usage text
no_tag p key usage text body end tag known parts differs plain o =
    differs (parts.tag_is ∙ ap (tag_of p key usage) parts.body_is ∙ sym (backwards p key usage text plain known o).has_tag ∙ sym parts.end_is)

-- a text of bytes that has its tag opens to something
pub tagged_opens : (p : Profile) (key : List ℕ) (usage : ℕ) (text : List ℕ) → IsProfile p → AreBytes text → 16 + p.tag_len ≤ length text → HasTag p key usage text
    → Opens p key usage text (drop 16 (undo (encryption_key p key usage) (body_of p text)))
tagged_opens p key usage text known bytes long tagged = forwards p key usage text _ known bytes (tagged_back p key usage text long tagged)

-- a text whose body and tag are known
pub body_opens : (p : Profile) (key : List ℕ) (usage : ℕ) (text body end tag : List ℕ) → IsProfile p → AreBytes text → 16 + p.tag_len ≤ length text
    → HasParts p key usage text body end tag → tag ≡ end → Opens p key usage text (drop 16 (undo (encryption_key p key usage) body))
body_opens p key usage text body end tag known bytes long parts same =
    subst (λ (t : List ℕ). Opens p key usage text (drop 16 (undo (encryption_key p key usage) t))) (sym parts.body_is)
    (tagged_opens p key usage text known bytes long (has_tag p key usage text body end tag parts same))

-- what a body is undone to, without its confounder
pub length-plain : (ke body : List ℕ) → 16 ≤ length body → length (drop 16 (undo ke body)) ≡ length body - 16
length-plain ke body long = length-drop 16 (undo ke body) ∙ ap (λ (n : ℕ). n - 16) (length-undo ke body long)

-- is what the text opens to
pub plain_is : (p : Profile) (key : List ℕ) (usage : ℕ) (text ke body plain other : List ℕ) → IsProfile p
    → Opens p key usage text (drop 16 (undo (encryption_key p key usage) body)) → ke ≡ encryption_key p key usage → plain ≡ drop 16 (undo ke body)
    → Opens p key usage text other → plain ≡ other
plain_is p key usage text ke body plain other known opens ke_is is o =
    is ∙ ap (λ (k : List ℕ). drop 16 (undo k body)) ke_is ∙ one_plain p key usage text (drop 16 (undo (encryption_key p key usage) body)) other known opens o
