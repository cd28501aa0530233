-- What a text opens to forwards and by decryption is the same.
use Rattle.std.proofs.Common.{◌≡◌, ℕ, ◌+◌, ◌-◌, ◌<◌, ◌≤◌, List, ◌++◌, length, take, drop, refl, sym, ap, subst, ◌∙◌, arith, length-append}
use Rattle.std.proofs.lemmas.List.{take_at, drop_at, take-append-drop, length-take-le}
use Rattle.std.proofs.lemmas.List.Elements.{All-append, All-take, All-drop}
use Rattle.krb_aes.specs.KeyExpansion.{IsKey}
use Rattle.krb_aes.specs.Cipher.{IsBlock}
use Rattle.krb_cts.specs.Stealing.{IsText, cts}
use Rattle.krb_cts.specs.Undo.{undo}
use Rattle.krb_cts.proofs.Lengths.{length-undo}
use Rattle.krb_cts.proofs.Encrypted.{length-cts}
use Rattle.krb_cts.proofs.Undone.{undo-cts}
use Rattle.krb_cts.proofs.Redone.{cts-undo}
use Rattle.krb_cts.proofs.TextLaws.{IsText-cts, IsText-undo}
use Rattle.krb_enc.specs.Sealed.{Profile, IsProfile, encryption_key, tag_of, cipher_text, sealed}
use Rattle.krb_enc.specs.Opens.{Opens, body_of, end_of, HasTag}
use Rattle.krb_enc.specs.Backwards.{OpensBack}
use Rattle.krb_enc.proofs.DerivedKeys.{AreBytes, IsKey-encryption_key, bytes-tag_of}
use Rattle.krb_enc.proofs.Tags.{length-tag_of}

IsText-plain : (confounder plain : List ℕ) → IsBlock confounder → AreBytes plain → IsText (confounder ++ plain)
IsText-plain confounder plain block bytes = record {
  size = omega (arith, length-append confounder plain, block.size);
  bytes = All-append (λ byte. byte < 256) confounder plain block.bytes bytes;
}

-- a text with a tag after it
tagged : (p : Profile) (front tag : List ℕ) → length tag ≡ p.tag_len → (body_of p (front ++ tag) ≡ front) × (end_of p (front ++ tag) ≡ tag)
tagged p front tag size =
    let at : length (front ++ tag) - p.tag_len ≡ length front = omega (arith, length-append front tag, size) in (
      ap (λ (n : ℕ). take n (front ++ tag)) at ∙ take_at front tag (length front) refl,
      ap (λ (n : ℕ). drop n (front ++ tag)) at ∙ drop_at front tag (length front) refl,
    )

-- a text that has its tag is undone to some plain text
pub tagged_back : (p : Profile) (key : List ℕ) (usage : ℕ) (text : List ℕ) → 16 + p.tag_len ≤ length text → HasTag p key usage text
    → OpensBack p key usage text (drop 16 (undo (encryption_key p key usage) (body_of p text)))
tagged_back p key usage text long has_tag =
    let whole : List ℕ = undo (encryption_key p key usage) (body_of p text) in
    let body : length (body_of p text) ≡ length text - p.tag_len = length-take-le (length text - p.tag_len) text (omega arith) in
    let size : length whole ≡ length (body_of p text) = length-undo (encryption_key p key usage) (body_of p text) (omega (arith, body)) in
    record {
      long = long;
      has_tag = has_tag;
      confounder = take 16 whole;
      size = length-take-le 16 whole (omega (arith, size, body));
      undone = sym (take-append-drop 16 whole);
    }

-- ---- from sealing to decryption

sealed_back : (p : Profile) (key : List ℕ) (usage : ℕ) (confounder plain : List ℕ) → IsProfile p → IsBlock confounder → AreBytes plain
    → OpensBack p key usage (sealed p key usage confounder plain) plain
sealed_back p key usage confounder plain known block bytes =
    let ke = encryption_key p key usage in
    let text : IsText (confounder ++ plain) = IsText-plain confounder plain block bytes in
    let front = cipher_text p key usage confounder plain in
    let tag = tag_of p key usage front in
    let size : length tag ≡ p.tag_len = length-tag_of p key usage front known in
    let long : 16 ≤ length front = omega (arith, length-cts ke (confounder ++ plain) text.size, text.size) in
    let parts = tagged p front tag size in
    record {
      long = omega (arith, length-append front tag, size, long);
      has_tag = parts.1 ∙ ap (tag_of p key usage) (sym parts.0);
      confounder = confounder;
      size = block.size;
      undone = ap (undo ke) parts.0 ∙ undo-cts ke (confounder ++ plain) (IsKey-encryption_key p key usage known) text;
    }

pub backwards : (p : Profile) (key : List ℕ) (usage : ℕ) (text plain : List ℕ) → IsProfile p → Opens p key usage text plain → OpensBack p key usage text plain
backwards p key usage text plain known o =
    subst (λ (t : List ℕ). OpensBack p key usage t plain) o.sealed_is
    (sealed_back p key usage o.confounder plain known o.is_block o.plain_bytes)

-- only texts of bytes open
pub bytes_of_opens : (p : Profile) (key : List ℕ) (usage : ℕ) (text plain : List ℕ) → IsProfile p → Opens p key usage text plain → AreBytes text
bytes_of_opens p key usage text plain known o =
    let front = cipher_text p key usage o.confounder plain in
    let whole : IsText front =
    IsText-cts (encryption_key p key usage) (o.confounder ++ plain) (IsKey-encryption_key p key usage known) (IsText-plain o.confounder plain o.is_block o.plain_bytes) in
    subst AreBytes o.sealed_is (All-append (λ byte. byte < 256) front (tag_of p key usage front) whole.bytes (bytes-tag_of p key usage front known))

-- ---- from decryption to sealing

-- the two parts of a text of bytes
bytes_of_parts : (confounder plain whole : List ℕ) → length confounder ≡ 16 → whole ≡ confounder ++ plain → AreBytes whole → IsBlock confounder × AreBytes plain
bytes_of_parts confounder plain whole size is bytes =
    let all : AreBytes (confounder ++ plain) = subst AreBytes is bytes in (
      record {
        size = size;
        bytes = subst AreBytes (take_at confounder plain 16 size) (All-take (λ byte. byte < 256) 16 (confounder ++ plain) all);
      },
      subst AreBytes (drop_at confounder plain 16 size) (All-drop (λ byte. byte < 256) 16 (confounder ++ plain) all),
    )

pub forwards : (p : Profile) (key : List ℕ) (usage : ℕ) (text plain : List ℕ) → IsProfile p → AreBytes text → OpensBack p key usage text plain → Opens p key usage text plain
forwards p key usage text plain known bytes b =
    let ke = encryption_key p key usage in
    let body = body_of p text in
    let size : length body ≡ length text - p.tag_len = length-take-le (length text - p.tag_len) text (omega arith) in
    let good : IsKey ke = IsKey-encryption_key p key usage known in
    let is_text : IsText body = record {
      size = omega (arith, size, b.long);
      bytes = All-take (λ byte. byte < 256) (length text - p.tag_len) text bytes;
    } in
    let parts = bytes_of_parts b.confounder plain (undo ke body) b.size b.undone (IsText-undo ke body good is_text).bytes in
    let front : cipher_text p key usage b.confounder plain ≡ body = ap (cts ke) (sym b.undone) ∙ cts-undo ke body good is_text in
    record {
      confounder = b.confounder;
      is_block = parts.0;
      plain_bytes = parts.1;
      sealed_is = ap (λ (c : List ℕ). c ++ tag_of p key usage c) front
          ∙ ap (λ (e : List ℕ). body ++ e) (sym b.has_tag)
          ∙ take-append-drop (length text - p.tag_len) text;
    }
