-- Wrap tokens by their parts.
use Rattle.std.proofs.Common.{◌≡◌, ◌∙◌, ◌<◌, ◌≤◌, ◌^◌, ◌+◌, ◌-◌, ◌%◌, ℕ, List, ◌++◌, Bool, true, false, length, take, drop, refl, sym, ap, ap₂, subst, append_assoc, inl, inr, arith, if◌then◌else◌}
use Rattle.std.proofs.lemmas.List.{take-append-drop, length-append, drop-drop}
use Rattle.std.proofs.Math.Seq.{take-append_seam, drop-append_seam}
use Rattle.krb_enc.specs.Key.{profile_of}
use Rattle.krb_enc.specs.Sealed.{Profile, IsProfile}
use Rattle.krb_enc.specs.Opens.{Opens, body_of}
use Rattle.krb_enc.proofs.KeyLaws.{known_profile, length-sealed}
use Rattle.krb_enc.proofs.Tags.{length-checksum_of}
use Rattle.krb_context.specs.Side.{Sender, HasFlags, sender_flag, seal_usage}
use Rattle.krb_context.specs.Wrap.{IsSealed, IsInPlain, wrap_header, wrap_checksum, rotated}
use Rattle.krb_context.specs.Faults.{HasWrapForm, HasRoom, IsWrapFault, sender_bit, sealed_bit, subkey_bit}
use Rattle.krb_context.specs.Inner.Forms.{IsFlagFault}
use Rattle.krb_context.proofs.Rotations.{length-rotated}
use Rattle.krb_context.specs.declared.role.Role.{Role}
use Rattle.krb_context.specs.declared.role.Role.TheVariants.{Initiator, Acceptor}
use Rattle.krb_context.specs.declared.fault.MessageFault.{MessageFault}
use Rattle.krb_context.specs.declared.fault.MessageFault.TheVariants.{Defective, Direction, OtherKey, Integrity}

pub wrap_flag_fault : (sender : Sender) (token : List ℕ) (flags : ℕ) (fault : MessageFault) → HasWrapForm sender token flags → IsFlagFault sender flags fault
    → IsWrapFault sender token fault
wrap_flag_fault sender token flags Defective form it = absurd it
wrap_flag_fault sender token flags Direction form it = (flags, form, it)
wrap_flag_fault sender token flags OtherKey form it = (flags, form, it.0, it.1)
wrap_flag_fault sender token flags Integrity form it = absurd it

-- what stands between a confounder's place and a tag's
pub inside : (p : Profile) (front plain end : List ℕ) → length front ≡ 16 → length end ≡ p.tag_len → drop 16 (body_of p ((front ++ plain) ++ end)) ≡ plain
inside p front plain end size is =
    let count : length ((front ++ plain) ++ end) - p.tag_len ≡ length (front ++ plain) = omega (arith, is, length-append (front ++ plain) end) in
    ap (drop 16) (ap (λ (n : ℕ). take n ((front ++ plain) ++ end)) count ∙ take-append_seam (front ++ plain) end)
    ∙ ap (λ (n : ℕ). drop n (front ++ plain)) (sym size) ∙ drop-append_seam front plain

pub wrap_form_of : (sender : Sender) (token front after : List ℕ) (flags extra rotation number : ℕ) → front ≡ take 16 token → after ≡ drop 16 token
    → front ≡ wrap_header flags extra rotation number → extra < 2 ^ 16 → rotation < 2 ^ 16 → number < 2 ^ 64 → HasRoom sender flags extra (length after)
    → HasWrapForm sender token flags
wrap_form_of sender token front after flags extra rotation number front_is after_is header_is extra_fits rotation_fits fits room = record {
  extra = extra;
  rotation = rotation;
  number = number;
  extra_fits = extra_fits;
  rotation_fits = rotation_fits;
  fits = fits;
  after = after;
  whole = sym (take-append-drop 16 token) ∙ ap₂ (λ (f a : List ℕ). f ++ a) (sym front_is ∙ header_is) (sym after_is);
  has_room = room;
}

-- a text and a header that were laid out before they are sealed
pub laid : (p : Profile) (front text header end : List ℕ) → length front ≡ 16 → length end ≡ p.tag_len
    → drop 16 (body_of p (front ++ (text ++ (header ++ end)))) ≡ text ++ header
laid p front text header end size is =
    ap (λ (t : List ℕ). drop 16 (body_of p t)) (ap (λ (t : List ℕ). front ++ t) (sym (append_assoc text header end)) ∙ sym (append_assoc front (text ++ header) end))
    ∙ inside p front (text ++ header) end size is

-- a plain text that ends with filler and a header
pub plain_parts : (plain header : List ℕ) (size extra : ℕ) → size + (extra + 16) ≡ length plain → drop (size + extra) plain ≡ header
    → plain ≡ take size plain ++ (take extra (drop size plain) ++ header)
plain_parts plain header size extra whole is =
    sym (take-append-drop size plain) ∙ ap (λ (t : List ℕ). take size plain ++ t)
    (sym (take-append-drop extra (drop size plain)) ∙ ap (λ (t : List ℕ). take extra (drop size plain) ++ t) (drop-drop extra size plain ∙ is))

pub header_at_end : (plain text filler header : List ℕ) → length header ≡ 16 → plain ≡ text ++ (filler ++ header) → drop (length plain - 16) plain ≡ header
header_at_end plain text filler header size is =
    let all : plain ≡ (text ++ filler) ++ header = is ∙ sym (append_assoc text filler header) in
    let at : length plain - 16 ≡ length (text ++ filler) = omega (arith, ap length all, length-append (text ++ filler) header, size) in
    ap₂ (λ (n : ℕ) (t : List ℕ). drop n t) at all ∙ drop-append_seam (text ++ filler) header

-- a text in plain before its checksum
pub before_checksum : (body text sum : List ℕ) (size : ℕ) → length sum ≡ size → body ≡ text ++ sum
    → (take (length body - size) body ≡ text) × (drop (length body - size) body ≡ sum)
before_checksum body text sum size is whole =
    let at : length body - size ≡ length text = omega (arith, ap length whole, length-append text sum, is) in
    (ap₂ (λ (n : ℕ) (t : List ℕ). take n t) at whole ∙ take-append_seam text sum, ap₂ (λ (n : ℕ) (t : List ℕ). drop n t) at whole ∙ drop-append_seam text sum)

-- the bits of a sender's flags
pub bits_of : (side : Role) (is_sealed subkey : Bool) (flags : ℕ) → flags % 8 ≡ sender_flag side + (if is_sealed then 2 else 0) + (if subkey then 4 else 0)
    → (sender_bit flags ≡ sender_flag side) × (sealed_bit flags ≡ (if is_sealed then 1 else 0)) × (subkey_bit flags ≡ (if subkey then 1 else 0))
bits_of Initiator is_sealed subkey flags is = (grind (arith, is), grind (arith, is), grind (arith, is))
bits_of Acceptor is_sealed subkey flags is = (grind (arith, is), grind (arith, is), grind (arith, is))

pub bits : (sender : Sender) (is_sealed : Bool) (flags : ℕ) → HasFlags sender is_sealed flags
    → (sender_bit flags ≡ sender_flag sender.side) × (sealed_bit flags ≡ (if is_sealed then 1 else 0)) × (subkey_bit flags ≡ (if sender.acceptor_subkey then 1 else 0))
bits sender is_sealed flags has = bits_of sender.side is_sealed sender.acceptor_subkey flags has.known

pub length-sealed_body : (sender : Sender) (body plain : List ℕ) → Opens (profile_of sender.key) sender.key.bytes (seal_usage sender.side) body plain
    → length body ≡ 16 + length plain + (profile_of sender.key).tag_len
length-sealed_body sender body plain o =
    ap length (sym o.sealed_is) ∙ length-sealed (profile_of sender.key) sender.key.bytes (seal_usage sender.side) o.confounder plain (known_profile sender.key) o.is_block.size

-- tags have 16 bytes or 24
pub tag_lens : (p : Profile) → IsProfile p → (0 < p.tag_len) × (p.tag_len ≤ 24)
tag_lens p known =
    elim known [
      | inl is ↦ subst (λ (q : Profile). (0 < q.tag_len) × (q.tag_len ≤ 24)) (sym is) (omega arith, omega arith)
      | inr is ↦ subst (λ (q : Profile). (0 < q.tag_len) × (q.tag_len ≤ 24)) (sym is) (omega arith, omega arith)
    ]

-- a sender's tokens have the form of one
pub sealed_form : (sender : Sender) (number : ℕ) (text token : List ℕ) (w : IsSealed sender number text token) → HasWrapForm sender token w.flags
sealed_form sender number text token w =
    let b = bits sender true w.flags w.has_flags in
    let inner : List ℕ = wrap_header w.flags (length w.filler) 0 number in
    let size = length-sealed_body sender w.body (text ++ (w.filler ++ inner)) w.opens in
    let plain_size = length-append text (w.filler ++ inner) in
    let filler_size = length-append w.filler inner in
    let some : 0 < length w.body = omega (arith, size) in
    let turned = length-rotated w.rotation w.body some in
    record {
      extra = length w.filler;
      rotation = w.rotation;
      number = number;
      extra_fits = w.filler_fits;
      rotation_fits = w.rotation_fits;
      fits = w.fits;
      after = rotated w.rotation w.body;
      whole = w.whole;
      has_room = record {
        if_sealed = λ _. omega (arith, turned, size, plain_size, filler_size);
        if_plain = λ is. absurd (omega (arith, is, b.1));
      };
    }

pub plain_form : (sender : Sender) (number : ℕ) (text token : List ℕ) (w : IsInPlain sender number text token) → HasWrapForm sender token w.flags
plain_form sender number text token w =
    let b = bits sender false w.flags w.has_flags in
    let p = profile_of sender.key in
    let sum : List ℕ = wrap_checksum sender w.flags number text in
    let sum_size : length sum ≡ p.tag_len = length-checksum_of p sender.key.bytes _ _ (known_profile sender.key) in
    let tag = tag_lens p (known_profile sender.key) in
    let size = length-append text sum in
    let some : 0 < length (text ++ sum) = omega (arith, size, sum_size, tag.0) in
    let turned = length-rotated w.rotation (text ++ sum) some in
    record {
      extra = p.tag_len;
      rotation = w.rotation;
      number = number;
      extra_fits = omega (arith, tag.1);
      rotation_fits = w.rotation_fits;
      fits = w.fits;
      after = rotated w.rotation (text ++ sum);
      whole = w.whole;
      has_room = record {
        if_sealed = λ is. absurd (omega (arith, is, b.1));
        if_plain = λ _. (refl, omega (arith, turned, size, sum_size));
      };
    }
