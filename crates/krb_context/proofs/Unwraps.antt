-- Tokens, and what their readers find.
use Rattle.std.proofs.Common.{◌≡◌, ◌∙◌, ◌<◌, ◌^◌, ◌∷◌, [], ℕ, List, ◌++◌, Bool, true, false, length, take, drop, get_or, sym, ap, ap₂, subst, inl, inr, arith}
use Rattle.std.specs.Prelude.{◌==◌}
use Rattle.std.specs.Int.{w16, w64, from_be_bytes}
use Rattle.std.proofs.lemmas.Bool.{cases_eq, eq-eqb, ne_eqb}
use Rattle.std.proofs.lemmas.List.{length-append, length-drop}
use Rattle.std.proofs.lemmas.Nat.{from_be_bytes-to_be_bytes_2, from_be_bytes-to_be_bytes_8}
use Rattle.std.proofs.Math.Seq.{take-append_seam}
use Rattle.krb_enc.specs.Key.{profile_of}
use Rattle.krb_enc.specs.Opens.{Opens}
use Rattle.krb_enc.proofs.KeyLaws.{known_profile}
use Rattle.krb_enc.proofs.OnePlain.{one_plain}
use Rattle.krb_enc.proofs.Tags.{length-checksum_of}
use Rattle.krb_context.specs.Side.{Sender, HasFlags, seal_usage}
use Rattle.krb_context.specs.Wrap.{IsWrap, IsSealed, IsInPlain, wrap_header, wrap_checksum, rotated}
use Rattle.krb_context.specs.Faults.{HasRoom, HasWrapForm, IsWrapFault, sender_bit, sealed_bit, subkey_bit}
use Rattle.krb_context.specs.Inner.Forms.{Holds, IsFormed}
use Rattle.krb_context.specs.declared.header.WrapHeader.{WrapHeader}
use Rattle.krb_context.specs.declared.fault.MessageFault.{MessageFault}
use Rattle.krb_context.specs.declared.fault.MessageFault.TheVariants.{Defective, Direction, OtherKey, Integrity}
use Rattle.krb_context.proofs.Rotations.{turned_back, rotated_again, back_again}
use Rattle.krb_context.proofs.Wraps.{bits, sealed_form, plain_form, length-sealed_body, tag_lens}

same_flags : (sender : Sender) (token : List ℕ) (f g : ℕ) → HasWrapForm sender token f → HasWrapForm sender token g → f ≡ g
same_flags sender token f g a b = ap (λ (t : List ℕ). get_or t 2 0) (sym a.whole ∙ b.whole)

by_fault : (sender : Sender) (is_sealed : Bool) (number : ℕ) (text token : List ℕ) (flags : ℕ) → HasWrapForm sender token flags → HasFlags sender is_sealed flags
    → IsWrap sender is_sealed number text token → (fault : MessageFault) → IsWrapFault sender token fault → ⊥
by_fault sender is_sealed number text token flags form has w Defective it = it flags form
by_fault sender is_sealed number text token flags form has w Direction it =
    it.2 (ap (λ (f : ℕ). sender_bit f) (same_flags sender token it.0 flags it.1 form) ∙ (bits sender is_sealed flags has).0)
by_fault sender is_sealed number text token flags form has w OtherKey it =
    it.3 (ap (λ (f : ℕ). subkey_bit f) (same_flags sender token it.0 flags it.1 form) ∙ (bits sender is_sealed flags has).2)
by_fault sender is_sealed number text token flags form has w Integrity it = it.3 is_sealed number text w

-- a sender's token has none of the faults
pub has_no_fault : (sender : Sender) (is_sealed : Bool) (number : ℕ) (text token : List ℕ) → IsWrap sender is_sealed number text token
    → (fault : MessageFault) → IsWrapFault sender token fault → ⊥
has_no_fault sender true number text token w fault it = by_fault sender true number text token w.flags (sealed_form sender number text token w) w.has_flags w fault it
has_no_fault sender false number text token w fault it = by_fault sender false number text token w.flags (plain_form sender number text token w) w.has_flags w fault it

-- a token is sealed or in plain, by its flag
pub by_kind : (flags : ℕ) (P : Bool → Type 0) → (sealed_bit flags ≡ 1 → P true) → (sealed_bit flags ≡ 0 → P false) → P (sealed_bit flags == 1)
by_kind flags P if_one if_zero =
    elim (cases_eq (sealed_bit flags) 1) [
      | inl is ↦ subst P (sym (eq-eqb (sealed_bit flags) 1 is)) (if_one is)
      | inr other ↦ subst P (sym (ne_eqb (sealed_bit flags) 1 other)) (if_zero (omega (arith, other)))
    ]

-- there is something after a header that has room for what it says
pub some_room : (sender : Sender) (flags extra size : ℕ) → HasRoom sender flags extra size → 0 < size
some_room sender flags extra size room =
    by_kind flags (λ _. 0 < size) (λ is. omega (arith, room.if_sealed is))
    (λ is. omega (arith, (room.if_plain is).0, (room.if_plain is).1, (tag_lens (profile_of sender.key) (known_profile sender.key)).0))

pub form_of : (sender : Sender) (token : List ℕ) (header : WrapHeader) → IsFormed sender token header
    → header.rotation < 2 ^ 16 → header.extra < 2 ^ 16 → header.number < 2 ^ 64 → HasWrapForm sender token header.flags
form_of sender token header formed rotation_fits extra_fits fits = record {
  extra = header.extra;
  rotation = header.rotation;
  number = header.number;
  extra_fits = extra_fits;
  rotation_fits = rotation_fits;
  fits = fits;
  after = drop 16 token;
  whole = formed.whole;
  has_room = subst (λ (n : ℕ). HasRoom sender header.flags header.extra n) (sym (length-drop 16 token)) formed.has_room;
}

-- what holds a text is a token of it
pub is_token : (sender : Sender) (token text : List ℕ) (header : WrapHeader) → IsFormed sender token header → 0 < length (drop 16 token)
    → header.rotation < 2 ^ 16 → header.extra < 2 ^ 16 → header.number < 2 ^ 64
    → Holds sender header (turned_back header.rotation (drop 16 token)) text → IsWrap sender (sealed_bit header.flags == 1) header.number text token
is_token sender token text header formed some rotation_fits extra_fits fits holds =
    let body : List ℕ = turned_back header.rotation (drop 16 token) in
    let again = rotated_again header.rotation (drop 16 token) some in
    by_kind header.flags (λ is_sealed. HasFlags sender is_sealed header.flags → IsWrap sender is_sealed header.number text token)
    (λ is has.
    let o = holds.if_sealed is in
    record {
      flags = header.flags;
      has_flags = has;
      fits = fits;
      rotation = header.rotation;
      rotation_fits = rotation_fits;
      filler = o.filler;
      filler_fits = subst (λ (n : ℕ). n < 2 ^ 16) (sym o.size) extra_fits;
      body = body;
      opens = subst (λ (n : ℕ). Opens (profile_of sender.key) sender.key.bytes (seal_usage sender.side) body (text ++ (o.filler ++ wrap_header header.flags n 0 header.number))) (sym o.size) o.opens;
      whole = formed.whole ∙ ap₂ (λ (n : ℕ) (t : List ℕ). wrap_header header.flags n header.rotation header.number ++ t) (sym o.size) (sym again);
    })
    (λ is has.
    let whole = holds.if_plain is in
    record {
      flags = header.flags;
      has_flags = has;
      fits = fits;
      rotation = header.rotation;
      rotation_fits = rotation_fits;
      whole = formed.whole ∙ ap₂ (λ (n : ℕ) (t : List ℕ). wrap_header header.flags n header.rotation header.number ++ t) (formed.has_room.if_plain is).0
          (sym again ∙ ap (λ (t : List ℕ). rotated header.rotation t) whole);
    }) formed.has_flags

record SameHeader (flags extra rotation number flags' extra' rotation' number' : ℕ) (after after' : List ℕ) : Type 0 where
  pub flags_same : flags ≡ flags'
  pub extra_same : extra ≡ extra'
  pub rotation_same : rotation ≡ rotation'
  pub number_same : number ≡ number'
  pub after_same : after ≡ after'

same_header : (flags extra rotation number flags' extra' rotation' number' : ℕ) (after after' : List ℕ)
    → extra < 2 ^ 16 → rotation < 2 ^ 16 → number < 2 ^ 64 → extra' < 2 ^ 16 → rotation' < 2 ^ 16 → number' < 2 ^ 64
    → wrap_header flags extra rotation number ++ after ≡ wrap_header flags' extra' rotation' number' ++ after'
    → SameHeader flags extra rotation number flags' extra' rotation' number' after after'
same_header flags extra rotation number flags' extra' rotation' number' after after' e r n e' r' n' is = record {
  flags_same = ap (λ (t : List ℕ). get_or t 2 0) is;
  extra_same = sym (from_be_bytes-to_be_bytes_2 extra e) ∙ ap (λ (t : List ℕ). from_be_bytes w16 (get_or t 4 0 ∷ get_or t 5 0 ∷ [])) is ∙ from_be_bytes-to_be_bytes_2 extra' e';
  rotation_same = sym (from_be_bytes-to_be_bytes_2 rotation r) ∙ ap (λ (t : List ℕ). from_be_bytes w16 (get_or t 6 0 ∷ get_or t 7 0 ∷ [])) is ∙ from_be_bytes-to_be_bytes_2 rotation' r';
  number_same = sym (from_be_bytes-to_be_bytes_8 number n) ∙ ap (λ (t : List ℕ). from_be_bytes w64 (take 8 (drop 8 t))) is ∙ from_be_bytes-to_be_bytes_8 number' n';
  after_same = ap (λ (t : List ℕ). drop 16 t) is;
}

-- what a reader finds in a sender's token
pub record Found (sender : Sender) (token text : List ℕ) (header : WrapHeader) (is_sealed : Bool) (number : ℕ) : Type 0 where
  pub kind : (sealed_bit header.flags == 1) ≡ is_sealed
  pub number_is : header.number ≡ number
  pub holds : Holds sender header (turned_back header.rotation (drop 16 token)) text

find_sealed : (sender : Sender) (token text : List ℕ) (header : WrapHeader) (number : ℕ) → IsFormed sender token header
    → header.rotation < 2 ^ 16 → header.extra < 2 ^ 16 → header.number < 2 ^ 64 → IsSealed sender number text token → Found sender token text header true number
find_sealed sender token text header number formed rotation_fits extra_fits fits w =
    let same = same_header header.flags header.extra header.rotation header.number w.flags (length w.filler) w.rotation number _ _ extra_fits rotation_fits fits w.filler_fits w.rotation_fits w.fits
    (sym formed.whole ∙ w.whole) in
    let b = bits sender true w.flags w.has_flags in
    let bit : sealed_bit header.flags ≡ 1 = ap (λ (f : ℕ). sealed_bit f) same.flags_same ∙ b.1 in
    let inner : List ℕ = wrap_header w.flags (length w.filler) 0 number in
    let some : 0 < length w.body = omega (arith, length-sealed_body sender w.body (text ++ (w.filler ++ inner)) w.opens) in
    let body : turned_back header.rotation (drop 16 token) ≡ w.body =
    ap₂ (λ (r : ℕ) (t : List ℕ). turned_back r t) same.rotation_same same.after_same ∙ back_again w.rotation w.body some in
    record {
      kind = eq-eqb (sealed_bit header.flags) 1 bit;
      number_is = same.number_same;
      holds = record {
        if_sealed = λ _. record {
          filler = w.filler;
          size = sym same.extra_same;
          opens = subst (λ (t : List ℕ). Opens (profile_of sender.key) sender.key.bytes (seal_usage sender.side) t (text ++ (w.filler ++ wrap_header header.flags header.extra 0 header.number))) (sym body)
              (subst (λ (h : List ℕ). Opens (profile_of sender.key) sender.key.bytes (seal_usage sender.side) w.body (text ++ (w.filler ++ h)))
              (sym (ap₂ (λ (f e : ℕ). wrap_header f e 0 header.number) same.flags_same same.extra_same ∙ ap (λ (n : ℕ). wrap_header w.flags (length w.filler) 0 n) same.number_same)) w.opens);
        };
        if_plain = λ is. absurd (omega (arith, is, bit));
      };
    }

find_plain : (sender : Sender) (token text : List ℕ) (header : WrapHeader) (number : ℕ) → IsFormed sender token header
    → header.rotation < 2 ^ 16 → header.extra < 2 ^ 16 → header.number < 2 ^ 64 → IsInPlain sender number text token → Found sender token text header false number
find_plain sender token text header number formed rotation_fits extra_fits fits w =
    let p = profile_of sender.key in
    let tag = tag_lens p (known_profile sender.key) in
    let same = same_header header.flags header.extra header.rotation header.number w.flags p.tag_len w.rotation number _ _ extra_fits rotation_fits fits (omega (arith, tag.1)) w.rotation_fits w.fits
    (sym formed.whole ∙ w.whole) in
    let b = bits sender false w.flags w.has_flags in
    let bit : sealed_bit header.flags ≡ 0 = ap (λ (f : ℕ). sealed_bit f) same.flags_same ∙ b.1 in
    let sum : List ℕ = wrap_checksum sender w.flags number text in
    let some : 0 < length (text ++ sum) = omega (arith, length-append text sum, length-checksum_of p sender.key.bytes (seal_usage sender.side) (text ++ wrap_header w.flags 0 0 number) (known_profile sender.key), tag.0) in
    let body : turned_back header.rotation (drop 16 token) ≡ text ++ sum =
    ap₂ (λ (r : ℕ) (t : List ℕ). turned_back r t) same.rotation_same same.after_same ∙ back_again w.rotation (text ++ sum) some in
    record {
      kind = ne_eqb (sealed_bit header.flags) 1 (λ is. absurd (omega (arith, is, bit)));
      number_is = same.number_same;
      holds = record {
        if_sealed = λ is. absurd (omega (arith, is, bit));
        if_plain = λ _. body ∙ sym (ap₂ (λ (f n : ℕ). text ++ wrap_checksum sender f n text) same.flags_same same.number_same);
      };
    }

pub find : (sender : Sender) (token text : List ℕ) (header : WrapHeader) (is_sealed : Bool) (number : ℕ) → IsFormed sender token header
    → header.rotation < 2 ^ 16 → header.extra < 2 ^ 16 → header.number < 2 ^ 64 → IsWrap sender is_sealed number text token → Found sender token text header is_sealed number
find sender token text header true number formed r e n w = find_sealed sender token text header number formed r e n w
find sender token text header false number formed r e n w = find_plain sender token text header number formed r e n w

-- a beginning, by what comes after it
same_front : (a b x y : List ℕ) → length x ≡ length y → a ++ x ≡ b ++ y → a ≡ b
same_front a b x y size is =
    let lengths : length a ≡ length b = omega (arith, ap length is, length-append a x, length-append b y, size) in
    sym (take-append_seam a x) ∙ ap₂ (λ (n : ℕ) (t : List ℕ). take n t) lengths is ∙ take-append_seam b y

-- one body holds one text
pub one_text : (sender : Sender) (header : WrapHeader) (body a b : List ℕ) → Holds sender header body a → Holds sender header body b → a ≡ b
one_text sender header body a b x y =
    let p = profile_of sender.key in
    by_kind header.flags (λ _. a ≡ b)
    (λ is.
    let one = x.if_sealed is in
    let other = y.if_sealed is in
    let inner : List ℕ = wrap_header header.flags header.extra 0 header.number in
    same_front a b (one.filler ++ inner) (other.filler ++ inner) (omega (arith, length-append one.filler inner, length-append other.filler inner, one.size, other.size))
    (one_plain p sender.key.bytes (seal_usage sender.side) body (a ++ (one.filler ++ inner)) (b ++ (other.filler ++ inner)) (known_profile sender.key) one.opens other.opens))
    (λ is. same_front a b _ _
    (length-checksum_of p sender.key.bytes _ _ (known_profile sender.key) ∙ sym (length-checksum_of p sender.key.bytes _ _ (known_profile sender.key)))
    (sym (x.if_plain is) ∙ y.if_plain is))
