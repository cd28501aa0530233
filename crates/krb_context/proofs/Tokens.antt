-- What two tokens have in common that are of the same bytes.
use Rattle.std.proofs.Common.{◌≡◌, ◌∙◌, ℕ, List, ◌++◌, Bool, true, false, length, take, drop, get_or, sym, ap, subst, arith}
use Rattle.std.specs.Prelude.{◌==◌}
use Rattle.std.specs.Int.{w64, from_be_bytes}
use Rattle.std.proofs.lemmas.List.{length-drop}
use Rattle.std.proofs.lemmas.Bool.{eq-eqb, ne_eqb}
use Rattle.std.proofs.lemmas.Nat.{from_be_bytes-to_be_bytes_8}
use Rattle.krb_context.specs.Side.{Sender, HasFlags, peer_sender, peer_of, sender_flag}
use Rattle.krb_context.specs.Mic.{IsMic}
use Rattle.krb_context.specs.Wrap.{IsWrap, wrap_header}
use Rattle.krb_context.specs.Faults.{HasRoom, HasWrapForm, IsMicFault, IsWrapFault, sealed_bit, sender_bit}
use Rattle.krb_context.specs.Inner.Forms.{IsFormed}
use Rattle.krb_context.specs.declared.role.Role.{Role}
use Rattle.krb_context.specs.declared.role.Role.TheVariants.{Initiator, Acceptor}
use Rattle.krb_context.specs.declared.header.WrapHeader.{WrapHeader}
use Rattle.krb_context.specs.declared.fault.MessageFault.TheVariants.{Direction}
use Rattle.krb_context.proofs.Wraps.{bits, sealed_form, plain_form}
use Rattle.krb_context.proofs.Unwraps.{find, one_text}

-- the form of a token, and its flags
record Formed (sender : Sender) (is_sealed : Bool) (token : List ℕ) : Type 0 where
  pub flags : ℕ
  pub has_flags : HasFlags sender is_sealed flags
  pub form : HasWrapForm sender token flags

formed : (sender : Sender) (is_sealed : Bool) (number : ℕ) (text token : List ℕ) → IsWrap sender is_sealed number text token → Formed sender is_sealed token
formed sender true number text token w = record { flags = w.flags; has_flags = w.has_flags; form = sealed_form sender number text token w }
formed sender false number text token w = record { flags = w.flags; has_flags = w.has_flags; form = plain_form sender number text token w }

sealed_by : (sender : Sender) (is_sealed : Bool) (flags : ℕ) → HasFlags sender is_sealed flags → (sealed_bit flags == 1) ≡ is_sealed
sealed_by sender true flags has = eq-eqb (sealed_bit flags) 1 (bits sender true flags has).1
sealed_by sender false flags has = ne_eqb (sealed_bit flags) 1 (λ is. absurd (omega (arith, is, (bits sender false flags has).1)))

is_formed : (sender : Sender) (is_sealed : Bool) (token : List ℕ) (f : Formed sender is_sealed token)
    → IsFormed sender token (record { flags = f.flags; extra = f.form.extra; rotation = f.form.rotation; number = f.form.number })
is_formed sender is_sealed token f =
    let after : drop 16 token ≡ f.form.after = ap (λ (t : List ℕ). drop 16 t) f.form.whole in
    record {
      whole = f.form.whole ∙ ap (λ (t : List ℕ). wrap_header f.flags f.form.extra f.form.rotation f.form.number ++ t) (sym after);
      has_flags = subst (λ (b : Bool). HasFlags sender b f.flags) (sym (sealed_by sender is_sealed f.flags f.has_flags)) f.has_flags;
      has_room = subst (λ (n : ℕ). HasRoom sender f.flags f.form.extra n) (sym (ap length after) ∙ length-drop 16 token) f.form.has_room;
    }

-- a token has one text
pub same_wrap : (sender : Sender) (one_sealed other_sealed : Bool) (one other : ℕ) (one_text other_text token : List ℕ)
    → IsWrap sender one_sealed one one_text token → IsWrap sender other_sealed other other_text token
    → (one_sealed ≡ other_sealed) × (one ≡ other) × (one_text ≡ other_text)
same_wrap sender one_sealed other_sealed one other a b token x y =
    let f = formed sender one_sealed one a token x in
    let header : WrapHeader = record { flags = f.flags; extra = f.form.extra; rotation = f.form.rotation; number = f.form.number } in
    let is = is_formed sender one_sealed token f in
    let p = find sender token a header one_sealed one is f.form.rotation_fits f.form.extra_fits f.form.fits x in
    let q = find sender token b header other_sealed other is f.form.rotation_fits f.form.extra_fits f.form.fits y in
    (sym p.kind ∙ q.kind, sym p.number_is ∙ q.number_is, one_text sender header _ a b p.holds q.holds)

-- a MIC token has one number
pub same_mic : (sender : Sender) (one other : ℕ) (one_text other_text token : List ℕ)
    → IsMic sender one one_text token → IsMic sender other other_text token → one ≡ other
same_mic sender one other a b token x y =
    sym (from_be_bytes-to_be_bytes_8 one x.fits) ∙ ap (λ (t : List ℕ). from_be_bytes w64 (take 8 (drop 8 t))) (sym x.whole ∙ y.whole)
    ∙ from_be_bytes-to_be_bytes_8 other y.fits

other_flag : (side : Role) → sender_flag side ≡ sender_flag (peer_of side) → ⊥
other_flag Initiator is = absurd (omega (arith, is))
other_flag Acceptor is = absurd (omega (arith, is))

-- a side refuses what it sent
pub own_mic : (sender : Sender) (number : ℕ) (text other token : List ℕ) → IsMic sender number text token → IsMicFault (peer_sender sender) other token Direction
own_mic sender number text other token mic =
    let b = bits sender false mic.flags mic.has_flags in (
      mic.flags,
      record { number = number; fits = mic.fits; after = _; whole = mic.whole; in_plain = b.1 },
      λ is. other_flag sender.side (sym b.0 ∙ is),
    )

pub own_wrap : (sender : Sender) (is_sealed : Bool) (number : ℕ) (text token : List ℕ) → IsWrap sender is_sealed number text token
    → IsWrapFault (peer_sender sender) token Direction
own_wrap sender is_sealed number text token w =
    let f = formed sender is_sealed number text token w in
    let room = f.form.has_room in (
      f.flags,
      record {
        extra = f.form.extra;
        rotation = f.form.rotation;
        number = f.form.number;
        extra_fits = f.form.extra_fits;
        rotation_fits = f.form.rotation_fits;
        fits = f.form.fits;
        after = f.form.after;
        whole = f.form.whole;
        has_room = record { if_sealed = room.if_sealed; if_plain = room.if_plain };
      },
      λ is. other_flag sender.side (sym (bits sender is_sealed f.flags f.has_flags).0 ∙ is),
    )

pub no_own_mic : (sender : Sender) (number other_number : ℕ) (text other token : List ℕ) → IsMic sender number text token
    → IsMic (peer_sender sender) other_number other token → ⊥
no_own_mic sender number other_number text other token x y =
    other_flag sender.side (sym (bits sender false x.flags x.has_flags).0
    ∙ ap (λ (t : List ℕ). sender_bit (get_or t 2 0)) (sym x.whole ∙ y.whole) ∙ (bits (peer_sender sender) false y.flags y.has_flags).0)

pub no_own_wrap : (sender : Sender) (is_sealed other_sealed : Bool) (number other_number : ℕ) (text other token : List ℕ)
    → IsWrap sender is_sealed number text token → IsWrap (peer_sender sender) other_sealed other_number other token → ⊥
no_own_wrap sender is_sealed other_sealed number other_number text other token x y =
    let f = formed sender is_sealed number text token x in
    let g = formed (peer_sender sender) other_sealed other_number other token y in
    other_flag sender.side (sym (bits sender is_sealed f.flags f.has_flags).0
    ∙ ap (λ (t : List ℕ). sender_bit (get_or t 2 0)) (sym f.form.whole ∙ g.form.whole) ∙ (bits (peer_sender sender) other_sealed g.flags g.has_flags).0)

-- a MIC token begins with 4, and a Wrap token with 5
pub apart : (one other : Sender) (is_sealed : Bool) (one_number other_number : ℕ) (one_text other_text token : List ℕ)
    → IsMic one one_number one_text token → IsWrap other is_sealed other_number other_text token → ⊥
apart one other is_sealed one_number other_number a b token x y =
    let g = formed other is_sealed other_number b token y in
    let is : 4 ≡ 5 = ap (λ (t : List ℕ). get_or t 0 0) (sym x.whole ∙ g.form.whole) in
    absurd (omega (arith, is))
