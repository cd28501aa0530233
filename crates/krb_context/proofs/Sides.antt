-- What a side of a context sends, takes and refuses.
use Rattle.std.proofs.Common.{◌≡◌, ◌∙◌, ◌<◌, ◌≤◌, ◌+◌, ◌-◌, ◌^◌, ℕ, List, ◌++◌, Bool, true, false, length, Option, Some, None, Ok, Err, Result, sym, ap, arith}
use Rattle.std.specs.Prelude.{IfOk, IfErr, IfSome, IsNone, SomeIff, ◌↔◌}
use Rattle.std.proofs.lemmas.List.{length-append}
use Rattle.krb_enc.specs.Key.{profile_of}
use Rattle.krb_enc.specs.Sealed.{sealed}
use Rattle.krb_enc.specs.Written.{IsWritten}
use Rattle.krb_enc.specs.declared.fault.ShortSlice.{ShortSlice}
use Rattle.krb_enc.proofs.KeyLaws.{known_profile, length-sealed}
use Rattle.krb_enc.proofs.Tags.{length-checksum_of}
use Rattle.krb_context.specs.Side.{Sender, flags_of, seal_usage, sign_usage, peer_sender}
use Rattle.krb_context.specs.Mic.{IsMic, mic_header}
use Rattle.krb_context.specs.Wrap.{IsInPlain, IsSealed, IsWrap, wrap_token, wrap_overhead, wrap_header, wrap_checksum}
use Rattle.krb_context.specs.Context.{State, IsSent, IsOutOfOrder, IsWrapRefusal, number_after}
use Rattle.krb_context.specs.declared.fault.SendFault.{SendFault}
use Rattle.krb_context.specs.declared.fault.SendFault.TheVariants.{ShortSlice as TooShort}
use Rattle.krb_context.specs.declared.fault.ReceiveFault.{ReceiveFault}
use Rattle.krb_context.specs.declared.fault.ReceiveFault.TheVariants.{NotAccepted, OutOfOrder}
use Rattle.krb_context.proofs.Rotations.{length-rotated}
use Rattle.krb_context.proofs.Wraps.{tag_lens}

-- how long a Wrap token is
pub length-wrap_token : (sender : Sender) (is_sealed : Bool) (rotation : ℕ) (confounder : List ℕ) (number : ℕ) (text : List ℕ) → length confounder ≡ 16
    → length (wrap_token sender is_sealed rotation confounder number text) ≡ length text + wrap_overhead sender is_sealed
length-wrap_token sender true rotation confounder number text is =
    let p = profile_of sender.key in
    let header : List ℕ = wrap_header (flags_of sender true) 0 0 number in
    let body : List ℕ = sealed p sender.key.bytes (seal_usage sender.side) confounder (text ++ header) in
    let size = length-sealed p sender.key.bytes (seal_usage sender.side) confounder (text ++ header) (known_profile sender.key) is in
    let some : 0 < length body = omega (arith, size) in
    omega (arith, length-rotated rotation body some, size, length-append text header)
length-wrap_token sender false rotation confounder number text is =
    let p = profile_of sender.key in
    let flags : ℕ = flags_of sender false in
    omega (
      arith,
      length-append text (wrap_checksum sender flags number text),
      length-checksum_of p sender.key.bytes (seal_usage sender.side) (text ++ wrap_header flags 0 0 number) (known_profile sender.key),
    )

-- how long a token of a text is
pub length-mic : (sender : Sender) (number : ℕ) (text token : List ℕ) → IsMic sender number text token → length token ≡ 16 + (profile_of sender.key).tag_len
length-mic sender number text token it = omega (
  arith,
  ap (λ (t : List ℕ). length t) it.whole,
  length-checksum_of (profile_of sender.key) sender.key.bytes (sign_usage sender.side) (text ++ mic_header it.flags number) (known_profile sender.key),
)

pub length-plain : (sender : Sender) (number : ℕ) (text token : List ℕ) → IsInPlain sender number text token
    → length token ≡ 16 + length text + (profile_of sender.key).tag_len
length-plain sender number text token it =
    let p = profile_of sender.key in
    let tag : List ℕ = wrap_checksum sender it.flags number text in
    let tag_size : length tag ≡ p.tag_len = length-checksum_of p sender.key.bytes (seal_usage sender.side) (text ++ wrap_header it.flags 0 0 number) (known_profile sender.key) in
    let size = length-append text tag in
    let some : 0 < length (text ++ tag) = omega (arith, size, tag_size, (tag_lens p (known_profile sender.key)).0) in
    omega (arith, ap (λ (t : List ℕ). length t) it.whole, length-rotated it.rotation (text ++ tag) some, size, tag_size)

pub length-sealed_token : (sender : Sender) (number : ℕ) (text token : List ℕ) (it : IsSealed sender number text token)
    → length token ≡ 48 + length text + length it.filler + (profile_of sender.key).tag_len
length-sealed_token sender number text token it =
    let p = profile_of sender.key in
    let header : List ℕ = wrap_header it.flags (length it.filler) 0 number in
    let plain : List ℕ = text ++ (it.filler ++ header) in
    let size : length it.body ≡ 16 + length plain + p.tag_len =
    sym (ap (λ (t : List ℕ). length t) it.opens.sealed_is)
    ∙ length-sealed p sender.key.bytes (seal_usage sender.side) it.opens.confounder plain (known_profile sender.key) it.opens.is_block.size in
    let some : 0 < length it.body = omega (arith, size) in
    omega (
      arith,
      ap (λ (t : List ℕ). length t) it.whole,
      length-rotated it.rotation it.body some,
      size,
      length-append text (it.filler ++ header),
      length-append it.filler header,
    )

-- the length of the longest text, by what a subtraction gives
pub limit_fits : (sender : Sender) (is_sealed : Bool) (rotation size overhead : ℕ) (limit : Option ℕ) → overhead ≡ wrap_overhead sender is_sealed
    → SomeIff limit (overhead ≤ size) (size - overhead)
    → IfSome limit (λ most. (confounder text : List ℕ) (number : ℕ) → length confounder ≡ 16
    → (length (wrap_token sender is_sealed rotation confounder number text) ≤ size) ↔ (length text ≤ most))
limit_fits sender is_sealed rotation size overhead None is it = tt
limit_fits sender is_sealed rotation size overhead (Some most) is it = λ confounder text number block.
    let len = length-wrap_token sender is_sealed rotation confounder number text block in
    (λ fits. omega (arith, it.0, it.1, fits, len, is), λ short. omega (arith, it.0, it.1, short, len, is))

pub limit_none : (sender : Sender) (is_sealed : Bool) (rotation size overhead : ℕ) (limit : Option ℕ) → overhead ≡ wrap_overhead sender is_sealed
    → SomeIff limit (overhead ≤ size) (size - overhead) → IsNone limit → (confounder text : List ℕ) (number : ℕ) → length confounder ≡ 16
    → size < length (wrap_token sender is_sealed rotation confounder number text)
limit_none sender is_sealed rotation size overhead None is it none confounder text number block =
    omega (arith, it, is, length-wrap_token sender is_sealed rotation confounder number text block)
limit_none sender is_sealed rotation size overhead (Some most) is it none confounder text number block = absurd cc

-- the same, with the fault of a side
written_or_short : (bytes before after : List ℕ) (made : Result ℕ ShortSlice) (result : Result ℕ SendFault)
    → IsWritten ShortSlice (λ needed. record { needed = needed }) bytes before after made
    → IfOk made (λ size. result ≡ Ok size) → IfErr made (λ short. result ≡ Err (TooShort short.needed))
    → IsWritten SendFault TooShort bytes before after result
written_or_short bytes before after (Ok size) result w ok err = record {
  fits = λ fits. (cc (ok, (w.fits fits).0), (w.fits fits).1);
  short = λ less. absurd (cc (w.short less).0);
}
written_or_short bytes before after (Err short) result w ok err = record {
  fits = λ fits. absurd (cc (w.fits fits).0);
  short = λ less. (err ∙ ap (λ (s : ShortSlice). Err (TooShort s.needed)) (cc (w.short less).0), (w.short less).1);
}

-- what a side sent, by what it wrote
pub sent : (token_of : State → ℕ → List ℕ) (inside old new : State) (number : ℕ) (before after : List ℕ) (made : Result ℕ ShortSlice) (result : Result ℕ SendFault)
    → inside ≡ old → inside.next ≡ Some number → IsWritten ShortSlice (λ needed. record { needed = needed }) (token_of inside number) before after made
    → IfOk made (λ size. (result ≡ Ok size) × (new ≡ record old { next = number_after number }))
    → IfErr made (λ short. (result ≡ Err (TooShort short.needed)) × (new ≡ old))
    → number < 2 ^ 64 → inside.options.rotation < 2 ^ 16 → IsSent (token_of old) old new before after result
sent token_of inside old new number before after (Ok size) result view_is next w ok err fits rotation_fits =
    let is : old.next ≡ Some number = rw view_is at next in
    record {
      written = λ other same. let e : other ≡ number = cc is in rw e (written_or_short (token_of old number) before after (Ok size) result (rw view_is at w) ok.0 tt);
      counted = λ other same _. let e : other ≡ number = cc is in rw e ok.1;
      used_up = λ none. absurd (cc is);
      stays = λ failed. absurd (cc ok.0);
      fits = λ other same. let e : other ≡ number = cc is in rw e fits;
      rotation_fits = rw view_is at rotation_fits;
    }
sent token_of inside old new number before after (Err short) result view_is next w ok err fits rotation_fits =
    let is : old.next ≡ Some number = rw view_is at next in
    record {
      written = λ other same. let e : other ≡ number = cc is in rw e (written_or_short (token_of old number) before after (Err short) result (rw view_is at w) tt err.0);
      counted = λ other same good. absurd (cc err.0);
      used_up = λ none. absurd (cc is);
      stays = λ _. err.1;
      fits = λ other same. let e : other ≡ number = cc is in rw e fits;
      rotation_fits = rw view_is at rotation_fits;
    }

pub not_next_wrap : (state : State) (is_sealed : Bool) (number : ℕ) (text token : List ℕ) → IsWrap (peer_sender state.sender) is_sealed number text token
    → (fault : ReceiveFault) → IsOutOfOrder state number fault → IsWrapRefusal state token fault
not_next_wrap state is_sealed number text token wrap (NotAccepted fault) it = absurd it
not_next_wrap state is_sealed number text token wrap (OutOfOrder order) it = (is_sealed, number, text, wrap, it)
