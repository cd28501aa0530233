use Rattle.std.proofs.Common.{◌≡◌, ◌∙◌, ◌++◌, ℕ, List, refl, sym, ap, ap₂, subst, arith, take, drop}
use Rattle.std.proofs.lemmas.Bool.{iff_false}
use Rattle.std.proofs.lemmas.List.{take-append-drop}
use Rattle.std.proofs.lemmas.Result.{err_from_is_err_and}
use Rattle.krb_enc.specs.Key.{profile_of}
use Rattle.krb_enc.specs.Sealed.{checksum_of}
use Rattle.krb_context.specs.Side.{Sender, sign_usage}
use Rattle.krb_context.specs.Mic.{IsMic, mic_header}
use Rattle.krb_context.specs.Inner.Forms.{IsFlagFault}
use Rattle.krb_context.specs.declared.fault.MessageFault.{MessageFault}
use Rattle.krb_context.proofs.Parts.{checksum_under, checksum_back}
use Rattle.krb_context.proofs.Mics.{mic_flag_fault, form_of, flags_known}
use Rattle.krb_context.proofs.mic_keys.Mics.verify_mic.Goals as goal

pub returns-in_default-clause-found : goal.returns-in_default-clause-found
returns-in_default-clause-found c number mic =
    absurd (c.in_default.ensures.none refl mic.flags number mic.fits (c.split_at.ensures.front ∙ ap (take 16) mic.whole))

pub returns-in_default-clause-fault : goal.returns-in_default-clause-fault
returns-in_default-clause-fault c flags form =
    c.in_default.ensures.none refl flags form.number form.fits (c.split_at.ensures.front ∙ ap (take 16) form.whole)

pub returns-in_err-check_flags-clause-fault : goal.returns-in_err-check_flags-clause-fault
returns-in_err-check_flags-clause-fault c =
    let p = err_from_is_err_and c.from_residual.result c.from_residual.ensures.1 in
    let header = c.in-Some.header in
    let form = form_of c.args.token.now c.split_at.result.0.now header.flags header.number c.split_at.ensures.front c.in-Some.ensures.found (omega arith) c.if-header-ne0.false in
    rw p.1 (mic_flag_fault c.args.self.now c.args.text.now c.args.token.now header.flags p.0 form
    (subst (λ (f : MessageFault). IsFlagFault c.args.self.now header.flags f) (sym p.2) c.in_err-check_flags.ensures.fault))

pub returns-then-verify-clause-ok : goal.returns-then-verify-clause-ok
returns-then-verify-clause-ok c =
    let self = c.args.self.now in
    let header = c.in-Some.header in
    let token = c.args.token.now in
    let bits = c.in_ok-check_flags.ensures.ok refl in
    let tag : c.split_at.result.1.now ≡ checksum_of (profile_of self.key) self.key.bytes (sign_usage self.side) (c.args.text.now ++ mic_header header.flags header.number) =
    checksum_under c.self.inside.key _ (sign_usage c.self.inside.side) c.args.text.now c.split_at.result.0.now _ c.split_at.result.1.now (c.verify.ensures.0 c.if-verify.true) c.self.invariant c.in-Some.ensures.found
    ∙ ap (λ (s : Sender). checksum_of (profile_of s.key) s.key.bytes (sign_usage s.side) (c.args.text.now ++ mic_header header.flags header.number)) c.self.view_is in
    record {
      flags = header.flags;
      has_flags = flags_known self header.flags (omega arith) bits.0 c.if-header-ne0.false bits.1;
      fits = omega arith;
      whole = sym (take-append-drop 16 token) ∙ ap₂ (λ (f b : List ℕ). f ++ b) (sym c.split_at.ensures.front ∙ c.in-Some.ensures.found) (sym c.split_at.ensures.back ∙ tag);
    }

-- with the right checksum it is verified
refuted : (c : goal.Else-verify) (number : ℕ) → IsMic c.args.self.now number c.args.text.now c.args.token.now → ⊥
refuted c number mic =
    let text = c.args.text.now in
    let token = c.args.token.now in
    let header : List ℕ = mic_header mic.flags number in
    let front : c.split_at.result.0.now ≡ header = c.split_at.ensures.front ∙ ap (take 16) mic.whole in
    let tag : c.split_at.result.1.now ≡ checksum_of (profile_of c.self.inside.key.key) c.self.inside.key.key.bytes (sign_usage c.self.inside.side) (text ++ header) =
    c.split_at.ensures.back ∙ ap (drop 16) mic.whole
    ∙ ap (λ (s : Sender). checksum_of (profile_of s.key) s.key.bytes (sign_usage s.side) (text ++ header)) (sym c.self.view_is) in
    iff_false c.verify.ensures c.if-verify.false (checksum_back c.self.inside.key _ (sign_usage c.self.inside.side) text c.split_at.result.0.now header _ tag c.self.invariant front)

pub returns-else-verify-clause-found : goal.returns-else-verify-clause-found
returns-else-verify-clause-found c number mic = absurd (refuted c number mic)

pub returns-else-verify-clause-fault : goal.returns-else-verify-clause-fault
returns-else-verify-clause-fault c =
    let self = c.args.self.now in
    let header = c.in-Some.header in
    let bits = c.in_ok-check_flags.ensures.ok refl in (
      header.flags,
      form_of c.args.token.now c.split_at.result.0.now header.flags header.number c.split_at.ensures.front c.in-Some.ensures.found (omega arith) c.if-header-ne0.false,
      flags_known self header.flags (omega arith) bits.0 c.if-header-ne0.false bits.1,
      refuted c,
    )
