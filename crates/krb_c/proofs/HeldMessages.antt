-- What a call does with the messages that a handle holds.
use Rattle.std.proofs.Common.{◌≡◌, ◌∙◌, ℕ, List, Bool, ap, inl, inr, subst, sym}
use Rattle.std.specs.Prelude.{◌⊎◌, Option, Some, Result}
use Rattle.krb_context.specs.Context.{IsSent, State}
use Rattle.krb_context.specs.Mic.{mic_token}
use Rattle.krb_context.specs.Wrap.{wrap_token}
use Rattle.krb_context.specs.declared.fault.SendFault.{SendFault}
use Rattle.krb_ap.specs.declared.accepted.Accepted.{Accepted}
use Rattle.krb_c.specs.Answer.{plain}
use Rattle.krb_c.specs.Codes.{ok, out_of_memory}
use Rattle.krb_c.specs.Messages.{Begins, BeginsFor, BeginsIn, SendsMic, SendsWrap, begun, no_memory, options_for, send_answer}
use Rattle.krb_c.specs.Known.{key_bytes}
use Rattle.krb_c.specs.declared.structs.Answer.{Answer}
use Rattle.krb_c.specs.declared.structs.Choice.{Choice}
use Rattle.krb_c.specs.declared.structs.MessageOptions.{MessageOptions}

pub begins_in : (has_sent : Bool) (options : MessageOptions) (session client service : List ℕ) (old new : Option State) (state : State) (answer : Answer)
    → Begins has_sent options session client service state
    → ((answer ≡ plain ok) × (new ≡ Some state)) ⊎ ((answer ≡ plain out_of_memory) × (new ≡ old))
    → BeginsIn has_sent options session client service old new answer
begins_in has_sent options session client service old new state answer begins (inl kept) = begun state begins kept.1 kept.0
begins_in has_sent options session client service old new state answer begins (inr lost) = no_memory state begins lost.1 lost.0

pub sends_mic : (text : List ℕ) (old after : Option State) (state held new : State) (was is : List ℕ) (said : Result ℕ SendFault) (answer : Answer)
    → old ≡ Some state → held ≡ state → after ≡ Some new → answer ≡ send_answer said
    → IsSent (λ number. mic_token held.sender number text) held new was is said → SendsMic text old after was is answer
sends_mic text old after state held new was is said answer old_is held_is after_is answer_is sent =
    let by = subst (λ (it : State). IsSent (λ number. mic_token it.sender number text) it new was is said) held_is sent in
    subst (λ (it : Option State). SendsMic text it after was is answer) (sym old_is)
    (record { new = new; said = said; sent = by; after_is = after_is; answer_is = answer_is })

pub sends_wrap : (is_sealed : Bool) (confounder given text : List ℕ) (old after : Option State) (state held new : State) (was is : List ℕ)
    (said : Result ℕ SendFault) (answer : Answer) → given ≡ confounder → old ≡ Some state → held ≡ state → after ≡ Some new → answer ≡ send_answer said
    → IsSent (λ number. wrap_token held.sender is_sealed held.options.rotation given number text) held new was is said
    → SendsWrap is_sealed confounder text old after was is answer
sends_wrap is_sealed confounder given text old after state held new was is said answer given_is old_is held_is after_is answer_is sent =
    let with = subst (λ (it : List ℕ). IsSent (λ number. wrap_token held.sender is_sealed held.options.rotation it number text) held new was is said) given_is sent in
    let by = subst (λ (it : State). IsSent (λ number. wrap_token it.sender is_sealed it.options.rotation confounder number text) it new was is said) held_is with in
    subst (λ (it : Option State). SendsWrap is_sealed confounder text it after was is answer) (sym old_is)
    (record { new = new; said = said; sent = by; after_is = after_is; answer_is = answer_is })

-- what holds of the state that was taken out of a handle, and of the one that is put back, holds of the handle
pub of_held : (P : Option State → Type 0) (old : Option State) (state held : State) → old ≡ Some state → held ≡ state → P (Some held) → P old
of_held P old state held old_is held_is holds = subst P (ap Some held_is ∙ sym old_is) holds

pub of_both : (P : Option State → Option State → Type 0) (old after : Option State) (state held new : State) → old ≡ Some state → held ≡ state
    → after ≡ Some new → P (Some held) (Some new) → P old after
of_both P old after state held new old_is held_is after_is holds =
    of_held (λ it. P it after) old state held old_is held_is (subst (P (Some held)) (sym after_is) holds)

pub begins_for : (kept : Option Accepted) (has_sent : Bool) (accepted : Accepted) (choice : Choice) (subkey : List ℕ) (any_order : Bool) (options : MessageOptions)
    (session client : List ℕ) (old new : Option State) (answer : Answer) → kept ≡ Some accepted → options ≡ options_for accepted choice any_order
    → session ≡ accepted.session_key.bytes → client ≡ key_bytes accepted.subkey → BeginsIn has_sent options session client subkey old new answer
    → BeginsFor kept has_sent choice subkey any_order old new answer
begins_for kept has_sent accepted choice subkey any_order options session client old new answer kept_is options_are session_is client_is begins =
    let one = subst (λ (it : MessageOptions). BeginsIn has_sent it session client subkey old new answer) options_are begins in
    let two = subst (λ (it : List ℕ). BeginsIn has_sent (options_for accepted choice any_order) it client subkey old new answer) session_is one in
    let three = subst (λ (it : List ℕ). BeginsIn has_sent (options_for accepted choice any_order) accepted.session_key.bytes it subkey old new answer) client_is two in
    subst (λ (it : Option Accepted). BeginsFor it has_sent choice subkey any_order old new answer) (sym kept_is) three
