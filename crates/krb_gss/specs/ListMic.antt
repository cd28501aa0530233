-- The mechListMIC of a negotiation (RFC 4178, sections 4.2.2 and 5): how it is asked for, how a client's later message holds it, and
-- what a service writes with its own.
use Rattle.std.specs.Prelude.{◌≡◌, ℕ, ◌+◌, ◌≤◌, Bool, true, false, List, [], length, Option, Some, None}
use Rattle.krb_der.specs.Place.{Place, begin_at}
use Rattle.krb_der.specs.Parts.{PlacesOf}
use Rattle.krb_der.specs.Spells.{IsElement, IsJoined, IfPresent, limit}
use Rattle.krb_der.specs.Size.{element_size, size_if}
use Rattle.krb_gss.specs.declared.fault.TokenFault.{TokenFault}
use Rattle.krb_gss.specs.declared.mechanism.Mechanism.{Mechanism}
use Rattle.krb_gss.specs.declared.list_mic.Reply.{Reply}
use Rattle.krb_gss.specs.declared.list_mic.Checked.{Checked}
use Rattle.krb_gss.specs.Module.{later_response, later_response_mic}
use Rattle.krb_gss.specs.Token.{HoldsFields}
use Rattle.krb_gss.specs.Fault.{IsEither, IsMalformed, HoldsFieldsFault, IsTooLong}
use Rattle.krb_gss.specs.Wrapping.{IsState, IsTokenField, IsResponding, token_field_size}

-- ---- what a client sends
abbrev pub of_mic : Place → PlacesOf later_response → Option Place
of_mic fields v = later_response_mic v

abbrev pub rest_if : Option Place → Option (List ℕ)
rest_if None = None
rest_if (Some here) = Some here.rest

-- The bytes are a client's later message, and this is its mechListMIC, if it has one. Its responseToken isn't looked at.
pub record HoldsMic (mic : Option (List ℕ)) (bytes : List ℕ) : Type 0 where
  pub within : length bytes ≤ limit
  pub place : Option Place
  pub fields : HoldsFields 0xa1 later_response of_mic (begin_at bytes) place
  pub mic_is : rest_if place ≡ mic

-- the fault of bytes that aren't such a message
abbrev pub IsMicFault : List ℕ → TokenFault → Type 0
IsMicFault bytes =
    IsEither (λ (here : Place). (length bytes ≤ limit) × (here ≡ begin_at bytes)) (IsTooLong bytes)
    (λ here. IsMalformed (HoldsFieldsFault 0xa1 later_response here))

-- ---- what a service sends
-- request-mic (3): the client is to send its token of this mechanism, and a mechListMIC
abbrev pub WritesRequestMic : Mechanism → List ℕ → Type 0
WritesRequestMic mechanism = IsResponding 3 (Some mechanism) (λ bytes. bytes ≡ [])

-- the responseToken, with a message AP-REP
abbrev pub IsReplyField : Reply → List ℕ → Type 0
IsReplyField reply = IsTokenField 0x02 reply.mechanism reply.message.now

-- the mechListMIC
abbrev pub IsMicField : List ℕ → List ℕ → Type 0
IsMicField mic = IsElement 0xa3 (IsElement 0x04 (λ content. content ≡ mic))

-- negState: accept-completed or accept-incomplete
abbrev pub checked_state : Bool → ℕ
checked_state true = 0
checked_state false = 1

-- a later answer: its negState, the token if there is a reply, and the mechListMIC
abbrev pub WritesChecked : Checked → List ℕ → Type 0
WritesChecked checked =
    IsElement 0xa1
    (IsElement 0x30
    (IsJoined (IsState (checked_state checked.is_completed))
    (IsJoined (IfPresent IsReplyField checked.reply) (IsMicField checked.mic.now))))

-- and how many bytes that is
abbrev pub reply_field_size : Reply → ℕ
reply_field_size reply = token_field_size reply.mechanism (length reply.message.now)

abbrev pub checked_size : Checked → ℕ
checked_size checked =
    element_size
    (element_size
    (element_size (element_size 1)
    + (size_if reply_field_size checked.reply + element_size (element_size (length checked.mic.now)))))
