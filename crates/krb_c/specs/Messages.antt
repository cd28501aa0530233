-- The messages of one side after a login (RFC 4121, sections 2 and 4.2): what it begins with, what it sends, and what it takes.
use Rattle.std.specs.Prelude.{◌≡◌, ◌≢◌, ◌⊎◌, ◌≤◌, ◌<◌, ◌+◌, ◌↔◌, ℕ, ℤ, pos, Bool, true, false, not, if◌then◌else◌, List, length, take, drop, Option, Some, None, Result, Ok, Err}
use Rattle.std.specs.Option.{MatchOption}
use Rattle.krb_enc.specs.Key.{IsUsable, KeyValue}
use Rattle.krb_context.specs.Context.{HasSentFirst, IsBegun, IsMicRefusal, IsOutOfOrder, IsSent, IsWrapRefusal, LeavesToken, State, Takes}
use Rattle.krb_context.specs.Mic.{IsMic, mic_token}
use Rattle.krb_context.specs.Side.{peer_sender}
use Rattle.krb_context.specs.Wrap.{IsWrap, wrap_token}
use Rattle.krb_context.specs.declared.agreed.Agreed.{Agreed}
use Rattle.krb_context.specs.declared.agreed.Options.{Options}
use Rattle.krb_context.specs.declared.context.Opened.{Opened}
use Rattle.krb_context.specs.declared.context.Verified.{Verified}
use Rattle.krb_context.specs.declared.fault.MessageFault.TheVariants.{Defective, Direction, Integrity, OtherKey}
use Rattle.krb_context.specs.declared.fault.ReceiveFault.{ReceiveFault}
use Rattle.krb_context.specs.declared.fault.ReceiveFault.TheVariants.{NotAccepted, OutOfOrder}
use Rattle.krb_context.specs.declared.fault.SendFault.{SendFault}
use Rattle.krb_context.specs.declared.fault.SendFault.TheVariants.{NumbersUsedUp, ShortSlice}
use Rattle.krb_context.specs.declared.order.Order.{Order}
use Rattle.krb_context.specs.declared.order.Order.TheVariants.{AfterGap, Late, Next, Old, Repeat}
use Rattle.krb_context.specs.declared.role.Role.{Role}
use Rattle.krb_context.specs.declared.role.Role.TheVariants.{Acceptor, Initiator}
use Rattle.krb_ap.specs.declared.accepted.Accepted.{Accepted}
use Rattle.krb_c.specs.Answer.{plain, sized}
use Rattle.krb_c.specs.Choice.{IsChosen, IsConfounderFault, IsKeyFault, key_value, seq_of}
use Rattle.krb_c.specs.Codes.{bad_role, empty_handle, message_defective, message_direction, message_gap, message_integrity, message_old, message_other_key, message_repeat, nothing_there, numbers_used_up, ok, out_of_memory, short_buffer, too_long}
use Rattle.krb_c.specs.Known.{key_bytes, key_type, number_or_zero}
use Rattle.krb_c.specs.declared.accepted_state.AcceptedState.{AcceptedState}
use Rattle.krb_c.specs.declared.structs.Answer.{Answer}
use Rattle.krb_c.specs.declared.structs.Choice.{Choice}
use Rattle.krb_c.specs.declared.structs.MessageOptions.{MessageOptions}
use Rattle.krb_c.specs.declared.structs.Received.{Received}
use Rattle.krb_c.specs.declared.structs.Span.{Span}

-- ---- a side begins
abbrev pub IsRole : ℕ → Role → Type 0
IsRole number Initiator = number ≡ 1
IsRole number Acceptor = number ≡ 2

-- what both sides agreed on; a subkey of type 0 is none
pub record Agrees (options : MessageOptions) (session client service : List ℕ) (agreed : Agreed) : Type 0 where
  pub session_key : agreed.session_key ≡ key_value options.session_type session
  pub usable : IsUsable (key_value options.session_type session)
  pub client_subkey : IsChosen options.client_subkey_type client agreed.initiator_subkey
  pub service_subkey : IsChosen options.service_subkey_type service agreed.acceptor_subkey
  pub client_number : agreed.initiator_number ≡ options.client_seq
  pub service_number : agreed.acceptor_number ≡ options.service_seq

abbrev pub options_of : MessageOptions → Options
options_of options = record { rotation = options.rotation; is_in_order = not options.any_order; refuses_repeats = not options.repeats }

-- A side has sent and taken nothing; or each side has sent its first message, the MIC of the client's list of mechanisms (RFC 4178, section 5).
abbrev pub StandsAt : Bool → Agreed → Role → State → Type 0
StandsAt true = HasSentFirst
StandsAt false = IsBegun

-- a side of what both agreed on, before or after its first message
pub record Begins (has_sent : Bool) (options : MessageOptions) (session client service : List ℕ) (state : State) : Type 0 where
  pub role : Role
  pub agreed : Agreed
  pub role_is : IsRole options.role role
  pub agrees : Agrees options session client service agreed
  pub options_are : state.options ≡ options_of options
  pub stands : StandsAt has_sent agreed role state

-- a type and bytes are a key, or the type is 0
abbrev pub IsKeyOrNone : ℤ → List ℕ → Type 0
IsKeyOrNone etype bytes = (key : Option KeyValue) × IsChosen etype bytes key

-- Why no side begins: the first that applies.
pub data IsUnbegun (options : MessageOptions) (session client service : List ℕ) (answer : Answer) : Type 0 where
  no_role : ((role : Role) → ¬ IsRole options.role role) → answer ≡ plain bad_role → IsUnbegun options session client service answer
  no_session_key : (role : Role) → IsRole options.role role → IsKeyFault options.session_type session answer → IsUnbegun options session client service answer
  no_client_subkey : (role : Role) → IsRole options.role role → IsUsable (key_value options.session_type session)
      → options.client_subkey_type ≢ pos 0 → IsKeyFault options.client_subkey_type client answer → IsUnbegun options session client service answer
  no_service_subkey : (role : Role) → IsRole options.role role → IsUsable (key_value options.session_type session) → IsKeyOrNone options.client_subkey_type client
      → options.service_subkey_type ≢ pos 0 → IsKeyFault options.service_subkey_type service answer → IsUnbegun options session client service answer

-- A handle holds a side that begins; or it holds what it held, if there is none or no memory for it.
pub data BeginsIn (has_sent : Bool) (options : MessageOptions) (session client service : List ℕ) (old new : Option State) (answer : Answer) : Type 0 where
  begun : (state : State) → Begins has_sent options session client service state → new ≡ Some state → answer ≡ plain ok
      → BeginsIn has_sent options session client service old new answer
  unbegun : IsUnbegun options session client service answer → new ≡ old → BeginsIn has_sent options session client service old new answer
  no_memory : (state : State) → Begins has_sent options session client service state → new ≡ old → answer ≡ plain out_of_memory
      → BeginsIn has_sent options session client service old new answer

-- ---- a service begins, for a client that was let in
-- the service's first number: that of its reply, if it has one, and without a reply the client's, as MIT krb5 has it
abbrev pub service_number : Accepted → Choice → ℕ
service_number accepted choice = if accepted.mutual then number_or_zero (seq_of choice) else number_or_zero accepted.seq

abbrev pub options_for : Accepted → Choice → Bool → MessageOptions
options_for accepted choice any_order = record {
  role = 2;
  session_type = accepted.session_key.etype;
  client_subkey_type = key_type accepted.subkey;
  service_subkey_type = if accepted.mutual then choice.subkey_type else pos 0;
  client_seq = number_or_zero accepted.seq;
  service_seq = service_number accepted choice;
  rotation = 0;
  any_order = any_order;
  repeats = false;
}

abbrev pub BeginsFor : Option Accepted → Bool → Choice → List ℕ → Bool → Option State → Option State → Answer → Type 0
BeginsFor None has_sent choice subkey any_order old new answer = (answer ≡ plain nothing_there) × (new ≡ old)
BeginsFor (Some accepted) has_sent choice subkey any_order old new answer =
    BeginsIn has_sent (options_for accepted choice any_order) accepted.session_key.bytes (key_bytes accepted.subkey) subkey old new answer

-- how many messages each side has sent in the login of an accepted request
abbrev pub CountsSent : AcceptedState → Answer → Type 0
CountsSent kept answer = MatchOption kept.accepted (answer ≡ plain nothing_there) (λ _. answer ≡ sized ok (if kept.has_sent then 1 else 0))

-- ---- a side sends
abbrev pub send_answer : Result ℕ SendFault → Answer
send_answer (Ok size) = sized ok size
send_answer (Err (ShortSlice needed)) = sized short_buffer needed
send_answer (Err NumbersUsedUp) = plain numbers_used_up

-- The token with the side's next number is at the start of the buffer, and its size is returned; or the reason is reported, and nothing changes.
pub record Sends (token_of : ℕ → List ℕ) (old : State) (after : Option State) (was is : List ℕ) (answer : Answer) : Type 0 where
  pub new : State
  pub said : Result ℕ SendFault
  pub sent : IsSent token_of old new was is said
  pub after_is : after ≡ Some new
  pub answer_is : answer ≡ send_answer said

abbrev pub SendsMic : List ℕ → Option State → Option State → List ℕ → List ℕ → Answer → Type 0
SendsMic text None after was is answer = (after ≡ None) × ((is ≡ was) × (answer ≡ plain empty_handle))
SendsMic text (Some old) after was is answer = Sends (λ number. mic_token old.sender number text) old after was is answer

abbrev pub SendsWrap : Bool → List ℕ → List ℕ → Option State → Option State → List ℕ → List ℕ → Answer → Type 0
SendsWrap is_sealed confounder text None after was is answer = (after ≡ None) × ((is ≡ was) × (answer ≡ plain empty_handle))
SendsWrap is_sealed confounder text (Some old) after was is answer =
    Sends (λ number. wrap_token old.sender is_sealed old.options.rotation confounder number text) old after was is answer

-- a confounder isn't 16 bytes long, or a Wrap token is sent
abbrev pub Wraps : Bool → List ℕ → List ℕ → Option State → Option State → List ℕ → List ℕ → Answer → Type 0
Wraps is_sealed confounder text old after was is answer =
    (IsConfounderFault confounder answer × ((after ≡ old) × (is ≡ was)))
    ⊎ ((length confounder ≡ 16) × SendsWrap is_sealed confounder text old after was is answer)

-- how long a text may be so that its token has at most so many bytes
pub data Limits (is_sealed : Bool) (size : ℕ) (state : State) (answer : Answer) : Type 0 where
  limited : (limit : ℕ)
      → ((confounder text : List ℕ) (number : ℕ) → length confounder ≡ 16
      → (length (wrap_token state.sender is_sealed state.options.rotation confounder number text) ≤ size) ↔ (length text ≤ limit))
      → answer ≡ sized ok limit → Limits is_sealed size state answer
  unlimited : ((confounder text : List ℕ) (number : ℕ) → length confounder ≡ 16
      → size < length (wrap_token state.sender is_sealed state.options.rotation confounder number text))
      → answer ≡ plain too_long → Limits is_sealed size state answer

abbrev pub LimitsIn : Bool → ℕ → Option State → Answer → Type 0
LimitsIn is_sealed size None answer = answer ≡ plain empty_handle
LimitsIn is_sealed size (Some state) answer = Limits is_sealed size state answer

-- ---- a side takes
abbrev pub order_number : Order → ℕ
order_number Next = 0
order_number AfterGap = 1
order_number Late = 2
order_number Repeat = 3
order_number Old = 4

-- why a token isn't taken (one that is the next, or late, is never refused for its order: who takes only the next one has taken all before it)
abbrev pub receive_code : ReceiveFault → ℕ
receive_code (NotAccepted Defective) = message_defective
receive_code (NotAccepted Direction) = message_direction
receive_code (NotAccepted OtherKey) = message_other_key
receive_code (NotAccepted Integrity) = message_integrity
receive_code (OutOfOrder Repeat) = message_repeat
receive_code (OutOfOrder Old) = message_old
receive_code (OutOfOrder order) = message_gap

abbrev pub no_span : Span
no_span = record { at = 0; size = 0 }

abbrev pub verified_as : Verified → Received
verified_as it = record { number = it.number; text = no_span; order = order_number it.order; sealed = false }

abbrev pub opened_as : Opened → Received
opened_as it = record {
  number = it.text.number;
  text = record { at = it.text.start; size = it.text.len };
  order = order_number it.order;
  sealed = it.text.is_sealed;
}

-- The other side's MIC token of the text is taken; or the reason is reported, and nothing changes.
pub data TakesMic (text token : List ℕ) (old : State) (after : Option State) (was is : Received) (answer : Answer) : Type 0 where
  verified : (new : State) (it : Verified) → IsMic (peer_sender old.sender) it.number text token → Takes old it.number it.order new
      → after ≡ Some new → is ≡ verified_as it → answer ≡ plain ok → TakesMic text token old after was is answer
  not_verified : (fault : ReceiveFault) → IsMicRefusal old text token fault → after ≡ Some old → is ≡ was → answer ≡ plain (receive_code fault)
      → TakesMic text token old after was is answer

abbrev pub Verifies : List ℕ → List ℕ → Option State → Option State → Received → Received → Answer → Type 0
Verifies text token None after was is answer = (after ≡ None) × ((is ≡ was) × (answer ≡ plain empty_handle))
Verifies text token (Some old) after was is answer = TakesMic text token old after was is answer

-- what is the other side's with this number is taken as such, unless the side takes messages in order and it isn't the next one
abbrev pub IsFound : State → ℕ → Received → Answer → Type 0
IsFound side number is answer =
    ((answer ≡ plain ok) × (is.number ≡ number))
    ⊎ ((fault : ReceiveFault) × (IsOutOfOrder side number fault × (answer ≡ plain (receive_code fault))))

abbrev pub FindsMic : List ℕ → List ℕ → Option State → Received → Answer → Type 0
FindsMic text token None is answer = Unit {0}
FindsMic text token (Some old) is answer = (number : ℕ) → IsMic (peer_sender old.sender) number text token → IsFound old number is answer

-- what stands at the place of the text
abbrev pub text_at : Received → List ℕ → List ℕ
text_at received token = take received.text.size (drop received.text.at token)

-- where the text of a Wrap token stands: after the header, and the confounder if it was sealed
abbrev pub start_of : Bool → ℕ
start_of is_sealed = if is_sealed then 32 else 16

-- The other side's Wrap token is opened in place and taken; or the reason is reported, and the side is unchanged.
pub data TakesWrap (before token : List ℕ) (old : State) (after : Option State) (was is : Received) (answer : Answer) : Type 0 where
  unwrapped : (new : State) (it : Opened) → IsWrap (peer_sender old.sender) it.text.is_sealed it.text.number (text_at (opened_as it) token) before
      → it.text.start ≡ start_of it.text.is_sealed → it.text.start + it.text.len ≤ length token → length token ≡ length before
      → take 16 token ≡ take 16 before → Takes old it.text.number it.order new
      → after ≡ Some new → is ≡ opened_as it → answer ≡ plain ok → TakesWrap before token old after was is answer
  not_unwrapped : (fault : ReceiveFault) → IsWrapRefusal old before fault → LeavesToken fault before token → after ≡ Some old → is ≡ was
      → answer ≡ plain (receive_code fault) → TakesWrap before token old after was is answer

abbrev pub Unwraps : List ℕ → List ℕ → Option State → Option State → Received → Received → Answer → Type 0
Unwraps before token None after was is answer = (after ≡ None) × ((token ≡ before) × ((is ≡ was) × (answer ≡ plain empty_handle)))
Unwraps before token (Some old) after was is answer = TakesWrap before token old after was is answer

abbrev pub FindsWrap : List ℕ → List ℕ → Option State → Received → Answer → Type 0
FindsWrap before token None is answer = Unit {0}
FindsWrap before token (Some old) is answer = (is_sealed : Bool) (number : ℕ) (text : List ℕ)
    → IsWrap (peer_sender old.sender) is_sealed number text before
    → ((answer ≡ plain ok) × ((is.number ≡ number) × ((is.sealed ≡ is_sealed) × (text_at is token ≡ text))))
    ⊎ ((fault : ReceiveFault) × (IsOutOfOrder old number fault × (answer ≡ plain (receive_code fault))))
