-- A side of a context: what both sides agreed on, what it sends, and what it took (RFC 4121, sections 2 and 4.2; RFC 2743, section 1.2.3).
use Rattle.std.specs.Prelude.{◌≡◌, ◌≢◌, ◌⊎◌, ◌+◌, ◌<◌, ◌^◌, ℕ, List, [], ◌∷◌, ◌++◌, Bool, IsTrue, Option, Some, None, Result, Err, IsOk, IsErr, is_some, length, take, replicate, ◌-◌, nat_lt, if◌then◌else◌}
use Rattle.krb_enc.specs.Key.{KeyValue}
use Rattle.krb_enc.specs.Written.{IsWritten}
use Rattle.krb_context.specs.Side.{Sender, peer_of, peer_sender}
use Rattle.krb_context.specs.Mic.{IsMic}
use Rattle.krb_context.specs.Wrap.{IsWrap}
use Rattle.krb_context.specs.Faults.{IsMicFault, IsWrapFault}
use Rattle.krb_context.specs.Sequence.{IsNew, Known, Stands, IsOrder, sent_numbers}
use Rattle.krb_context.specs.declared.agreed.Agreed.{Agreed}
use Rattle.krb_context.specs.declared.agreed.Options.{Options}
use Rattle.krb_context.specs.declared.role.Role.{Role}
use Rattle.krb_context.specs.declared.role.Role.TheVariants.{Initiator, Acceptor}
use Rattle.krb_context.specs.declared.order.Order.{Order}
use Rattle.krb_context.specs.declared.order.Order.TheVariants.{Next}
use Rattle.krb_context.specs.declared.fault.MessageFault.TheVariants.{Defective, Direction, OtherKey, Integrity}
use Rattle.krb_context.specs.declared.fault.SendFault.{SendFault}
use Rattle.krb_context.specs.declared.fault.SendFault.TheVariants.{ShortSlice, NumbersUsedUp}
use Rattle.krb_context.specs.declared.fault.ReceiveFault.{ReceiveFault}
use Rattle.krb_context.specs.declared.fault.ReceiveFault.TheVariants.{NotAccepted, OutOfOrder}

abbrev pub key_or : Option KeyValue → KeyValue → KeyValue
key_or (Some key) other = key
key_or None other = other

-- the acceptor's subkey if it has one, else the initiator's if it has one, else the session key (RFC 4121, section 2)
abbrev pub key_of : Agreed → KeyValue
key_of agreed = key_or agreed.acceptor_subkey (key_or agreed.initiator_subkey agreed.session_key)

-- what protects the tokens that a side sends
abbrev pub sender_in : Agreed → Role → Sender
sender_in agreed side = record { key = key_of agreed; side = side; acceptor_subkey = is_some agreed.acceptor_subkey }

-- the number of the first token that a side sends
abbrev pub first_of : Agreed → Role → ℕ
first_of agreed Initiator = agreed.initiator_number
first_of agreed Acceptor = agreed.acceptor_number

-- one side: what protects the tokens that it sends, how it writes and takes tokens, the number of the next one that it sends (none if all are
-- used up), and what it knows of those that it took
pub record State : Type 0 where
  pub sender : Sender
  pub options : Options
  pub next : Option ℕ
  pub window : Known

-- numbers are below 2 ^ 64
abbrev pub number_after : ℕ → Option ℕ
number_after number = if nat_lt (number + 1) (2 ^ 64) then Some (number + 1) else None

-- a side that has sent and taken nothing, of the context that both sides agreed on
pub record IsBegun (agreed : Agreed) (role : Role) (state : State) : Type 0 where
  pub sender_is : state.sender ≡ sender_in agreed role
  pub next_is : state.next ≡ Some (first_of agreed role)
  pub fits : first_of agreed role < 2 ^ 64
  pub rotation_fits : state.options.rotation < 2 ^ 16
  pub took : Stands state.window (first_of agreed (peer_of role)) []

-- a side of such a context that has sent its first token, and taken the first one of the other side
pub record HasSentFirst (agreed : Agreed) (role : Role) (state : State) : Type 0 where
  pub sender_is : state.sender ≡ sender_in agreed role
  pub next_is : state.next ≡ number_after (first_of agreed role)
  pub rotation_fits : state.options.rotation < 2 ^ 16
  pub took : Stands state.window (first_of agreed (peer_of role)) (first_of agreed (peer_of role) ∷ [])

-- A side sends the token that is written with its next number. It writes nothing if all numbers are used up, or if the slice is too short.
-- Numbers and rotations fit their places in a header.
pub record IsSent (token_of : ℕ → List ℕ) (old new : State) (before after : List ℕ) (result : Result ℕ SendFault) : Type 0 where
  pub written : (number : ℕ) → old.next ≡ Some number → IsWritten SendFault ShortSlice (token_of number) before after result
  pub counted : (number : ℕ) → old.next ≡ Some number → IsOk result → new ≡ record old { next = number_after number }
  pub used_up : old.next ≡ None → (result ≡ Err NumbersUsedUp) × (after ≡ before)
  pub stays : IsErr result → new ≡ old
  pub fits : (number : ℕ) → old.next ≡ Some number → number < 2 ^ 64
  pub rotation_fits : old.options.rotation < 2 ^ 16

-- how a number stands to all that were taken
abbrev pub HasOrder : Known → ℕ → Order → Type 0
HasOrder window number order = (first : ℕ) (taken : List ℕ) → Stands window first taken → IsOrder first taken number order

-- the options take a token that stands so to those that were taken before it: only the next one, or none that may have been taken, or each
pub record MayTake (options : Options) (order : Order) : Type 0 where
  pub in_order : IsTrue options.is_in_order → order ≡ Next
  pub once : IsTrue options.refuses_repeats → IsNew order

-- or they refuse it
abbrev pub IsRefusedBy : Options → Order → Type 0
IsRefusedBy options order = (IsTrue options.is_in_order × (order ≢ Next)) ⊎ (IsTrue options.refuses_repeats × ¬ IsNew order)

-- a side takes a token with this number, and nothing else of it changes
pub record Takes (old : State) (number : ℕ) (order : Order) (new : State) : Type 0 where
  pub has_order : HasOrder old.window number order
  pub may : MayTake old.options order
  pub taken : (first : ℕ) (taken : List ℕ) → Stands old.window first taken → Stands new.window first (number ∷ taken)
  pub rest : new ≡ record old { window = new.window }

-- the side's options refuse a token with this number
abbrev pub IsOutOfOrder : State → ℕ → ReceiveFault → Type 0
IsOutOfOrder side number (NotAccepted fault) = ⊥
IsOutOfOrder side number (OutOfOrder order) =
    IsRefusedBy side.options order × HasOrder side.window number order

-- why a side doesn't take a MIC token
abbrev pub IsMicRefusal : State → List ℕ → List ℕ → ReceiveFault → Type 0
IsMicRefusal side text token (NotAccepted fault) = IsMicFault (peer_sender side.sender) text token fault
IsMicRefusal side text token (OutOfOrder order) =
    (number : ℕ) × IsMic (peer_sender side.sender) number text token × IsOutOfOrder side number (OutOfOrder order)

-- why a side doesn't take a Wrap token
abbrev pub IsWrapRefusal : State → List ℕ → ReceiveFault → Type 0
IsWrapRefusal side token (NotAccepted fault) = IsWrapFault (peer_sender side.sender) token fault
IsWrapRefusal side token (OutOfOrder order) =
    (is_sealed : Bool) × (number : ℕ) × (text : List ℕ) × IsWrap (peer_sender side.sender) is_sealed number text token
    × IsOutOfOrder side number (OutOfOrder order)

-- nothing but zeros is left after the header of a token
abbrev pub IsCleared : List ℕ → List ℕ → Type 0
IsCleared before after = after ≡ take 16 before ++ replicate (length before - 16) 0

-- what is left of a Wrap token that isn't taken: it is unchanged if nothing was decrypted
abbrev pub LeavesToken : ReceiveFault → List ℕ → List ℕ → Type 0
LeavesToken (NotAccepted Defective) before after = after ≡ before
LeavesToken (NotAccepted Direction) before after = after ≡ before
LeavesToken (NotAccepted OtherKey) before after = after ≡ before
LeavesToken (NotAccepted Integrity) before after = IsCleared before after
LeavesToken (OutOfOrder order) before after = IsCleared before after

-- one side sends what the other takes, and the other took the tokens that it sent so far, each once and in order
pub record IsNextFor (from to : State) (first count : ℕ) : Type 0 where
  pub sender_is : from.sender ≡ peer_sender to.sender
  pub next_is : from.next ≡ Some (first + count)
  pub fits : first + count < 2 ^ 64
  pub rotation_fits : from.options.rotation < 2 ^ 16
  pub took : Stands to.window first (sent_numbers first count)
