-- Why bytes aren't a sender's token (RFC 4121, section 4.2.6). The faults are in the order in which they are looked for.
use Rattle.std.specs.Prelude.{◌≡◌, ◌<◌, ◌≤◌, ◌+◌, ◌/◌, ◌%◌, ◌^◌, ◌==◌, ℕ, List, ◌++◌, length, if◌then◌else◌, Bool, false}
use Rattle.krb_enc.specs.Key.{profile_of}
use Rattle.krb_context.specs.Side.{Sender, HasFlags, sender_flag}
use Rattle.krb_context.specs.Mic.{IsMic, mic_header}
use Rattle.krb_context.specs.Wrap.{IsWrap, wrap_header}
use Rattle.krb_context.specs.declared.fault.MessageFault.{MessageFault}
use Rattle.krb_context.specs.declared.fault.MessageFault.TheVariants.{Defective, Direction, OtherKey, Integrity}

-- SentByAcceptor, Sealed and AcceptorSubkey (section 4.2.2)
abbrev pub sender_bit : ℕ → ℕ
sender_bit flags = flags % 2

abbrev pub sealed_bit : ℕ → ℕ
sealed_bit flags = flags / 2 % 2

abbrev pub subkey_bit : ℕ → ℕ
subkey_bit flags = flags / 4 % 2

-- the bytes begin with the header of a MIC token with these flags, which doesn't say that it is sealed
pub record HasMicForm (token : List ℕ) (flags : ℕ) : Type 0 where
  pub number : ℕ
  pub fits : number < 2 ^ 64
  pub after : List ℕ
  pub whole : token ≡ mic_header flags number ++ after
  pub in_plain : sealed_bit flags ≡ 0

abbrev pub IsMicFault : Sender → List ℕ → List ℕ → MessageFault → Type 0
IsMicFault sender text token Defective = (flags : ℕ) → HasMicForm token flags → ⊥
IsMicFault sender text token Direction =
    (flags : ℕ) × HasMicForm token flags × ¬ (sender_bit flags ≡ sender_flag sender.side)
IsMicFault sender text token OtherKey =
    (flags : ℕ) × HasMicForm token flags × (sender_bit flags ≡ sender_flag sender.side)
    × ¬ (subkey_bit flags ≡ (if sender.acceptor_subkey then 1 else 0))
IsMicFault sender text token Integrity =
    (flags : ℕ) × HasMicForm token flags × HasFlags sender false flags
    × ((number : ℕ) → IsMic sender number text token → ⊥)

-- EC fits as many bytes after the header: with confidentiality, there is room for a confounder, the filler, the header and a tag; without it,
-- EC is the length of a checksum, and there is one (sections 4.2.3 and 4.2.4)
pub record HasRoom (sender : Sender) (flags extra size : ℕ) : Type 0 where
  pub if_sealed : sealed_bit flags ≡ 1 → 32 + extra + (profile_of sender.key).tag_len ≤ size
  pub if_plain : sealed_bit flags ≡ 0 → (extra ≡ (profile_of sender.key).tag_len) × (extra ≤ size)

-- the bytes begin with the header of a Wrap token with these flags, and its EC fits what comes after it
pub record HasWrapForm (sender : Sender) (token : List ℕ) (flags : ℕ) : Type 0 where
  pub extra : ℕ
  pub rotation : ℕ
  pub number : ℕ
  pub extra_fits : extra < 2 ^ 16
  pub rotation_fits : rotation < 2 ^ 16
  pub fits : number < 2 ^ 64
  pub after : List ℕ
  pub whole : token ≡ wrap_header flags extra rotation number ++ after
  pub has_room : HasRoom sender flags extra (length after)

abbrev pub IsWrapFault : Sender → List ℕ → MessageFault → Type 0
IsWrapFault sender token Defective = (flags : ℕ) → HasWrapForm sender token flags → ⊥
IsWrapFault sender token Direction =
    (flags : ℕ) × HasWrapForm sender token flags × ¬ (sender_bit flags ≡ sender_flag sender.side)
IsWrapFault sender token OtherKey =
    (flags : ℕ) × HasWrapForm sender token flags × (sender_bit flags ≡ sender_flag sender.side)
    × ¬ (subkey_bit flags ≡ (if sender.acceptor_subkey then 1 else 0))
IsWrapFault sender token Integrity =
    (flags : ℕ) × HasWrapForm sender token flags × HasFlags sender (sealed_bit flags == 1) flags
    × ((is_sealed : Bool) (number : ℕ) (text : List ℕ) → IsWrap sender is_sealed number text token → ⊥)
