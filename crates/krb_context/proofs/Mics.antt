-- MIC tokens by their parts.
use Rattle.std.proofs.Common.{◌≡◌, ◌∙◌, ◌<◌, ◌^◌, ℕ, List, ◌++◌, false, take, drop, sym, ap, arith, if◌then◌else◌}
use Rattle.std.proofs.lemmas.List.{take-append-drop}
use Rattle.krb_context.specs.Side.{Sender, HasFlags, sender_flag}
use Rattle.krb_context.specs.Mic.{mic_header}
use Rattle.krb_context.specs.Faults.{HasMicForm, IsMicFault, sender_bit, sealed_bit, subkey_bit}
use Rattle.krb_context.specs.Inner.Forms.{IsFlagFault}
use Rattle.krb_context.specs.declared.fault.MessageFault.{MessageFault}
use Rattle.krb_context.specs.declared.fault.MessageFault.TheVariants.{Defective, Direction, OtherKey, Integrity}

pub mic_flag_fault : (sender : Sender) (text token : List ℕ) (flags : ℕ) (fault : MessageFault) → HasMicForm token flags → IsFlagFault sender flags fault
    → IsMicFault sender text token fault
mic_flag_fault sender text token flags Defective form it = absurd it
mic_flag_fault sender text token flags Direction form it = (flags, form, it)
mic_flag_fault sender text token flags OtherKey form it = (flags, form, it.0, it.1)
mic_flag_fault sender text token flags Integrity form it = absurd it

pub form_of : (token front : List ℕ) (flags number : ℕ) → front ≡ take 16 token → front ≡ mic_header flags number → number < 2 ^ 64 → sealed_bit flags ≡ 0
    → HasMicForm token flags
form_of token front flags number front_is header_is fits plain = record {
  number = number;
  fits = fits;
  after = drop 16 token;
  whole = sym (take-append-drop 16 token) ∙ ap (λ (f : List ℕ). f ++ drop 16 token) (sym front_is ∙ header_is);
  in_plain = plain;
}

-- the three bits of a sender
pub flags_known : (sender : Sender) (flags : ℕ) → flags < 256 → sender_bit flags ≡ sender_flag sender.side → sealed_bit flags ≡ 0
    → subkey_bit flags ≡ (if sender.acceptor_subkey then 1 else 0) → HasFlags sender false flags
flags_known sender flags byte side plain key = record { byte = byte; known = grind (arith, side, plain, key) }
