-- A Wrap token that is opened in place.
use Rattle.std.specs.Prelude.{◌≡◌, ◌≤◌, ◌+◌, ◌-◌, ℕ, List, ◌++◌, Bool, Result, IfOk, IfErr, IsOkAnd, IsErrOf, length, take, drop, replicate, if◌then◌else◌}
use Rattle.krb_context.specs.Side.{Sender}
use Rattle.krb_context.specs.Wrap.{IsWrap}
use Rattle.krb_context.specs.Faults.{IsWrapFault}
use Rattle.krb_context.specs.declared.direction.Unwrapped.{Unwrapped}
use Rattle.krb_context.specs.declared.fault.MessageFault.{MessageFault}
use Rattle.krb_context.specs.declared.fault.MessageFault.TheVariants.{Integrity}

-- each clause of `Direction::unwrap`, for this sender
pub record Unwraps (sender : Sender) (before after : List ℕ) (result : Result Unwrapped MessageFault) : Type 0 where
  pub ok : IfOk result (λ it. IsWrap sender it.is_sealed it.number (take it.len (drop it.start after)) before)
  pub within : IfOk result (λ it. (16 ≤ it.start) × (it.start + it.len ≤ length after))
  pub start : IfOk result (λ it. it.start ≡ (if it.is_sealed then 32 else 16))
  pub same_length : length after ≡ length before
  pub header : take 16 after ≡ take 16 before
  pub found : (is_sealed : Bool) (number : ℕ) (text : List ℕ) → IsWrap sender is_sealed number text before
      → IsOkAnd result (λ it. (it.is_sealed ≡ is_sealed) × (it.number ≡ number) × (take it.len (drop it.start after) ≡ text))
  pub fault : IfErr result (IsWrapFault sender before)
  pub unchanged : IfErr result (λ fault. (fault ≡ Integrity → ⊥) → after ≡ before)
  pub cleared : IsErrOf result Integrity → after ≡ take 16 before ++ replicate (length before - 16) 0
