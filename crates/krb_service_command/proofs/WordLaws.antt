-- What is read of a second of the command line.
use Rattle.std.proofs.Common.{◌≡◌, ◌⊎◌, ◌≤◌, ℕ, ℤ, List, Option, Some, None, arith, inl, inr}
use Rattle.std.specs.Prelude.{IfSome}
use Rattle.std.specs.Borrow.{Bor}
use Rattle.krb_service_command.specs.Words.{IsSecond, IsUnreadSecond}

-- the exit status is that of wrong words, or of the clock
pub unread_second : (at : Option (Bor (List ℕ))) (status : ℕ) → IsUnreadSecond at status → (status ≡ 2) ⊎ (status ≡ 3)
unread_second None status is = inr is
unread_second (Some text) status is = inl is.1

pub unread_known : (at : Option (Bor (List ℕ))) (status : ℕ) → IsUnreadSecond at status → status ≤ 3
unread_known at status is = elim (unread_second at status is) [ inl two ↦ omega (arith, two) | inr three ↦ omega (arith, three) ]

-- one that was read isn't unread for its word
pub second_read : (at : Option (Bor (List ℕ))) (second : ℤ) → IfSome at (λ text. IsSecond text.now second) → IsUnreadSecond at 2 → ⊥
second_read None second is unread = omega (arith, unread)
second_read (Some text) second is unread = unread.0 second is
