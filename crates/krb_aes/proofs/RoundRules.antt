-- One round more, where the code counts rounds by numbers.
use Rattle.std.proofs.Common.{◌≡◌, ℕ, zero, suc, ◌≤◌, ◌-◌, List, refl, arith, sub-one}
use Rattle.krb_aes.specs.State.{sub_bytes, inv_sub_bytes, shift_rows, inv_shift_rows, mix_columns, inv_mix_columns, add_round_key}
use Rattle.krb_aes.specs.Cipher.{rounds, inv_rounds}

pub rounds_after : (k : ℕ → List ℕ) (s : List ℕ) (n : ℕ) → 1 ≤ n →
    rounds k n s ≡ add_round_key (mix_columns (shift_rows (sub_bytes (rounds k (n - 1) s)))) (k n)
unfolding rounds
rounds_after k s zero some = absurd (omega arith)
rounds_after k s (suc n) some = rw sub-one refl

pub inv_rounds_before : (k : ℕ → List ℕ) (s : List ℕ) (n : ℕ) → 1 ≤ n →
    inv_rounds k n s ≡ inv_rounds k (n - 1) (inv_mix_columns (add_round_key (inv_sub_bytes (inv_shift_rows s)) (k n)))
unfolding inv_rounds
inv_rounds_before k s zero some = absurd (omega arith)
inv_rounds_before k s (suc n) some = rw sub-one refl
