-- The columns of a state, each a list of four bytes.
use Rattle.std.specs.Prelude.{ℕ, List, [], ◌∷◌, ◌++◌, slice_index}
use Rattle.krb_aes.specs.KeyExpansion.{word_of}
use Rattle.krb_aes.specs.State.{row_times_column, mix, inv_mix}

-- the column that MixColumns makes of one
abbrev pub mixed_column : ℕ → ℕ → ℕ → ℕ → List ℕ
mixed_column a b c d = word_of (λ r. row_times_column mix r (slice_index (a ∷ b ∷ c ∷ d ∷ [])))

-- the column that InvMixColumns makes of one
abbrev pub inv_mixed_column : ℕ → ℕ → ℕ → ℕ → List ℕ
inv_mixed_column a b c d = word_of (λ r. row_times_column inv_mix r (slice_index (a ∷ b ∷ c ∷ d ∷ [])))

-- the bytes of four columns
abbrev pub joined : List ℕ → List ℕ → List ℕ → List ℕ → List ℕ
joined p q r t =
    word_of (slice_index p) ++ word_of (slice_index q) ++ word_of (slice_index r) ++ word_of (slice_index t)
