-- Products of matrices over the field of the bytes: that of InvMixColumns is the inverse of that of MixColumns.
use Rattle.std.proofs.Common.{◌≡◌, ℕ, zero, suc, ◌+◌, ◌<◌, [], ◌∷◌, Bool, true, eqb, cond, refl, ap, ◌∙◌, lit<, arith, bit_xor}
use Rattle.std.specs.Prelude.{slice_index}
use Rattle.std.specs.Int.Bits.{xor_zero_r}
use Rattle.std.proofs.lemmas.Bool.{agree_below, agree_below_at}
use Rattle.krb_aes.specs.Field.{carryless, remainder, product}
use Rattle.krb_aes.specs.State.{circulant, row_times_column, mix, inv_mix}
use Rattle.krb_aes.proofs.ByteTests.{same_on, same_below}
use Rattle.krb_aes.proofs.FieldLaws.{xor_zero_l, product-xor}
use Rattle.krb_aes.proofs.Sums.{Sum, term, plus, same_sum}

-- the sum of four bytes
abbrev sum4 : (ℕ → ℕ) → ℕ
sum4 f = bit_xor (bit_xor (bit_xor (f 0) (f 1)) (f 2)) (f 3)

sum4-xor : (f g : ℕ → ℕ) → sum4 (λ j. bit_xor (f j) (g j)) ≡ bit_xor (sum4 f) (sum4 g)
sum4-xor f g =
    let both : ℕ → Sum = λ j. plus (term j) (term (j + 4)) in
    let four : (ℕ → Sum) → Sum = λ t. plus (plus (plus (t 0) (t 1)) (t 2)) (t 3) in
    same_sum (slice_index (f 0 ∷ f 1 ∷ f 2 ∷ f 3 ∷ g 0 ∷ g 1 ∷ g 2 ∷ g 3 ∷ [])) (four both) (plus (four term) (four (λ j. term (j + 4)))) refl

pub row_times_column-xor : (m : ℕ → ℕ → ℕ) (r : ℕ) (f g : ℕ → ℕ) →
    row_times_column m r (λ k. bit_xor (f k) (g k)) ≡ bit_xor (row_times_column m r f) (row_times_column m r g)
row_times_column-xor m r f g =
    let e : (k : ℕ) → product (m r k) (bit_xor (f k) (g k)) ≡ bit_xor (product (m r k) (f k)) (product (m r k) (g k)) =
    λ k. product-xor (m r k) (f k) (g k) in
    (λ i. bit_xor (bit_xor (bit_xor (e 0 i) (e 1 i)) (e 2 i)) (e 3 i))
    ∙ sum4-xor (λ k. product (m r k) (f k)) (λ k. product (m r k) (g k))

-- the sum over rows of the sums over columns, and the other way round
transposed : (a : ℕ → ℕ → ℕ) → sum4 (λ j. sum4 (a j)) ≡ sum4 (λ k. sum4 (λ j. a j k))
transposed a =
    sum4-xor (λ j. bit_xor (bit_xor (a j 0) (a j 1)) (a j 2)) (λ j. a j 3)
    ∙ ap (λ x. bit_xor x (sum4 (λ j. a j 3)))
    (sum4-xor (λ j. bit_xor (a j 0) (a j 1)) (λ j. a j 2)
    ∙ ap (λ x. bit_xor x (sum4 (λ j. a j 2))) (sum4-xor (λ j. a j 0) (λ j. a j 1)))

product-sum4 : (c : ℕ) (f : ℕ → ℕ) → product c (sum4 f) ≡ sum4 (λ k. product c (f k))
product-sum4 c f =
    product-xor c (bit_xor (bit_xor (f 0) (f 1)) (f 2)) (f 3)
    ∙ ap (λ x. bit_xor x (product c (f 3)))
    (product-xor c (bit_xor (f 0) (f 1)) (f 2) ∙ ap (λ x. bit_xor x (product c (f 2))) (product-xor c (f 0) (f 1)))

-- the entry at row r and column k of the product of two matrices, times a byte
abbrev entry : (ℕ → ℕ → ℕ) → (ℕ → ℕ → ℕ) → ℕ → ℕ → ℕ → ℕ
entry m n r k x = sum4 (λ j. product (m r j) (product (n j k) x))

-- whether an entry of the product of two matrices, times a byte, is always what e gives
abbrev has_entries : (m n : ℕ → ℕ → ℕ) (e : ℕ → ℕ → ℕ → ℕ) → Bool
has_entries m n e = agree_below (λ r. agree_below (λ k. same_on (entry m n r k) (e r k) 256) (λ _. true) 4) (λ _. true) 4

entry_is : (m n : ℕ → ℕ → ℕ) (e : ℕ → ℕ → ℕ → ℕ) → has_entries m n e ≡ true → (r k x : ℕ) → r < 4 → k < 4 → x < 256 →
    entry m n r k x ≡ e r k x
entry_is m n e ok r k x r_small k_small x_byte =
    let row = agree_below_at (λ a. agree_below (λ b. same_on (entry m n a b) (e a b) 256) (λ _. true) 4) (λ _. true) 4 r ok r_small in
    let cell = agree_below_at (λ b. same_on (entry m n r b) (e r b) 256) (λ _. true) 4 k row k_small in
    same_below (entry m n r k) (e r k) 256 cell x x_byte

row_of_product : (m n : ℕ → ℕ → ℕ) (e : ℕ → ℕ → ℕ → ℕ) → has_entries m n e ≡ true →
    (r : ℕ) (column : ℕ → ℕ) → r < 4 → ((k : ℕ) → column k < 256) →
    row_times_column m r (λ j. row_times_column n j column) ≡ sum4 (λ k. e r k (column k))
row_of_product m n e ok r column r_small bytes =
    let p : (j : ℕ) → product (m r j) (sum4 (λ k. product (n j k) (column k))) ≡ sum4 (λ k. product (m r j) (product (n j k) (column k))) =
    λ j. product-sum4 (m r j) (λ k. product (n j k) (column k)) in
    let q : (k : ℕ) → k < 4 → entry m n r k (column k) ≡ e r k (column k) =
    λ k k_small. entry_is m n e ok r k (column k) r_small k_small (bytes k) in
    (λ i. bit_xor (bit_xor (bit_xor (p 0 i) (p 1 i)) (p 2 i)) (p 3 i))
    ∙ transposed (λ j k. product (m r j) (product (n j k) (column k)))
    ∙ (λ i. bit_xor (bit_xor (bit_xor (q 0 (lit< tt) i) (q 1 (lit< tt) i)) (q 2 (lit< tt) i)) (q 3 (lit< tt) i))

-- the entry of the unit matrix, times a byte
abbrev unit : ℕ → ℕ → ℕ → ℕ
unit r k x = cond (eqb r k) x 0

unit_row : (r : ℕ) (column : ℕ → ℕ) → r < 4 → sum4 (λ k. unit r k (column k)) ≡ column r
unit_row zero column r_small =
    xor_zero_r _ ∙ xor_zero_r _ ∙ xor_zero_r (column 0)
unit_row (suc zero) column r_small =
    xor_zero_r _ ∙ xor_zero_r _ ∙ xor_zero_l (column 1)
unit_row (suc (suc zero)) column r_small =
    xor_zero_r _ ∙ xor_zero_l (column 2)
unit_row (suc (suc (suc zero))) column r_small = xor_zero_l (column 3)
unit_row (suc (suc (suc (suc r)))) column r_small = absurd (omega arith)

row_undone : (m n : ℕ → ℕ → ℕ) → has_entries m n unit ≡ true → (r : ℕ) (column : ℕ → ℕ) → r < 4 → ((k : ℕ) → column k < 256) →
    row_times_column m r (λ j. row_times_column n j column) ≡ column r
row_undone m n ok r column r_small bytes = row_of_product m n unit ok r column r_small bytes ∙ unit_row r column r_small

pub inv_mix_undoes_mix : (r : ℕ) (column : ℕ → ℕ) → r < 4 → ((k : ℕ) → column k < 256) →
    row_times_column inv_mix r (λ j. row_times_column mix j column) ≡ column r
unfolding carryless remainder product
inv_mix_undoes_mix = row_undone inv_mix mix refl

pub mix_undoes_inv_mix : (r : ℕ) (column : ℕ → ℕ) → r < 4 → ((k : ℕ) → column k < 256) →
    row_times_column mix r (λ j. row_times_column inv_mix j column) ≡ column r
unfolding carryless remainder product
mix_undoes_inv_mix = row_undone mix inv_mix refl

-- MixColumns after the matrix with this first row is InvMixColumns
abbrev pub opposites : ℕ → ℕ → ℕ
opposites = circulant (0x05 ∷ 0x00 ∷ 0x04 ∷ 0x00 ∷ [])

pub mix_of_opposites : (r : ℕ) (column : ℕ → ℕ) → r < 4 → ((k : ℕ) → column k < 256) →
    row_times_column mix r (λ j. row_times_column opposites j column) ≡ row_times_column inv_mix r column
unfolding carryless remainder product
mix_of_opposites = row_of_product mix opposites (λ r k. product (inv_mix r k)) refl
