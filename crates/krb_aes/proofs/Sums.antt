-- Sums by bit_xor: two are equal if each term stands in both an even number of times, or in both an odd number.
use Rattle.std.proofs.Common.{◌≡◌, ℕ, List, [], ◌∷◌, Bool, true, false, eqb, refl, sym, ap, ◌∙◌, bit_xor}
use Rattle.std.specs.Prelude.{nat_lt}
use Rattle.std.specs.Int.Bits.{xor_assoc, xor_self, xor_zero_r}
use Rattle.std.proofs.lemmas.Bool.{eqb-true}
use Rattle.std.proofs.lemmas.Nat.{xor_comm}
use Rattle.krb_aes.proofs.FieldLaws.{xor_zero_l, linear, linear-xor}

-- a sum, whose terms are numbered
pub data Sum : Type 0 where
  term : ℕ → Sum
  plus : Sum → Sum → Sum

abbrev pub value : (ℕ → ℕ) → Sum → ℕ
value v (term n) = v n
value v (plus a b) = bit_xor (value v a) (value v b)

abbrev total : (ℕ → ℕ) → List ℕ → ℕ
total v [] = 0
total v (n ∷ ns) = bit_xor (v n) (total v ns)

-- a list in ascending order with one number more, or with one less if it holds this one
abbrev toggled_at : Bool → Bool → ℕ → ℕ → List ℕ → List ℕ → List ℕ
toggled_at true less n m ms rest = ms
toggled_at false true n m ms rest = n ∷ m ∷ ms
toggled_at false false n m ms rest = m ∷ rest

abbrev toggled : ℕ → List ℕ → List ℕ
toggled n [] = n ∷ []
toggled n (m ∷ ms) = toggled_at (eqb n m) (nat_lt n m) n m ms (toggled n ms)

abbrev joined : List ℕ → List ℕ → List ℕ
joined [] ms = ms
joined (n ∷ ns) ms = toggled n (joined ns ms)

-- the numbers of the terms that are left
abbrev pub terms : Sum → List ℕ
terms (term n) = n ∷ []
terms (plus a b) = joined (terms a) (terms b)

total-toggled_at : (v : ℕ → ℕ) (same less : Bool) (n m : ℕ) (ms rest : List ℕ) → eqb n m ≡ same →
    total v rest ≡ bit_xor (v n) (total v ms) →
    total v (toggled_at same less n m ms rest) ≡ bit_xor (v n) (bit_xor (v m) (total v ms))
total-toggled_at v true less n m ms rest e before =
    sym (sym (xor_assoc (v n) (v m) (total v ms))
    ∙ ap (λ x. bit_xor (bit_xor (v n) (v x)) (total v ms)) (sym (eqb-true n m e))
    ∙ ap (λ x. bit_xor x (total v ms)) (xor_self (v n))
    ∙ xor_zero_l (total v ms))
total-toggled_at v false true n m ms rest e before = refl
total-toggled_at v false false n m ms rest e before =
    ap (bit_xor (v m)) before
    ∙ sym (xor_assoc (v m) (v n) (total v ms))
    ∙ ap (λ x. bit_xor x (total v ms)) (xor_comm (v m) (v n))
    ∙ xor_assoc (v n) (v m) (total v ms)

total-toggled : (v : ℕ → ℕ) (n : ℕ) (ms : List ℕ) → total v (toggled n ms) ≡ bit_xor (v n) (total v ms)
total-toggled v n [] = refl
total-toggled v n (m ∷ ms) = total-toggled_at v (eqb n m) (nat_lt n m) n m ms (toggled n ms) refl (total-toggled v n ms)

total-joined : (v : ℕ → ℕ) (ns ms : List ℕ) → total v (joined ns ms) ≡ bit_xor (total v ns) (total v ms)
total-joined v [] ms = sym (xor_zero_l (total v ms))
total-joined v (n ∷ ns) ms =
    total-toggled v n (joined ns ms)
    ∙ ap (bit_xor (v n)) (total-joined v ns ms)
    ∙ sym (xor_assoc (v n) (total v ns) (total v ms))

total-terms : (v : ℕ → ℕ) (s : Sum) → value v s ≡ total v (terms s)
total-terms v (term n) = sym (xor_zero_r (v n))
total-terms v (plus a b) =
    (λ i. bit_xor (total-terms v a i) (total-terms v b i)) ∙ sym (total-joined v (terms a) (terms b))

pub same_sum : (v : ℕ → ℕ) (a b : Sum) → terms a ≡ terms b → value v a ≡ value v b
same_sum v a b same = total-terms v a ∙ ap (total v) same ∙ sym (total-terms v b)

-- a linear function of a sum is the sum of its values
pub linear_sum : (columns : List ℕ) (v : ℕ → ℕ) (s : Sum) → value (λ n. linear columns 8 (v n)) s ≡ linear columns 8 (value v s)
linear_sum columns v (term n) = refl
linear_sum columns v (plus a b) =
    (λ i. bit_xor (linear_sum columns v a i) (linear_sum columns v b i))
    ∙ sym (linear-xor columns 8 (value v a) (value v b))
