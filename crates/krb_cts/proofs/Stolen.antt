-- The block that is stolen from, and the other chained blocks, of a text of j + 2 blocks.
use Rattle.std.proofs.Common.{◌≡◌, ℕ, zero, suc, ◌-◌, ◌*◌, ◌<◌, ◌≤◌, eqb, true, false, List, ◌++◌, length, take, drop, refl, sym, subst, ap, ◌∙◌, arith, length-append, length-drop, inl, inr}
use Rattle.std.proofs.lemmas.Bool.{eq-eqb, ne_eqb, cases_lt}
use Rattle.krb_cts.specs.Stealing.{zeros, block_count, last_length}
use Rattle.krb_cts.specs.Undo.{last_undone, stolen_block, chained_block}
use Rattle.krb_cts.proofs.Blocks.{length-inv_cipher}
use Rattle.krb_cts.proofs.Ends.{IsLonger, count_is}

pub length-stolen_block : (key old : List ℕ) (j : ℕ) → IsLonger old j → length (stolen_block key old) ≡ 16
length-stolen_block key old j l =
    let m : block_count old - 1 ≡ suc j = omega (arith, count_is old j l) in
    let d = length-inv_cipher key (take 16 (drop (16 * (block_count old - 2)) old)) in
    length-append (drop (16 * (block_count old - 1)) old) (drop (last_length old) (last_undone key old))
    ∙ simp (length-drop, m) (omega (arith, d, l.above, l.within))

-- C(1) to C(j)
pub chained_front : (key text : List ℕ) (j : ℕ) → IsLonger text j → (i : ℕ) → i < j → chained_block key text (suc i) ≡ take 16 (drop (16 * i) text)
chained_front key text j l i lt =
    let some : eqb (suc i) 0 ≡ false = ne_eqb _ _ (λ e. absurd (omega arith)) in
    let other : eqb (suc i) (block_count text - 1) ≡ false = ne_eqb _ _ (λ e. absurd (omega (arith, count_is text j l))) in
    let at : 16 * (suc i - 1) ≡ 16 * i = omega arith in
    rw (some, other, at) refl

-- C(m - 1)
pub chained_last : (key text : List ℕ) (j : ℕ) → IsLonger text j → chained_block key text (suc j) ≡ stolen_block key text
chained_last key text j l =
    let some : eqb (suc j) 0 ≡ false = ne_eqb _ _ (λ e. absurd (omega arith)) in
    let this : eqb (suc j) (block_count text - 1) ≡ true = eq-eqb _ _ (omega (arith, count_is text j l)) in
    rw (some, this) refl

-- the last bytes of a text, and the end of D after them
pub stolen_parts : (key text : List ℕ) (j : ℕ) → IsLonger text j
    → stolen_block key text ≡ drop (16 * suc j) text ++ drop (length text - 16 * suc j) (last_undone key text)
stolen_parts key text j l =
    let m : block_count text - 1 ≡ suc j = omega (arith, count_is text j l) in
    ap (λ (n : ℕ). drop (16 * n) text ++ drop (length text - 16 * n) (last_undone key text)) m

-- what holds of zeros, of the blocks of a text and of the stolen block holds of the chained blocks
pub chained_cases : (P : List ℕ → Type 0) (key text : List ℕ) (j : ℕ) → IsLonger text j → P zeros
    → ((i : ℕ) → i < j → P (take 16 (drop (16 * i) text))) → P (stolen_block key text) → (i : ℕ) → i ≤ suc j → P (chained_block key text i)
chained_cases P key text j l none front last zero le = none
chained_cases P key text j l none front last (suc i) le =
    elim (cases_lt i j) [
      | inl lt ↦ subst P (sym (chained_front key text j l i lt)) (front i lt)
      | inr ge ↦
          let same : j ≡ i = omega arith in
          subst (λ (n : ℕ). P (chained_block key text (suc n))) same (subst P (sym (chained_last key text j l)) last)
    ]
