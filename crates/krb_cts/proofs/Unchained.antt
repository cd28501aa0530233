-- The chain of one block more is undone.
use Rattle.std.proofs.Common.{◌≡◌, ℕ, suc, ◌+◌, ◌*◌, ◌≤◌, List, ◌++◌, length, take, drop, sym, subst, ap, ap₂, ◌∙◌, arith}
use Rattle.std.proofs.lemmas.List.{drop_at, drop-drop}
use Rattle.krb_aes.specs.Cipher.{inv_cipher}
use Rattle.krb_cts.specs.Stealing.{xor, joined}
use Rattle.krb_cts.specs.Inner.Chain.{whole_block, unchained_block, undone_at}
use Rattle.krb_cts.proofs.Blocks.{IsDone, next_block, goes_on, length-joined, length-unchained_block, unchained_block-next}

-- the text as it is when the chain of its first n blocks is undone
abbrev pub IsUndone : List ℕ → List ℕ → ℕ → List ℕ → Type 0
IsUndone key old n text = text ≡ joined (unchained_block key old) n ++ drop (16 * n) old

done_of : (key old text : List ℕ) (n : ℕ) → 16 * n ≤ length old → IsUndone key old n text → IsDone (unchained_block key old) n old text
done_of key old text n fits undone = record { parts = undone; whole = λ i lt. length-unchained_block key old i (omega arith) }

pub block_of_undone : (key old text : List ℕ) (n : ℕ) → 16 * n + 16 ≤ length old → IsUndone key old n text →
    take 16 (drop (16 * n) text) ≡ whole_block old (suc n)
unfolding whole_block
block_of_undone key old text n fits undone =
    next_block (unchained_block key old) n old text (done_of key old text n (omega arith) undone)

pub one_more : (key old text previous : List ℕ) (n : ℕ) → 16 * n + 16 ≤ length old → IsUndone key old n text →
    previous ≡ whole_block old n → IsUndone key old (suc n) (undone_at key text (16 * n) previous)
unfolding whole_block
one_more key old text previous n fits undone previous_is =
    goes_on (unchained_block key old) n old text _ (done_of key old text n (omega arith) undone) fits
    (ap₂ xor (ap (inv_cipher key) (block_of_undone key old text n fits undone)) previous_is ∙ unchained_block-next key old n)

-- the block after the next
pub later_block : (key old text : List ℕ) (n : ℕ) → 16 * n + 32 ≤ length old → IsUndone key old n text →
    take 16 (drop (16 * n + 16) text) ≡ whole_block old (suc (suc n))
unfolding whole_block
later_block key old text n fits undone =
    let done = done_of key old text n (omega arith) undone in
    let back : drop (16 * n) text ≡ drop (16 * n) old =
    ap (drop (16 * n)) undone ∙ drop_at (joined (unchained_block key old) n) (drop (16 * n) old) (16 * n) (length-joined (unchained_block key old) n done.whole) in
    ap (take 16)
    (sym (drop-drop 16 (16 * n) text) ∙ ap (drop 16) back ∙ drop-drop 16 (16 * n) old ∙ ap (λ (k : ℕ). drop k old) (omega arith))

pub two_more : (key old text previous : List ℕ) (n : ℕ) → 16 * n + 32 ≤ length old → IsUndone key old n text →
    previous ≡ whole_block old n → IsUndone key old (suc (suc n))
    (undone_at key (undone_at key text (16 * n) previous) (16 * n + 16) (take 16 (drop (16 * n) text)))
two_more key old text previous n fits undone previous_is =
    let first = take 16 (drop (16 * n) text) in
    let once = undone_at key text (16 * n) previous in
    let undone_once : IsUndone key old (suc n) once = one_more key old text previous n (omega arith) undone previous_is in
    let place : 16 * suc n ≡ 16 * n + 16 = omega arith in
    subst (λ (at : ℕ). IsUndone key old (suc (suc n)) (undone_at key once at first)) place
    (one_more key old once first (suc n) (omega arith) undone_once (block_of_undone key old text n (omega arith) undone))
