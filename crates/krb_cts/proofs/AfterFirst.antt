-- What a text is undone to, without its first block.
use Rattle.std.proofs.Common.{◌≡◌, ℕ, zero, suc, ◌+◌, ◌-◌, ◌*◌, ◌<◌, ◌≤◌, List, [], ◌++◌, length, take, drop, refl, sym, subst, ap, ap₂, ◌∙◌, append_assoc, append-nil, arith, length-drop}
use Rattle.std.proofs.lemmas.List.{take_at, drop_at, drop-drop, length-take-le}
use Rattle.std.proofs.Math.ListN.{drop_of_length-le}
use Rattle.krb_aes.specs.Cipher.{inv_cipher}
use Rattle.krb_cts.specs.Stealing.{xor, block_count, joined}
use Rattle.krb_cts.specs.Undo.{last_undone, stolen_block, chained_block, undone_block, undo}
use Rattle.krb_cts.specs.Inner.Chain.{later_block, unchained_to}
use Rattle.krb_cts.proofs.Blocks.{IsDone, goes_on, length-inv_cipher, length-joined, length-xor}
use Rattle.krb_cts.proofs.Ends.{IsLonger, count_is}
use Rattle.krb_cts.proofs.Stolen.{chained_front, chained_last, stolen_parts}
use Rattle.krb_cts.proofs.GivenBack.{same_joined}
use Rattle.krb_cts.proofs.Lengths.{undo-of, length-undo, length-undone_block}

-- a text of one block
pub nothing_after : (key text plain : List ℕ) → length text ≡ 16 → 16 + length plain ≡ length text → plain ≡ drop 16 (undo key text)
nothing_after key text plain one fits =
    let none : length plain ≤ 0 = omega arith in
    let whole : length (undo key text) ≤ 16 = omega (arith, length-undo key text (omega arith)) in
    let empty : drop 0 plain ≡ [] = drop_of_length-le plain none in
    empty ∙ sym (drop_of_length-le (undo key text) whole)

-- ---- blocks one after another

length-later_block : (key text : List ℕ) (i : ℕ) → 16 * i + 32 ≤ length text → length (later_block key text (suc i)) ≡ 16
unfolding later_block
length-later_block key text i fits =
    length-xor _ _ (length-inv_cipher key _) (length-take-le 16 (drop (16 * i) text) (omega (arith, length-drop (16 * i) text)))

-- the blocks after the first are written as far as the n-th of them
abbrev pub IsWritten : List ℕ → List ℕ → List ℕ → ℕ → List ℕ → Type 0
IsWritten key text old n plain = plain ≡ joined (later_block key text) n ++ drop (16 * n) old

pub one_written : (key text old plain : List ℕ) (n at : ℕ) → at ≡ 16 * n → 16 * n + 32 ≤ length text → 16 * n + 16 ≤ length old → IsWritten key text old n plain
    → IsWritten key text old (suc n) (unchained_to key text plain at)
unfolding later_block
one_written key text old plain n at place fits room written =
    let done : IsDone (later_block key text) n old plain = record { parts = written; whole = λ i lt. length-later_block key text i (omega arith) } in
    subst (λ (k : ℕ). IsWritten key text old (suc n) (unchained_to key text plain k)) (sym place)
    (goes_on (later_block key text) n old plain _ done room refl)

pub two_written : (key text old plain : List ℕ) (n at : ℕ) → at ≡ 16 * n → 16 * n + 48 ≤ length text → 16 * n + 32 ≤ length old → IsWritten key text old n plain
    → IsWritten key text old (suc (suc n)) (unchained_to key text (unchained_to key text plain at) (at + 16))
two_written key text old plain n at place fits room written =
    one_written key text old _ (suc n) (at + 16) (omega arith) (omega arith) (omega arith)
    (one_written key text old plain n at place (omega arith) (omega arith) written)

pub four_written : (key text old plain : List ℕ) (n at : ℕ) → at ≡ 16 * n → 16 * n + 80 ≤ length text → 16 * n + 64 ≤ length old → IsWritten key text old n plain
    → IsWritten key text old (suc (suc (suc (suc n))))
    (unchained_to key text (unchained_to key text (unchained_to key text (unchained_to key text plain at) (at + 16)) (at + 16 + 16)) (at + 16 + 16 + 16))
four_written key text old plain n at place fits room written =
    two_written key text old _ (suc (suc n)) (at + 16 + 16) (omega arith) (omega arith) (omega arith)
    (two_written key text old plain n at place (omega arith) (omega arith) written)

joined-add : (f g : ℕ → List ℕ) (m n : ℕ) → ((i : ℕ) → i < n → g (suc i) ≡ f (suc (m + i))) → joined f m ++ joined g n ≡ joined f (m + n)
unfolding joined
joined-add f g m zero same =
    let none : m ≡ m + 0 = omega arith in
    append-nil (joined f m) ∙ ap (joined f) none
joined-add f g m (suc n) same =
    let more : suc (m + n) ≡ m + suc n = omega arith in
    sym (append_assoc (joined f m) (joined g n) (g (suc n)))
    ∙ ap₂ (λ (a b : List ℕ). a ++ b) (joined-add f g m n (λ i lt. same i (omega arith))) (same n (omega arith))
    ∙ ap (joined f) more

later-shifted : (key text : List ℕ) (m i : ℕ) → later_block key (drop (16 * m) text) (suc i) ≡ later_block key text (suc (m + i))
unfolding later_block
later-shifted key text m i =
    let at : 16 * m + 16 * i ≡ 16 * (m + i) = omega arith in
    let next : 16 * m + (16 * i + 16) ≡ 16 * (m + i) + 16 = omega arith in
    ap₂ (λ (a b : List ℕ). xor (inv_cipher key (take 16 a)) (take 16 b))
    (drop-drop (16 * i + 16) (16 * m) text ∙ ap (λ (k : ℕ). drop k text) next)
    (drop-drop (16 * i) (16 * m) text ∙ ap (λ (k : ℕ). drop k text) at)

-- the first m blocks, and then n more of what is left
pub all_of_both : (key text old front rest : List ℕ) (m n : ℕ) → 16 * m + 16 ≤ length text → IsWritten key text old m front
    → IsWritten key (drop (16 * m) text) (drop (16 * m) front) n rest
    → IsWritten key text old (m + n) (take (16 * m) front ++ rest)
all_of_both key text old front rest m n fits front_is rest_is =
    let len : length (joined (later_block key text) m) ≡ 16 * m = length-joined (later_block key text) m (λ i lt. length-later_block key text i (omega arith)) in
    let first : take (16 * m) front ≡ joined (later_block key text) m =
    ap (λ (t : List ℕ). take (16 * m) t) front_is ∙ take_at (joined (later_block key text) m) (drop (16 * m) old) (16 * m) len in
    let left : drop (16 * m) front ≡ drop (16 * m) old =
    ap (λ (t : List ℕ). drop (16 * m) t) front_is ∙ drop_at (joined (later_block key text) m) (drop (16 * m) old) (16 * m) len in
    let end : 16 * m + 16 * n ≡ 16 * (m + n) = omega arith in
    ap₂ (λ (a b : List ℕ). a ++ b) first
    (rest_is ∙ ap (λ (t : List ℕ). joined (later_block key (drop (16 * m) text)) n ++ t) (ap (λ (t : List ℕ). drop (16 * n) t) left ∙ drop-drop (16 * n) (16 * m) old ∙ ap (λ (k : ℕ). drop k old) end))
    ∙ sym (append_assoc (joined (later_block key text) m) (joined (later_block key (drop (16 * m) text)) n) (drop (16 * (m + n)) old))
    ∙ ap (λ (t : List ℕ). t ++ drop (16 * (m + n)) old) (joined-add (later_block key text) (later_block key (drop (16 * m) text)) m n (λ i _. later-shifted key text m i))

-- ---- a text of j + 2 blocks

-- P(i + 1)
abbrev pub later : List ℕ → List ℕ → ℕ → List ℕ
later key text i = undone_block key text (suc i)

joined-apart : (block : ℕ → List ℕ) (n : ℕ) → joined block (suc n) ≡ block 1 ++ joined (λ i. block (suc i)) n
unfolding joined
joined-apart block zero = sym (append-nil (block 1))
joined-apart block (suc n) =
    ap (λ (t : List ℕ). t ++ block (suc (suc n))) (joined-apart block n)
    ∙ append_assoc (block 1) (joined (λ i. block (suc i)) n) (block (suc (suc n)))

-- the last bytes
end_of : List ℕ → List ℕ → ℕ → List ℕ
end_of key text j = take (length text - 16 * suc j) (xor (last_undone key text) (stolen_block key text))

undo-apart : (key text : List ℕ) (j : ℕ) → IsLonger text j → drop 16 (undo key text) ≡ joined (later key text) j ++ end_of key text j
unfolding end_of
undo-apart key text j l =
    let first = undone_block key text 1 in
    ap (λ (t : List ℕ). drop 16 t)
    (undo-of key text j l
    ∙ ap (λ (t : List ℕ). t ++ end_of key text j) (joined-apart (undone_block key text) j)
    ∙ append_assoc first (joined (later key text) j) (end_of key text j))
    ∙ drop_at first _ 16 (length-undone_block key text j l 0 (omega arith))

length-later : (key text : List ℕ) (j : ℕ) → IsLonger text j → (i : ℕ) → i < j → length (later key text (suc i)) ≡ 16
length-later key text j l i lt = length-undone_block key text j l (suc i) (omega arith)

-- P(2) to P(j)
later_is : (key text : List ℕ) (j : ℕ) → IsLonger text j → (i : ℕ) → suc i < j → later_block key text (suc i) ≡ later key text (suc i)
unfolding later_block
later_is key text j l i lt =
    let before : suc (suc i) - 1 ≡ suc i = omega arith in
    let next : 16 * i + 16 ≡ 16 * suc i = omega arith in
    ap₂ (λ (a b : List ℕ). xor (inv_cipher key a) b)
    (ap (λ (at : ℕ). take 16 (drop at text)) next ∙ sym (chained_front key text j l (suc i) lt))
    (sym (ap (chained_block key text) before ∙ chained_front key text j l i (omega arith)))

-- P(j + 1), if there is one after P(1)
last_later : (key text : List ℕ) (n : ℕ) → IsLonger text (suc n)
    → xor (inv_cipher key (stolen_block key text)) (take 16 (drop (16 * n) text)) ≡ later key text (suc n)
last_later key text n l =
    let before : suc (suc n) - 1 ≡ suc n = omega arith in
    ap₂ (λ (a b : List ℕ). xor (inv_cipher key a) b)
    (sym (chained_last key text (suc n) l))
    (sym (ap (chained_block key text) before ∙ chained_front key text (suc n) l n (omega arith)))

-- P(2) to P(j + 1) are written
abbrev pub IsFront : List ℕ → List ℕ → List ℕ → ℕ → List ℕ → Type 0
IsFront key text old j plain = plain ≡ joined (later key text) j ++ drop (16 * j) old

pub no_front : (key text old : List ℕ) (j : ℕ) → j ≡ 0 → IsFront key text old j old
unfolding joined
no_front key text old j none = rw none refl

pub front_written : (key text old plain : List ℕ) (j n : ℕ) → IsLonger text j → suc n ≡ j
    → plain ≡ joined (later_block key text) n ++ xor (inv_cipher key (stolen_block key text)) (take 16 (drop (16 * n) text)) ++ drop (16 * n + 16) old
    → IsFront key text old j plain
unfolding joined
front_written key text old plain j n l more is =
    let l_more : IsLonger text (suc n) = subst (IsLonger text) (sym more) l in
    let next : 16 * n + 16 ≡ 16 * suc n = omega arith in
    let front : joined (later_block key text) n ≡ joined (later key text) n =
    same_joined (later_block key text) (later key text) n (λ i lt. later_is key text (suc n) l_more i (omega arith)) in
    subst (λ (k : ℕ). IsFront key text old k plain) more
    (is ∙ rw (next, last_later key text n l_more, front) refl)

-- and after them the last bytes
pub all_written : (key text old front plain : List ℕ) (j : ℕ) → IsLonger text j
    → IsFront key text old j front
    → plain ≡ take (16 * j) front ++ take (length text - 16 * suc j) (xor (last_undone key text) (stolen_block key text))
    → plain ≡ drop 16 (undo key text)
unfolding end_of
all_written key text old front plain j l front_is is =
    let len : length (joined (later key text) j) ≡ 16 * j = length-joined (later key text) j (length-later key text j l) in
    is
    ∙ ap (λ (t : List ℕ). t ++ end_of key text j) (ap (λ (t : List ℕ). take (16 * j) t) front_is ∙ take_at (joined (later key text) j) (drop (16 * j) old) (16 * j) len)
    ∙ sym (undo-apart key text j l)

-- the block that undo_last_two returns
pub stolen_is : (key text block : List ℕ) (j : ℕ) → IsLonger text j
    → block ≡ drop (16 * suc j) text ++ drop (length text - 16 * suc j) (inv_cipher key (take 16 (drop (16 * j) text)))
    → block ≡ stolen_block key text
stolen_is key text block j l is =
    let two : block_count text - 2 ≡ j = omega (arith, count_is text j l) in
    is ∙ sym (stolen_parts key text j l ∙ ap (λ (n : ℕ). drop (16 * suc j) text ++ drop (length text - 16 * suc j) (inv_cipher key (take 16 (drop (16 * n) text)))) two)

pub last_is : (key text block : List ℕ) (j : ℕ) → IsLonger text j
    → block ≡ xor (inv_cipher key (take 16 (drop (16 * j) text))) (drop (16 * suc j) text ++ drop (length text - 16 * suc j) (inv_cipher key (take 16 (drop (16 * j) text))))
    → block ≡ xor (last_undone key text) (stolen_block key text)
last_is key text block j l is =
    let two : block_count text - 2 ≡ j = omega (arith, count_is text j l) in
    is ∙ ap₂ xor (ap (λ (n : ℕ). inv_cipher key (take 16 (drop (16 * n) text))) (sym two)) (stolen_is key text _ j l refl)
