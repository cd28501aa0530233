-- How long texts are after stealing and after it is undone.
use Rattle.std.proofs.Common.{◌≡◌, ℕ, suc, ◌+◌, ◌-◌, ◌*◌, ◌/◌, ◌<◌, ◌≤◌, eqb, true, false, List, ◌++◌, length, take, drop, refl, sym, ap, ◌∙◌, arith, length-append, length-drop, inl, inr}
use Rattle.std.proofs.lemmas.Bool.{eq-eqb, ne_eqb, cases_lt}
use Rattle.std.proofs.lemmas.List.{length-take-le}
use Rattle.krb_cts.specs.Stealing.{xor, block_count, joined}
use Rattle.krb_cts.specs.Undo.{last_undone, stolen_block, chained_block, undone_block, undo}
use Rattle.krb_cts.proofs.Blocks.{length-joined, length-inv_cipher, length-xor}
use Rattle.krb_cts.proofs.Ends.{IsLonger, count_is}
use Rattle.krb_cts.proofs.Stolen.{chained_cases, length-stolen_block}

-- a text of more than one block
pub longer : (text : List ℕ) → 16 < length text → IsLonger text ((length text + 15) / 16 - 2)
longer text more = record { above = omega arith; within = omega arith }

length-chained_block : (key text : List ℕ) (j : ℕ) → IsLonger text j → (i : ℕ) → i ≤ suc j → length (chained_block key text i) ≡ 16
length-chained_block key text j l =
    chained_cases (λ block. length block ≡ 16) key text j l refl
    (λ i lt. length-take-le 16 (drop (16 * i) text) (omega (arith, length-drop (16 * i) text, l.above)))
    (length-stolen_block key text j l)

pub length-undone_block : (key text : List ℕ) (j : ℕ) → IsLonger text j → (i : ℕ) → i < suc j → length (undone_block key text (suc i)) ≡ 16
length-undone_block key text j l i lt =
    length-xor _ _ (length-inv_cipher key _) (length-chained_block key text j l (suc i - 1) (omega arith))

-- the parts of what a text of j + 2 blocks is undone to
pub undo-of : (key text : List ℕ) (j : ℕ) → IsLonger text j
    → undo key text ≡ joined (undone_block key text) (suc j) ++ take (length text - 16 * suc j) (xor (last_undone key text) (stolen_block key text))
unfolding undo
undo-of key text j l =
    let m : block_count text - 1 ≡ suc j = omega (arith, count_is text j l) in
    let test : eqb (length text) 16 ≡ false = ne_eqb _ _ (λ e. absurd (omega (arith, l.above))) in
    rw (test, m) refl

pub length-longer : (key text : List ℕ) (j : ℕ) → IsLonger text j → length (undo key text) ≡ length text
length-longer key text j l =
    let front = length-joined (undone_block key text) (suc j) (length-undone_block key text j l) in
    let last = length-xor (last_undone key text) (stolen_block key text) (length-inv_cipher key _) (length-stolen_block key text j l) in
    let end = length-take-le (length text - 16 * suc j) (xor (last_undone key text) (stolen_block key text)) (omega (arith, last, l.within)) in
    ap length (undo-of key text j l)
    ∙ length-append (joined (undone_block key text) (suc j)) (take (length text - 16 * suc j) (xor (last_undone key text) (stolen_block key text)))
    ∙ omega (arith, front, end, l.above)

length-one : (key text : List ℕ) → length text ≡ 16 → length (undo key text) ≡ length text
unfolding undo
length-one key text one =
    let test : eqb (length text) 16 ≡ true = eq-eqb _ _ one in
    rw test (length-inv_cipher key text ∙ sym one)

pub length-undo : (key text : List ℕ) → 16 ≤ length text → length (undo key text) ≡ length text
length-undo key text le =
    elim (cases_lt 16 (length text)) [
      | inl more ↦ length-longer key text ((length text + 15) / 16 - 2) (longer text more)
      | inr not_more ↦ length-one key text (omega arith)
    ]
