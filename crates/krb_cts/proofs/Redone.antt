-- What was undone is encrypted to the text again.
use Rattle.std.proofs.Common.{◌≡◌, ℕ, zero, suc, ◌+◌, ◌-◌, ◌*◌, ◌/◌, ◌<◌, ◌≤◌, eqb, true, List, ◌++◌, length, take, drop, replicate, refl, sym, ap, ap₂, ◌∙◌, arith, length-drop, inl, inr}
use Rattle.std.proofs.lemmas.Bool.{eq-eqb, cases_lt}
use Rattle.std.proofs.lemmas.List.{take_at, drop_at, take_all, take-append-drop, drop-replicate}
use Rattle.std.proofs.Math.Seq.{take-add}
use Rattle.krb_aes.specs.KeyExpansion.{IsKey}
use Rattle.krb_aes.specs.Cipher.{IsBlock, cipher, inv_cipher}
use Rattle.krb_aes.proofs.RoundLaws.{cipher-inv_cipher}
use Rattle.krb_cts.specs.Stealing.{IsText, xor, zeros, block_count, plain_block, cipher_block, joined, cts}
use Rattle.krb_cts.specs.Undo.{last_undone, stolen_block, chained_block, undone_block, undo}
use Rattle.krb_cts.proofs.Xor.{xor-zeros, xor-itself, drop-xor, xor-twice}
use Rattle.krb_cts.proofs.Blocks.{length-joined, length-inv_cipher, plain_block-whole}
use Rattle.krb_cts.proofs.Parts.{joined-block, joined-cut}
use Rattle.krb_cts.proofs.Ends.{IsLonger, count_is, last_plain}
use Rattle.krb_cts.proofs.Stolen.{chained_front, chained_last, stolen_parts, length-stolen_block}
use Rattle.krb_cts.proofs.Bytes.{IsBlock-part, IsBlock-chained_block}
use Rattle.krb_cts.proofs.Lengths.{longer, undo-of, length-longer, length-undone_block}
use Rattle.krb_cts.proofs.Encrypted.{cts-block, cts-parts}
use Rattle.krb_cts.proofs.Undone.{IsCase}

-- D, and the last bytes of the text before they are cut
last_whole : List ℕ → List ℕ → List ℕ
last_whole key text = xor (last_undone key text) (stolen_block key text)

IsLonger-undo : (key text : List ℕ) (j : ℕ) → IsLonger text j → IsLonger (undo key text) j
IsLonger-undo key text j l =
    let same = length-longer key text j l in
    record { above = omega (arith, same, l.above); within = omega (arith, same, l.within) }

undo-parts : (key text : List ℕ) (j : ℕ) → IsLonger text j
    → undo key text ≡ joined (undone_block key text) (suc j) ++ take (length text - 16 * suc j) (last_whole key text)
unfolding last_whole
undo-parts key text j l = undo-of key text j l

-- P(1) to P(m - 1)
plain_block-undo : (key text : List ℕ) (j : ℕ) → IsLonger text j → (i : ℕ) → i < suc j → plain_block (undo key text) (suc i) ≡ undone_block key text (suc i)
plain_block-undo key text j l i lt =
    plain_block-whole i (undo key text) (omega (arith, length-longer key text j l, l.above))
    ∙ ap (λ (t : List ℕ). take 16 (drop (16 * i) t)) (undo-parts key text j l)
    ∙ joined-block (undone_block key text) (suc j) _ (length-undone_block key text j l) i lt

-- C(i) xor C(i - 1) twice
chained_again : (key text : List ℕ) (j : ℕ) → IsCase key text j → (i : ℕ) → i < suc j
    → cipher key (xor (undone_block key text (suc i)) (chained_block key text i)) ≡ chained_block key text (suc i)
chained_again key text j c i lt =
    let before : suc i - 1 ≡ i = omega arith in
    let this : IsBlock (chained_block key text (suc i)) = IsBlock-chained_block key text j c.good c.bytes c.longer (suc i) (omega arith) in
    let last : IsBlock (chained_block key text i) = IsBlock-chained_block key text j c.good c.bytes c.longer i (omega arith) in
    let undone = inv_cipher key (chained_block key text (suc i)) in
    ap (λ (n : ℕ). cipher key (xor (xor undone (chained_block key text n)) (chained_block key text i))) before
    ∙ ap (cipher key) (xor-twice undone (chained_block key text i) (omega (arith, length-inv_cipher key (chained_block key text (suc i)), last.size)))
    ∙ cipher-inv_cipher key (chained_block key text (suc i)) c.good this

cipher_block-undo : (key text : List ℕ) (j : ℕ) → IsCase key text j → (i : ℕ) → i ≤ suc j → cipher_block key (undo key text) i ≡ chained_block key text i
unfolding cipher_block
cipher_block-undo key text j c zero le = refl
cipher_block-undo key text j c (suc i) le =
    ap₂ (λ (a b : List ℕ). cipher key (xor a b)) (plain_block-undo key text j c.longer i (omega arith)) (cipher_block-undo key text j c i (omega arith))
    ∙ chained_again key text j c i (omega arith)

-- what fills the last block is zeros
filled : (key text : List ℕ) (j : ℕ) → IsLonger text j → drop (length text - 16 * suc j) (last_whole key text) ≡ drop (length text - 16 * suc j) zeros
unfolding last_whole
filled key text j l =
    let r : ℕ = length text - 16 * suc j in
    let last = last_undone key text in
    let size : length (drop r last) ≡ 16 - r = length-drop r last ∙ ap (λ (n : ℕ). n - r) (length-inv_cipher key _) in
    let stolen : drop r (stolen_block key text) ≡ drop r last =
    ap (λ (t : List ℕ). drop r t) (stolen_parts key text j l) ∙ drop_at (drop (16 * suc j) text) (drop r last) r (length-drop (16 * suc j) text) in
    drop-xor r last (stolen_block key text)
    ∙ ap (xor (drop r last)) stolen
    ∙ xor-itself (drop r last)
    ∙ ap (λ (n : ℕ). replicate n 0) size
    ∙ sym (drop-replicate r 16 0)

-- P(m), filled
last_plain-undo : (key text : List ℕ) (j : ℕ) → IsLonger text j → plain_block (undo key text) (suc (suc j)) ≡ last_whole key text
last_plain-undo key text j l =
    let r : ℕ = length text - 16 * suc j in
    let whole = last_whole key text in
    let same : length (undo key text) ≡ length text = length-longer key text j l in
    let front : length (joined (undone_block key text) (suc j)) ≡ 16 * suc j = length-joined (undone_block key text) (suc j) (length-undone_block key text j l) in
    last_plain (undo key text) j (IsLonger-undo key text j l)
    ∙ ap₂ (λ (t : List ℕ) (n : ℕ). drop (16 * suc j) t ++ drop (n - 16 * suc j) zeros) (undo-parts key text j l) same
    ∙ ap₂ (λ (a b : List ℕ). a ++ b) (drop_at (joined (undone_block key text) (suc j)) (take r whole) (16 * suc j) front) (sym (filled key text j l))
    ∙ take-append-drop r whole

-- C(m)
last_cipher-undo : (key text : List ℕ) (j : ℕ) → IsCase key text j → cipher_block key (undo key text) (suc (suc j)) ≡ take 16 (drop (16 * j) text)
unfolding cipher_block last_whole
last_cipher-undo key text j c =
    let two : block_count text - 2 ≡ j = omega (arith, count_is text j c.longer) in
    let last = last_undone key text in
    let stolen = stolen_block key text in
    let size : length stolen ≡ 16 = length-stolen_block key text j c.longer in
    ap₂ (λ (a b : List ℕ). cipher key (xor a b))
    (last_plain-undo key text j c.longer)
    (cipher_block-undo key text j c (suc j) (omega arith) ∙ chained_last key text j c.longer)
    ∙ ap (cipher key) (xor-twice last stolen (omega (arith, size, length-inv_cipher key (take 16 (drop (16 * (block_count text - 2)) text)))))
    ∙ cipher-inv_cipher key _ c.good (IsBlock-part text (16 * (block_count text - 2)) c.bytes (omega (arith, two, c.longer.above)))
    ∙ ap (λ (n : ℕ). take 16 (drop (16 * n) text)) two

front-undo : (key text : List ℕ) (j : ℕ) → IsCase key text j → joined (cipher_block key (undo key text)) j ≡ take (16 * j) text
front-undo key text j c =
    joined-cut (cipher_block key (undo key text)) text j
    (λ i lt. cipher_block-undo key text j c (suc i) (omega arith) ∙ chained_front key text j c.longer i lt)

-- what is kept of C(m - 1)
kept-undo : (key text : List ℕ) (j : ℕ) → IsCase key text j
    → take (length text - 16 * suc j) (cipher_block key (undo key text) (suc j)) ≡ drop (16 * suc j) text
kept-undo key text j c =
    let r : ℕ = length text - 16 * suc j in
    ap (λ (t : List ℕ). take r t) (cipher_block-undo key text j c (suc j) (omega arith) ∙ chained_last key text j c.longer ∙ stolen_parts key text j c.longer)
    ∙ take_at (drop (16 * suc j) text) _ r (length-drop (16 * suc j) text)

cts-undo_longer : (key text : List ℕ) (j : ℕ) → IsCase key text j → cts key (undo key text) ≡ text
cts-undo_longer key text j c =
    let plain = undo key text in
    let same : length plain ≡ length text = length-longer key text j c.longer in
    let next : 16 * j + 16 ≡ 16 * suc j = omega arith in
    cts-parts key plain j (IsLonger-undo key text j c.longer)
    ∙ ap (λ (n : ℕ). joined (cipher_block key plain) j ++ cipher_block key plain (suc (suc j)) ++ take (n - 16 * suc j) (cipher_block key plain (suc j))) same
    ∙ ap₂ (λ (a b : List ℕ). a ++ b)
    (ap₂ (λ (a b : List ℕ). a ++ b) (front-undo key text j c) (last_cipher-undo key text j c) ∙ sym (take-add (16 * j) 16 text) ∙ ap (λ (n : ℕ). take n text) next)
    (kept-undo key text j c)
    ∙ take-append-drop (16 * suc j) text

cts-undo_one : (key text : List ℕ) → IsKey key → IsBlock text → cts key (undo key text) ≡ text
unfolding undo cipher_block
cts-undo_one key text good block =
    let plain = inv_cipher key text in
    let size : length plain ≡ 16 = length-inv_cipher key text in
    let test : eqb (length text) 16 ≡ true = eq-eqb _ _ block.size in
    let undone : undo key text ≡ plain = rw test refl in
    let whole : plain_block plain 1 ≡ plain = plain_block-whole 0 plain (omega arith) ∙ take_all 16 plain (omega arith) in
    ap (cts key) undone
    ∙ cts-block key plain size
    ∙ ap (λ (t : List ℕ). cipher key (xor t zeros)) whole
    ∙ ap (cipher key) (xor-zeros 16 plain (omega arith))
    ∙ cipher-inv_cipher key text good block

pub cts-undo : (key text : List ℕ) → IsKey key → IsText text → cts key (undo key text) ≡ text
cts-undo key text good t =
    elim (cases_lt 16 (length text)) [
      | inl more ↦ cts-undo_longer key text ((length text + 15) / 16 - 2) (record { good = good; bytes = t.bytes; longer = longer text more })
      | inr not_more ↦ cts-undo_one key text good (record { size = omega (arith, t.size); bytes = t.bytes })
    ]
