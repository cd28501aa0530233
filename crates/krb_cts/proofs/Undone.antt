-- What was encrypted is undone to the text.
use Rattle.std.proofs.Common.{◌≡◌, ℕ, zero, suc, ◌+◌, ◌-◌, ◌*◌, ◌/◌, ◌<◌, ◌≤◌, eqb, true, List, ◌++◌, length, take, drop, replicate, sym, ap, ap₂, ◌∙◌, arith, length-drop, inl, inr}
use Rattle.std.proofs.lemmas.Bool.{eq-eqb, cases_lt}
use Rattle.std.proofs.lemmas.List.{take_at, drop_at, take_all, take-append-drop, drop-replicate}
use Rattle.krb_aes.specs.KeyExpansion.{IsKey}
use Rattle.krb_aes.specs.Cipher.{inv_cipher}
use Rattle.krb_aes.proofs.RoundLaws.{inv_cipher-cipher}
use Rattle.krb_cts.specs.Stealing.{IsText, xor, zeros, block_count, plain_block, cipher_block, joined, cts}
use Rattle.krb_cts.specs.Undo.{last_undone, stolen_block, chained_block, undone_block, undo}
use Rattle.krb_cts.proofs.Xor.{xor-zeros, zeros-xor, drop-xor, xor-twice}
use Rattle.krb_cts.proofs.Blocks.{cipher_block-zero, length-cipher_block, plain_block-whole}
use Rattle.krb_cts.proofs.Parts.{joined-cut}
use Rattle.krb_cts.proofs.Ends.{IsLonger, count_is, last_plain}
use Rattle.krb_cts.proofs.Stolen.{chained_front, chained_last, stolen_parts}
use Rattle.krb_cts.proofs.Bytes.{AreBytes, IsBlock-xor, IsBlock-plain_block, IsBlock-cipher_block}
use Rattle.krb_cts.proofs.Lengths.{longer, undo-of}
use Rattle.krb_cts.proofs.Encrypted.{cts-block, length-longer, length-cts, IsLonger-cts, front-block, swapped-block, kept-bytes}

-- a text of bytes under a key, of j + 2 blocks
pub record IsCase (key text : List ℕ) (j : ℕ) : Type 0 where
  pub good : IsKey key
  pub bytes : AreBytes text
  pub longer : IsLonger text j

-- C(i + 1), undone by the block cipher alone
undone_cipher : (key text : List ℕ) → IsKey key → AreBytes text → (i : ℕ) → inv_cipher key (cipher_block key text (suc i)) ≡ xor (plain_block text (suc i)) (cipher_block key text i)
unfolding cipher_block
undone_cipher key text good bytes i =
    inv_cipher-cipher key _ good
    (IsBlock-xor (plain_block text (suc i)) (cipher_block key text i) (IsBlock-plain_block text (suc i) bytes) (IsBlock-cipher_block key text good bytes i))

last_undone-cts : (key text : List ℕ) (j : ℕ) → IsCase key text j
    → last_undone key (cts key text) ≡ xor (plain_block text (suc (suc j))) (cipher_block key text (suc j))
last_undone-cts key text j c =
    let two : block_count (cts key text) - 2 ≡ j = omega (arith, count_is (cts key text) j (IsLonger-cts key text j c.longer)) in
    ap (λ (n : ℕ). inv_cipher key (take 16 (drop (16 * n) (cts key text)))) two
    ∙ ap (inv_cipher key) (swapped-block key text j c.longer)
    ∙ undone_cipher key text c.good c.bytes (suc j)

-- after the text, P(m) is zeros: there D is C(m - 1)
end_undone : (key text : List ℕ) (j : ℕ) → IsCase key text j
    → drop (length text - 16 * suc j) (last_undone key (cts key text)) ≡ drop (length text - 16 * suc j) (cipher_block key text (suc j))
end_undone key text j c =
    let r : ℕ = length text - 16 * suc j in
    let chained = cipher_block key text (suc j) in
    let rest = drop (16 * suc j) text in
    let size : length rest ≡ r = length-drop (16 * suc j) text in
    let filled : drop r (plain_block text (suc (suc j))) ≡ replicate (16 - r) 0 =
    ap (λ (t : List ℕ). drop r t) (last_plain text j c.longer) ∙ drop_at rest (drop r zeros) r size ∙ drop-replicate r 16 0 in
    ap (λ (t : List ℕ). drop r t) (last_undone-cts key text j c)
    ∙ drop-xor r (plain_block text (suc (suc j))) chained
    ∙ ap (λ (t : List ℕ). xor t (drop r chained)) filled
    ∙ zeros-xor (16 - r) (drop r chained) (omega (arith, length-drop r chained, length-cipher_block key text (suc j)))

stolen_block-cts : (key text : List ℕ) (j : ℕ) → IsCase key text j → stolen_block key (cts key text) ≡ cipher_block key text (suc j)
stolen_block-cts key text j c =
    let encrypted = cts key text in
    let same : length encrypted ≡ length text = length-longer key text j c.longer in
    let r : ℕ = length text - 16 * suc j in
    stolen_parts key encrypted j (IsLonger-cts key text j c.longer)
    ∙ ap (λ (n : ℕ). drop (16 * suc j) encrypted ++ drop (n - 16 * suc j) (last_undone key encrypted)) same
    ∙ ap₂ (λ (a b : List ℕ). a ++ b) (kept-bytes key text j c.longer) (end_undone key text j c)
    ∙ take-append-drop r (cipher_block key text (suc j))

chained_block-cts : (key text : List ℕ) (j : ℕ) → IsCase key text j → (i : ℕ) → i ≤ suc j → chained_block key (cts key text) i ≡ cipher_block key text i
chained_block-cts key text j c zero le = sym (cipher_block-zero key text)
chained_block-cts key text j c (suc i) le =
    let l : IsLonger (cts key text) j = IsLonger-cts key text j c.longer in
    elim (cases_lt i j) [
      | inl lt ↦ chained_front key (cts key text) j l i lt ∙ front-block key text j c.longer i lt
      | inr ge ↦
          let same : j ≡ i = omega arith in
          ap (λ (n : ℕ). chained_block key (cts key text) (suc n)) (sym same)
          ∙ chained_last key (cts key text) j l
          ∙ stolen_block-cts key text j c
          ∙ ap (λ (n : ℕ). cipher_block key text (suc n)) same
    ]

undone_block-cts : (key text : List ℕ) (j : ℕ) → IsCase key text j → (i : ℕ) → i < suc j → undone_block key (cts key text) (suc i) ≡ take 16 (drop (16 * i) text)
undone_block-cts key text j c i lt =
    let before : suc i - 1 ≡ i = omega arith in
    let plain = plain_block text (suc i) in
    let chained = cipher_block key text i in
    let size = (IsBlock-plain_block text (suc i) c.bytes).size in
    ap₂ (λ (a b : List ℕ). xor (inv_cipher key a) b)
    (chained_block-cts key text j c (suc i) (omega arith))
    (ap (chained_block key (cts key text)) before ∙ chained_block-cts key text j c i (omega arith))
    ∙ ap (λ (t : List ℕ). xor t chained) (undone_cipher key text c.good c.bytes i)
    ∙ xor-twice plain chained (omega (arith, size, length-cipher_block key text i))
    ∙ plain_block-whole i text (omega (arith, c.longer.above))

-- the last bytes
end-cts : (key text : List ℕ) (j : ℕ) → IsCase key text j
    → take (length text - 16 * suc j) (xor (last_undone key (cts key text)) (stolen_block key (cts key text))) ≡ drop (16 * suc j) text
end-cts key text j c =
    let r : ℕ = length text - 16 * suc j in
    let plain = plain_block text (suc (suc j)) in
    let chained = cipher_block key text (suc j) in
    let rest = drop (16 * suc j) text in
    let size = (IsBlock-plain_block text (suc (suc j)) c.bytes).size in
    ap₂ (λ (a b : List ℕ). take r (xor a b)) (last_undone-cts key text j c) (stolen_block-cts key text j c)
    ∙ ap (λ (t : List ℕ). take r t) (xor-twice plain chained (omega (arith, size, length-cipher_block key text (suc j))) ∙ last_plain text j c.longer)
    ∙ take_at rest (drop r zeros) r (length-drop (16 * suc j) text)

undo-cts_longer : (key text : List ℕ) (j : ℕ) → IsCase key text j → undo key (cts key text) ≡ text
undo-cts_longer key text j c =
    let encrypted = cts key text in
    let same : length encrypted ≡ length text = length-longer key text j c.longer in
    undo-of key encrypted j (IsLonger-cts key text j c.longer)
    ∙ ap (λ (n : ℕ). joined (undone_block key encrypted) (suc j) ++ take (n - 16 * suc j) (xor (last_undone key encrypted) (stolen_block key encrypted))) same
    ∙ ap₂ (λ (a b : List ℕ). a ++ b) (joined-cut (undone_block key encrypted) text (suc j) (undone_block-cts key text j c)) (end-cts key text j c)
    ∙ take-append-drop (16 * suc j) text

undo-cts_one : (key text : List ℕ) → IsKey key → AreBytes text → length text ≡ 16 → undo key (cts key text) ≡ text
unfolding undo cipher_block
undo-cts_one key text good bytes one =
    let size : length (cts key text) ≡ length text = length-cts key text (omega arith) in
    let test : eqb (length (cts key text)) 16 ≡ true = eq-eqb _ _ (size ∙ one) in
    let whole : plain_block text 1 ≡ text = plain_block-whole 0 text (omega arith) ∙ take_all 16 text (omega arith) in
    rw test (ap (inv_cipher key) (cts-block key text one) ∙ undone_cipher key text good bytes 0 ∙ ap (λ (t : List ℕ). xor t zeros) whole ∙ xor-zeros 16 text (omega arith))

pub undo-cts : (key text : List ℕ) → IsKey key → IsText text → undo key (cts key text) ≡ text
undo-cts key text good t =
    elim (cases_lt 16 (length text)) [
      | inl more ↦ undo-cts_longer key text ((length text + 15) / 16 - 2) (record { good = good; bytes = t.bytes; longer = longer text more })
      | inr not_more ↦ undo-cts_one key text good t.bytes (omega (arith, t.size))
    ]
