-- Texts stay texts, and encryption is one to one and onto.
use Rattle.std.proofs.Common.{◌≡◌, ℕ, suc, ◌+◌, ◌-◌, ◌*◌, ◌/◌, ◌<◌, eqb, true, List, ◌++◌, length, take, refl, sym, ap, ◌∙◌, subst, arith, inl, inr}
use Rattle.std.proofs.lemmas.Bool.{eq-eqb, cases_lt}
use Rattle.std.proofs.lemmas.List.Elements.{All-append, All-take}
use Rattle.krb_aes.specs.KeyExpansion.{IsKey}
use Rattle.krb_aes.specs.Cipher.{IsBlock, inv_cipher}
use Rattle.krb_aes.proofs.RoundLaws.{IsBlock-inv_cipher}
use Rattle.krb_cts.specs.Stealing.{IsText, xor, cipher_block, joined, cts}
use Rattle.krb_cts.specs.Undo.{last_undone, stolen_block, undone_block, undo}
use Rattle.krb_cts.proofs.Parts.{bytes-joined}
use Rattle.krb_cts.proofs.Bytes.{AreBytes, IsBlock-xor, IsBlock-cipher_block, IsBlock-last_undone, IsBlock-stolen_block, IsBlock-undone_block}
use Rattle.krb_cts.proofs.Lengths.{longer, undo-of, length-undo}
use Rattle.krb_cts.proofs.Encrypted.{cts-block, cts-parts, length-cts}
use Rattle.krb_cts.proofs.Undone.{IsCase, undo-cts}
use Rattle.krb_cts.proofs.Redone.{cts-undo}

bytes-cts : (key text : List ℕ) (j : ℕ) → IsCase key text j → AreBytes (cts key text)
bytes-cts key text j c =
    let block : (i : ℕ) → AreBytes (cipher_block key text i) = λ i. (IsBlock-cipher_block key text c.good c.bytes i).bytes in
    let r : ℕ = length text - 16 * suc j in
    subst AreBytes (sym (cts-parts key text j c.longer))
    (All-append (λ byte. byte < 256) (joined (cipher_block key text) j ++ cipher_block key text (suc (suc j))) (take r (cipher_block key text (suc j)))
    (All-append (λ byte. byte < 256) (joined (cipher_block key text) j) (cipher_block key text (suc (suc j)))
    (bytes-joined (cipher_block key text) j (λ i lt. block (suc i))) (block (suc (suc j))))
    (All-take (λ byte. byte < 256) r (cipher_block key text (suc j)) (block (suc j))))

bytes-undo : (key text : List ℕ) (j : ℕ) → IsCase key text j → AreBytes (undo key text)
bytes-undo key text j c =
    let r : ℕ = length text - 16 * suc j in
    let last = last_undone key text in
    let stolen = stolen_block key text in
    let end : IsBlock (xor last stolen) =
    IsBlock-xor last stolen (IsBlock-last_undone key text j c.good c.bytes c.longer) (IsBlock-stolen_block key text j c.good c.bytes c.longer) in
    subst AreBytes (sym (undo-of key text j c.longer))
    (All-append (λ byte. byte < 256) (joined (undone_block key text) (suc j)) (take r (xor last stolen))
    (bytes-joined (undone_block key text) (suc j) (λ i lt. (IsBlock-undone_block key text j c.good c.bytes c.longer i lt).bytes))
    (All-take (λ byte. byte < 256) r (xor last stolen) end.bytes))

undo-block : (key text : List ℕ) → length text ≡ 16 → undo key text ≡ inv_cipher key text
unfolding undo
undo-block key text one =
    let test : eqb (length text) 16 ≡ true = eq-eqb _ _ one in
    rw test refl

pub IsText-cts : (key text : List ℕ) → IsKey key → IsText text → IsText (cts key text)
IsText-cts key text good t = record {
  size = omega (arith, length-cts key text t.size, t.size);
  bytes = elim (cases_lt 16 (length text)) [
    | inl more ↦ bytes-cts key text ((length text + 15) / 16 - 2) (record { good = good; bytes = t.bytes; longer = longer text more })
    | inr not_more ↦ subst AreBytes (sym (cts-block key text (omega (arith, t.size)))) (IsBlock-cipher_block key text good t.bytes 1).bytes
  ];
}

pub IsText-undo : (key text : List ℕ) → IsKey key → IsText text → IsText (undo key text)
IsText-undo key text good t = record {
  size = omega (arith, length-undo key text t.size, t.size);
  bytes = elim (cases_lt 16 (length text)) [
    | inl more ↦ bytes-undo key text ((length text + 15) / 16 - 2) (record { good = good; bytes = t.bytes; longer = longer text more })
    | inr not_more ↦
        let one : length text ≡ 16 = omega (arith, t.size) in
        subst AreBytes (sym (undo-block key text one)) (IsBlock-inv_cipher key text good (record { size = one; bytes = t.bytes })).bytes
  ];
}

pub one_to_one : (key one other : List ℕ) → IsKey key → IsText one → IsText other → cts key one ≡ cts key other → one ≡ other
one_to_one key one other good a b same = sym (undo-cts key one good a) ∙ ap (undo key) same ∙ undo-cts key other good b

pub onto : (key text : List ℕ) → IsKey key → IsText text → (plain : List ℕ) × IsText plain × (length plain ≡ length text) × (cts key plain ≡ text)
onto key text good t = (undo key text, IsText-undo key text good t, length-undo key text t.size, cts-undo key text good t)
