-- Which blocks hold bytes.
use Rattle.std.proofs.Common.{All, ◌≡◌, ℕ, zero, suc, ◌+◌, ◌-◌, ◌*◌, ◌<◌, ◌≤◌, List, ◌++◌, length, take, drop, refl, arith, lit<, length-append, length-drop}
use Rattle.std.proofs.lemmas.List.{length-take-le}
use Rattle.std.proofs.lemmas.List.Elements.{All-append, All-take, All-drop, All-replicate}
use Rattle.krb_aes.specs.KeyExpansion.{IsKey}
use Rattle.krb_aes.specs.Cipher.{IsBlock}
use Rattle.krb_aes.proofs.RoundLaws.{IsBlock-cipher, IsBlock-inv_cipher}
use Rattle.krb_cts.specs.Stealing.{xor, zeros, block_count, plain_block, cipher_block, last_length}
use Rattle.krb_cts.specs.Undo.{last_undone, stolen_block, chained_block, undone_block}
use Rattle.krb_cts.proofs.Xor.{bytes-xor}
use Rattle.krb_cts.proofs.Blocks.{length-xor}
use Rattle.krb_cts.proofs.Ends.{IsLonger, count_is}
use Rattle.krb_cts.proofs.Stolen.{chained_cases, length-stolen_block}

abbrev pub AreBytes : List ℕ → Type 0
AreBytes text = All (λ byte. byte < 256) text

IsBlock-zeros : IsBlock zeros
IsBlock-zeros = record { size = refl; bytes = All-replicate (λ byte. byte < 256) 16 0 (lit< tt) }

pub IsBlock-xor : (one other : List ℕ) → IsBlock one → IsBlock other → IsBlock (xor one other)
IsBlock-xor one other a b = record {
  size = length-xor one other a.size b.size;
  bytes = bytes-xor one other a.bytes b.bytes;
}

-- 16 bytes of a text
pub IsBlock-part : (text : List ℕ) (at : ℕ) → AreBytes text → at + 16 ≤ length text → IsBlock (take 16 (drop at text))
IsBlock-part text at bytes fits = record {
  size = length-take-le 16 (drop at text) (omega (arith, length-drop at text));
  bytes = All-take (λ byte. byte < 256) 16 (drop at text) (All-drop (λ byte. byte < 256) at text bytes);
}

-- ---- encryption

pub IsBlock-plain_block : (text : List ℕ) (i : ℕ) → AreBytes text → IsBlock (plain_block text i)
IsBlock-plain_block text i bytes =
    let rest = drop (16 * (i - 1)) text in
    record {
      size = length-take-le 16 (rest ++ zeros) (omega (arith, length-append rest zeros));
      bytes = All-take (λ byte. byte < 256) 16 (rest ++ zeros)
          (All-append (λ byte. byte < 256) rest zeros (All-drop (λ byte. byte < 256) (16 * (i - 1)) text bytes) IsBlock-zeros.bytes);
    }

pub IsBlock-cipher_block : (key text : List ℕ) → IsKey key → AreBytes text → (i : ℕ) → IsBlock (cipher_block key text i)
unfolding cipher_block
IsBlock-cipher_block key text good bytes zero = IsBlock-zeros
IsBlock-cipher_block key text good bytes (suc i) =
    IsBlock-cipher key _ good
    (IsBlock-xor (plain_block text (suc i)) (cipher_block key text i) (IsBlock-plain_block text (suc i) bytes) (IsBlock-cipher_block key text good bytes i))

-- ---- decryption, of a text of j + 2 blocks

pub IsBlock-last_undone : (key text : List ℕ) (j : ℕ) → IsKey key → AreBytes text → IsLonger text j → IsBlock (last_undone key text)
IsBlock-last_undone key text j good bytes l =
    let two : block_count text - 2 ≡ j = omega (arith, count_is text j l) in
    IsBlock-inv_cipher key _ good (IsBlock-part text (16 * (block_count text - 2)) bytes (omega (arith, two, l.above)))

pub IsBlock-stolen_block : (key text : List ℕ) (j : ℕ) → IsKey key → AreBytes text → IsLonger text j → IsBlock (stolen_block key text)
IsBlock-stolen_block key text j good bytes l =
    let last : IsBlock (last_undone key text) = IsBlock-last_undone key text j good bytes l in
    record {
      size = length-stolen_block key text j l;
      bytes = All-append (λ byte. byte < 256) (drop (16 * (block_count text - 1)) text) (drop (last_length text) (last_undone key text))
          (All-drop (λ byte. byte < 256) (16 * (block_count text - 1)) text bytes)
          (All-drop (λ byte. byte < 256) (last_length text) (last_undone key text) last.bytes);
    }

pub IsBlock-chained_block : (key text : List ℕ) (j : ℕ) → IsKey key → AreBytes text → IsLonger text j → (i : ℕ) → i ≤ suc j → IsBlock (chained_block key text i)
IsBlock-chained_block key text j good bytes l =
    chained_cases IsBlock key text j l IsBlock-zeros
    (λ i lt. IsBlock-part text (16 * i) bytes (omega (arith, l.above)))
    (IsBlock-stolen_block key text j good bytes l)

pub IsBlock-undone_block : (key text : List ℕ) (j : ℕ) → IsKey key → AreBytes text → IsLonger text j → (i : ℕ) → i < suc j → IsBlock (undone_block key text (suc i))
IsBlock-undone_block key text j good bytes l i lt =
    IsBlock-xor _ _
    (IsBlock-inv_cipher key _ good (IsBlock-chained_block key text j good bytes l (suc i) (omega arith)))
    (IsBlock-chained_block key text j good bytes l (suc i - 1) (omega arith))
