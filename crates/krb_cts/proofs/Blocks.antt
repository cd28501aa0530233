-- Blocks that stand one after another in a text.
use Rattle.std.proofs.Common.{◌≡◌, ℕ, zero, suc, ◌+◌, ◌-◌, ◌*◌, ◌<◌, ◌≤◌, List, ◌++◌, length, take, drop, refl, sym, ap, ◌∙◌, arith, length-append, length-drop, bit_xor}
use Rattle.std.proofs.lemmas.List.{take_at, drop_at, take-append-le, drop-drop, length-take-le}
use Rattle.std.proofs.lemmas.Simd.{length-zip2}
use Rattle.krb_aes.specs.Cipher.{cipher, inv_cipher, inv_rounds}
use Rattle.krb_aes.specs.State.{add_round_key}
use Rattle.krb_cts.specs.Stealing.{xor, zeros, plain_block, cipher_block, joined}
use Rattle.krb_cts.specs.Inner.Chain.{whole_block, unchained_block}

-- ---- lengths

pub length-cipher : (key block : List ℕ) → length (cipher key block) ≡ 16
unfolding cipher add_round_key
length-cipher key block = refl

pub length-cipher_block : (key text : List ℕ) (i : ℕ) → length (cipher_block key text i) ≡ 16
unfolding cipher_block
length-cipher_block key text zero = refl
length-cipher_block key text (suc i) = length-cipher key _

pub cipher_block-zero : (key text : List ℕ) → cipher_block key text 0 ≡ zeros
unfolding cipher_block
cipher_block-zero key text = refl

pub length-joined : (block : ℕ → List ℕ) (n : ℕ) → ((i : ℕ) → i < n → length (block (suc i)) ≡ 16) → length (joined block n) ≡ 16 * n
unfolding joined
length-joined block zero whole = refl
length-joined block (suc n) whole =
    length-append (joined block n) (block (suc n)) ∙ omega (arith, whole n (omega arith), length-joined block n (λ i lt. whole i (omega arith)))

-- what is left of INVCIPHER has 16 bytes
pub length-inv_rounds : (k : ℕ → List ℕ) (j : ℕ) (s : List ℕ) → length (inv_rounds k j s) ≡ 16
unfolding inv_rounds add_round_key
length-inv_rounds k zero s = refl
length-inv_rounds k (suc j) s = length-inv_rounds k j _

-- ---- a text whose first blocks are done

-- the first n blocks are done, and the others are as they were
pub record IsDone (block : ℕ → List ℕ) (n : ℕ) (old text : List ℕ) : Type 0 where
  pub parts : text ≡ joined block n ++ drop (16 * n) old
  pub whole : (i : ℕ) → i < n → length (block (suc i)) ≡ 16

pub next_block : (block : ℕ → List ℕ) (n : ℕ) (old text : List ℕ) → IsDone block n old text → take 16 (drop (16 * n) text) ≡ take 16 (drop (16 * n) old)
next_block block n old text d =
    ap (λ (t : List ℕ). take 16 (drop (16 * n) t)) d.parts ∙ ap (λ (t : List ℕ). take 16 t) (drop_at (joined block n) (drop (16 * n) old) (16 * n) (length-joined block n d.whole))

pub goes_on : (block : ℕ → List ℕ) (n : ℕ) (old text next : List ℕ) → IsDone block n old text → 16 * n + 16 ≤ length old → next ≡ block (suc n)
    → take (16 * n) text ++ next ++ drop (16 * n + 16) text ≡ joined block (suc n) ++ drop (16 * suc n) old
unfolding joined
goes_on block n old text next d fits is =
    let len = length-joined block n d.whole in
    let front : take (16 * n) text ≡ joined block n = ap (λ (t : List ℕ). take (16 * n) t) d.parts ∙ take_at (joined block n) (drop (16 * n) old) (16 * n) len in
    let back : drop (16 * n) text ≡ drop (16 * n) old = ap (λ (t : List ℕ). drop (16 * n) t) d.parts ∙ drop_at (joined block n) (drop (16 * n) old) (16 * n) len in
    let rest : drop (16 * n + 16) text ≡ drop (16 * suc n) old =
    sym (drop-drop 16 (16 * n) text) ∙ ap (λ (t : List ℕ). drop 16 t) back ∙ drop-drop 16 (16 * n) old ∙ ap (λ (k : ℕ). drop k old) (omega arith) in
    rw (front, is, rest) refl

-- block n + 1 of a text that has it whole
pub plain_block-whole : (n : ℕ) (text : List ℕ) → 16 * n + 16 ≤ length text → plain_block text (suc n) ≡ take 16 (drop (16 * n) text)
plain_block-whole n text fits =
    let at : 16 * (suc n - 1) ≡ 16 * n = omega arith in
    rw at (take-append-le 16 (drop (16 * n) text) zeros (omega (arith, length-drop (16 * n) text)))

pub cipher_block-next : (key text : List ℕ) (n : ℕ) → 16 * n + 16 ≤ length text
    → cipher key (xor (take 16 (drop (16 * n) text)) (cipher_block key text n)) ≡ cipher_block key text (suc n)
unfolding cipher_block
cipher_block-next key text n fits = ap (λ (b : List ℕ). cipher key (xor b (cipher_block key text n))) (sym (plain_block-whole n text fits))

pub length-inv_cipher : (key block : List ℕ) → length (inv_cipher key block) ≡ 16
unfolding inv_cipher
length-inv_cipher key block = length-inv_rounds _ _ _

-- ---- whole blocks

pub length-whole_block : (text : List ℕ) (i : ℕ) → 16 * i ≤ length text → length (whole_block text i) ≡ 16
unfolding whole_block
length-whole_block text zero fits = refl
length-whole_block text (suc i) fits = length-take-le 16 (drop (16 * i) text) (omega (arith, length-drop (16 * i) text))

pub length-xor : (one other : List ℕ) → length one ≡ 16 → length other ≡ 16 → length (xor one other) ≡ 16
length-xor one other long_one long_other = length-zip2 bit_xor one other (long_one ∙ sym long_other) ∙ long_one

pub length-unchained_block : (key text : List ℕ) (i : ℕ) → 16 * i + 16 ≤ length text → length (unchained_block key text (suc i)) ≡ 16
length-unchained_block key text i fits =
    let before : suc i - 1 ≡ i = omega arith in
    length-xor _ _ (length-inv_cipher key _) (rw before (length-whole_block text i (omega arith)))

pub unchained_block-next : (key text : List ℕ) (n : ℕ)
    → xor (inv_cipher key (take 16 (drop (16 * n) text))) (whole_block text n) ≡ unchained_block key text (suc n)
unfolding whole_block
unchained_block-next key text n =
    let before : suc n - 1 ≡ n = omega arith in
    rw before refl
