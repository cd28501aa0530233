-- What the last two blocks are encrypted to, of a text of j + 2 blocks or of one.
use Rattle.std.proofs.Common.{◌≡◌, ℕ, suc, ◌+◌, ◌-◌, ◌*◌, ◌<◌, ◌≤◌, eqb, true, false, List, [], ◌++◌, length, take, drop, refl, sym, ap, ◌∙◌, append_assoc, append-nil, arith, length-drop}
use Rattle.std.proofs.lemmas.Bool.{eq-eqb, ne_eqb}
use Rattle.std.proofs.lemmas.List.{take_at, drop_at, take-replicate, drop-replicate}
use Rattle.std.proofs.Math.Seq.{take-append-add}
use Rattle.std.proofs.Math.ListN.{drop_of_length-le}
use Rattle.krb_aes.specs.Cipher.{cipher}
use Rattle.krb_cts.specs.Stealing.{xor, zeros, block_count, plain_block, cipher_block, joined, cts}
use Rattle.krb_cts.proofs.Blocks.{length-joined, length-cipher_block}

-- a text of j + 2 blocks
pub record IsLonger (text : List ℕ) (j : ℕ) : Type 0 where
  pub above : 16 * suc j < length text
  pub within : length text ≤ 16 * suc j + 16

pub count_is : (text : List ℕ) (j : ℕ) → IsLonger text j → block_count text ≡ suc (suc j)
count_is text j l = omega (arith, l.above, l.within)

-- a block filled with zeros
filled : (bytes : List ℕ) → length bytes ≤ 16 → take 16 (bytes ++ zeros) ≡ bytes ++ drop (length bytes) zeros
filled bytes le =
    let k : ℕ = 16 - length bytes in
    let split : 16 ≡ length bytes + k = omega arith in
    let same : take k zeros ≡ drop (length bytes) zeros = take-replicate k 16 0 (omega arith) ∙ sym (drop-replicate (length bytes) 16 0) in
    ap (λ (n : ℕ). take n (bytes ++ zeros)) split ∙ take-append-add bytes zeros k ∙ ap (λ (t : List ℕ). bytes ++ t) same

-- nothing is left after the one block
pub rest_of_one : (text : List ℕ) → length text ≡ 16 → drop 16 text ≡ []
rest_of_one text one =
    let le : length text ≤ 16 = omega arith in
    drop_of_length-le text le

-- the parts of a stolen text, where m is known
cts_of : List ℕ → List ℕ → ℕ → List ℕ
unfolding joined
cts_of key old m =
    joined (cipher_block key old) (m - 2) ++ cipher_block key old m ++ take (length old - 16 * (m - 1)) (cipher_block key old (m - 1))

cts-of : (key old : List ℕ) (j : ℕ) → IsLonger old j → cts key old ≡ cts_of key old (suc (suc j))
unfolding cts cts_of
cts-of key old j l =
    let test : eqb (length old) 16 ≡ false = ne_eqb _ _ (λ e. absurd (omega (arith, l.above))) in
    rw (test, count_is old j l) refl

-- the last block, filled with zeros
pub last_plain : (old : List ℕ) (j : ℕ) → IsLonger old j → plain_block old (suc (suc j)) ≡ drop (16 * suc j) old ++ drop (length old - 16 * suc j) zeros
last_plain old j l =
    let at : 16 * (suc (suc j) - 1) ≡ 16 * suc j = omega arith in
    let len : length (drop (16 * suc j) old) ≡ length old - 16 * suc j = length-drop (16 * suc j) old in
    rw at (filled (drop (16 * suc j) old) (omega (arith, len, l.within)) ∙ ap (λ (n : ℕ). drop (16 * suc j) old ++ drop n zeros) len)

-- a text of one block
pub cts-one : (key old text : List ℕ) → length old ≡ 16 → text ≡ joined (cipher_block key old) 1 ++ drop 16 old → text ≡ cts key old
unfolding cts joined
cts-one key old text one is =
    let test : eqb (length old) 16 ≡ true = eq-eqb _ _ one in
    is ∙ rw (rest_of_one old one, test) (append-nil _)

-- a text whose blocks but the last are chained, and whose last two were then swapped
pub cts-longer : (key old chained text : List ℕ) (j : ℕ) → IsLonger old j
    → chained ≡ joined (cipher_block key old) (suc j) ++ drop (16 * suc j) old
    → text ≡ take (16 * j) chained
    ++ cipher key (xor (drop (16 * suc j) chained ++ drop (length old - 16 * suc j) zeros) (cipher_block key old (suc j)))
    ++ take (length old - 16 * suc j) (cipher_block key old (suc j))
    → text ≡ cts key old
unfolding joined cipher_block cts_of
cts-longer key old chained text j l parts is =
    let block = cipher_block key old in
    let len = length-joined block (suc j) (λ i _. length-cipher_block key old (suc i)) in
    let len_j = length-joined block j (λ i _. length-cipher_block key old (suc i)) in
    let back : drop (16 * suc j) chained ≡ drop (16 * suc j) old = ap (λ (t : List ℕ). drop (16 * suc j) t) parts ∙ drop_at (joined block (suc j)) (drop (16 * suc j) old) (16 * suc j) len in
    let front : take (16 * j) chained ≡ joined block j =
    ap (λ (t : List ℕ). take (16 * j) t) (parts ∙ append_assoc (joined block j) (block (suc j)) (drop (16 * suc j) old)) ∙ take_at (joined block j) (block (suc j) ++ drop (16 * suc j) old) (16 * j) len_j in
    let last : cipher key (xor (drop (16 * suc j) chained ++ drop (length old - 16 * suc j) zeros) (block (suc j))) ≡ block (suc (suc j)) =
    ap (λ (b : List ℕ). cipher key (xor b (block (suc j)))) (ap (λ (t : List ℕ). t ++ drop (length old - 16 * suc j) zeros) back ∙ sym (last_plain old j l)) in
    let two : suc (suc j) - 2 ≡ j = omega arith in
    let one : suc (suc j) - 1 ≡ suc j = omega arith in
    is ∙ rw (front, last) (sym (cts-of key old j l ∙ rw (two, one) refl))
