-- The parts of what a text of j + 2 blocks is encrypted to.
use Rattle.std.proofs.Common.{◌≡◌, ℕ, suc, ◌+◌, ◌-◌, ◌*◌, ◌/◌, ◌<◌, ◌≤◌, eqb, true, false, List, ◌++◌, length, take, drop, refl, sym, ap, ◌∙◌, append_assoc, arith, length-append, inl, inr}
use Rattle.std.proofs.lemmas.Bool.{eq-eqb, ne_eqb, cases_lt}
use Rattle.std.proofs.lemmas.List.{take_at, drop_at, length-take-le}
use Rattle.krb_cts.specs.Stealing.{cipher_block, joined, cts}
use Rattle.krb_cts.proofs.Blocks.{length-joined, length-cipher_block}
use Rattle.krb_cts.proofs.Parts.{joined-block}
use Rattle.krb_cts.proofs.Ends.{IsLonger, count_is}
use Rattle.krb_cts.proofs.Lengths.{longer}

pub cts-parts : (key text : List ℕ) (j : ℕ) → IsLonger text j
    → cts key text ≡ joined (cipher_block key text) j ++ cipher_block key text (suc (suc j)) ++ take (length text - 16 * suc j) (cipher_block key text (suc j))
unfolding cts
cts-parts key text j l =
    let test : eqb (length text) 16 ≡ false = ne_eqb _ _ (λ e. absurd (omega (arith, l.above))) in
    let two : suc (suc j) - 2 ≡ j = omega arith in
    let one : suc (suc j) - 1 ≡ suc j = omega arith in
    rw (test, count_is text j l, two, one) refl

-- a text of one block
pub cts-block : (key text : List ℕ) → length text ≡ 16 → cts key text ≡ cipher_block key text 1
unfolding cts
cts-block key text one =
    let test : eqb (length text) 16 ≡ true = eq-eqb _ _ one in
    rw test refl

pub length-front : (key text : List ℕ) (j : ℕ) → length (joined (cipher_block key text) j) ≡ 16 * j
length-front key text j = length-joined (cipher_block key text) j (λ i _. length-cipher_block key text (suc i))

pub length-longer : (key text : List ℕ) (j : ℕ) → IsLonger text j → length (cts key text) ≡ length text
length-longer key text j l =
    let front = joined (cipher_block key text) j in
    let last = cipher_block key text (suc (suc j)) in
    let rest = take (length text - 16 * suc j) (cipher_block key text (suc j)) in
    let end = length-take-le (length text - 16 * suc j) (cipher_block key text (suc j)) (omega (arith, length-cipher_block key text (suc j), l.within)) in
    ap length (cts-parts key text j l)
    ∙ length-append (front ++ last) rest
    ∙ omega (arith, length-append front last, length-front key text j, length-cipher_block key text (suc (suc j)), end, l.above)

pub length-cts : (key text : List ℕ) → 16 ≤ length text → length (cts key text) ≡ length text
length-cts key text le =
    elim (cases_lt 16 (length text)) [
      | inl more ↦ length-longer key text ((length text + 15) / 16 - 2) (longer text more)
      | inr not_more ↦
          let one : length text ≡ 16 = omega arith in
          ap length (cts-block key text one) ∙ length-cipher_block key text 1 ∙ sym one
    ]

pub IsLonger-cts : (key text : List ℕ) (j : ℕ) → IsLonger text j → IsLonger (cts key text) j
IsLonger-cts key text j l =
    let same = length-longer key text j l in
    record { above = omega (arith, same, l.above); within = omega (arith, same, l.within) }

-- what stands after the first j blocks
behind : (key text : List ℕ) (j : ℕ) → List ℕ
behind key text j = cipher_block key text (suc (suc j)) ++ take (length text - 16 * suc j) (cipher_block key text (suc j))

cts-front : (key text : List ℕ) (j : ℕ) → IsLonger text j → cts key text ≡ joined (cipher_block key text) j ++ behind key text j
unfolding behind
cts-front key text j l = cts-parts key text j l ∙ append_assoc (joined (cipher_block key text) j) _ _

-- C(1) to C(j)
pub front-block : (key text : List ℕ) (j : ℕ) → IsLonger text j → (i : ℕ) → i < j → take 16 (drop (16 * i) (cts key text)) ≡ cipher_block key text (suc i)
front-block key text j l i lt =
    ap (λ (t : List ℕ). take 16 (drop (16 * i) t)) (cts-front key text j l)
    ∙ joined-block (cipher_block key text) j (behind key text j) (λ k _. length-cipher_block key text (suc k)) i lt

-- C(m) stands last but one
pub swapped-block : (key text : List ℕ) (j : ℕ) → IsLonger text j → take 16 (drop (16 * j) (cts key text)) ≡ cipher_block key text (suc (suc j))
unfolding behind
swapped-block key text j l =
    ap (λ (t : List ℕ). take 16 (drop (16 * j) t)) (cts-front key text j l)
    ∙ ap (λ (t : List ℕ). take 16 t) (drop_at (joined (cipher_block key text) j) (behind key text j) (16 * j) (length-front key text j))
    ∙ take_at (cipher_block key text (suc (suc j))) _ 16 (length-cipher_block key text (suc (suc j)))

-- and after it what is kept of C(m - 1)
pub kept-bytes : (key text : List ℕ) (j : ℕ) → IsLonger text j
    → drop (16 * suc j) (cts key text) ≡ take (length text - 16 * suc j) (cipher_block key text (suc j))
kept-bytes key text j l =
    let front = joined (cipher_block key text) j in
    let last = cipher_block key text (suc (suc j)) in
    let len : length (front ++ last) ≡ 16 * suc j = length-append front last ∙ omega (arith, length-front key text j, length-cipher_block key text (suc (suc j))) in
    ap (λ (t : List ℕ). drop (16 * suc j) t) (cts-parts key text j l) ∙ drop_at (front ++ last) _ (16 * suc j) len
