-- What a text is undone to once C(m - 1) is whole again in its place.
use Rattle.std.proofs.Common.{◌≡◌, ℕ, zero, suc, ◌+◌, ◌-◌, ◌*◌, ◌<◌, ◌≤◌, eqb, true, false, List, ◌++◌, length, take, drop, refl, sym, ap, ap₂, ◌∙◌, append_assoc, append-nil, arith, length-append, length-drop, inl, inr}
use Rattle.std.proofs.lemmas.Bool.{eq-eqb, ne_eqb, cases_lt}
use Rattle.std.proofs.lemmas.List.{take_at, drop_at, take_all, take-append-le, drop-append-le, drop-take, take-take, length-take-le}
use Rattle.krb_aes.specs.Cipher.{inv_cipher}
use Rattle.krb_cts.specs.Stealing.{xor, zeros, block_count, joined}
use Rattle.krb_cts.specs.Undo.{last_undone, stolen_block, chained_block, undone_block, undo}
use Rattle.krb_cts.specs.Inner.Chain.{whole_block, unchained_block}
use Rattle.krb_cts.proofs.Xor.{xor-zeros}
use Rattle.krb_cts.proofs.Blocks.{length-inv_cipher}
use Rattle.krb_cts.proofs.Ends.{IsLonger, count_is, rest_of_one}
use Rattle.krb_cts.proofs.Stolen.{chained_front, chained_last, length-stolen_block}

pub undo-one : (key old text : List ℕ) → length old ≡ 16 → text ≡ joined (unchained_block key old) 1 ++ drop 16 old → text ≡ undo key old
unfolding undo joined whole_block
undo-one key old text one is =
    let test : eqb (length old) 16 ≡ true = eq-eqb _ _ one in
    let whole : take 16 old ≡ old = take_all 16 old (omega arith) in
    let plain : xor (inv_cipher key old) zeros ≡ inv_cipher key old = xor-zeros 16 (inv_cipher key old) (omega (arith, length-inv_cipher key old)) in
    is ∙ rw (rest_of_one old one, test, append-nil, whole) plain

-- a text whose last block is undone, and before it C(m - 1) whole
record IsGivenBack (key old back : List ℕ) (j : ℕ) : Type 0 where
  longer : IsLonger old j
  parts : back ≡ take (16 * j) old ++ stolen_block key old ++ take (length old - 16 * suc j) (xor (last_undone key old) (stolen_block key old))
  stolen : length (stolen_block key old) ≡ 16

length-front : (key old back : List ℕ) (j : ℕ) → IsGivenBack key old back j → length (take (16 * j) old) ≡ 16 * j
length-front key old back j g = length-take-le (16 * j) old (omega (arith, g.longer.above))

-- the first blocks are those of the text
front_block : (old rest : List ℕ) (i j : ℕ) → i < j → 16 * j ≤ length old → take 16 (drop (16 * i) (take (16 * j) old ++ rest)) ≡ take 16 (drop (16 * i) old)
front_block old rest i j lt le =
    let len : length (take (16 * j) old) ≡ 16 * j = length-take-le (16 * j) old le in
    let split : 16 * j ≡ 16 * i + (16 * j - 16 * i) = omega arith in
    let left : length (drop (16 * i) (take (16 * j) old)) ≡ 16 * j - 16 * i = length-drop (16 * i) (take (16 * j) old) ∙ ap (λ (n : ℕ). n - 16 * i) len in
    ap (λ (t : List ℕ). take 16 t) (drop-append-le (16 * i) (take (16 * j) old) rest (omega (arith, len)))
    ∙ take-append-le 16 (drop (16 * i) (take (16 * j) old)) rest (omega (arith, left))
    ∙ ap (λ (n : ℕ). take 16 (drop (16 * i) (take n old))) split
    ∙ ap (λ (t : List ℕ). take 16 t) (drop-take (16 * i) (16 * j - 16 * i) old)
    ∙ take-take 16 (16 * j - 16 * i) (drop (16 * i) old) (omega arith)

-- the blocks are those of the definition
chained_is : (key old back : List ℕ) (j : ℕ) → IsGivenBack key old back j → (i : ℕ) → i ≤ suc j → whole_block back i ≡ chained_block key old i
unfolding whole_block
chained_is key old back j g zero le = refl
chained_is key old back j g (suc i) le =
    let tail = take (length old - 16 * suc j) (xor (last_undone key old) (stolen_block key old)) in
    let apart : back ≡ take (16 * j) old ++ (stolen_block key old ++ tail) = g.parts ∙ append_assoc (take (16 * j) old) (stolen_block key old) tail in
    elim (cases_lt i j) [
      | inl lt ↦
          ap (λ (t : List ℕ). take 16 (drop (16 * i) t)) apart
          ∙ front_block old (stolen_block key old ++ tail) i j lt (omega (arith, g.longer.above))
          ∙ sym (chained_front key old j g.longer i lt)
      | inr ge ↦
          let same : i ≡ j = omega arith in
          ap₂ (λ (n : ℕ) (t : List ℕ). take 16 (drop (16 * n) t)) same apart
          ∙ ap (λ (t : List ℕ). take 16 t) (drop_at (take (16 * j) old) (stolen_block key old ++ tail) (16 * j) (length-front key old back j g))
          ∙ take_at (stolen_block key old) tail 16 g.stolen
          ∙ sym (chained_last key old j g.longer)
          ∙ ap (λ (n : ℕ). chained_block key old (suc n)) (sym same)
    ]

pub same_joined : (f g : ℕ → List ℕ) (n : ℕ) → ((i : ℕ) → i < n → f (suc i) ≡ g (suc i)) → joined f n ≡ joined g n
unfolding joined
same_joined f g zero same = refl
same_joined f g (suc n) same = ap₂ (λ (a b : List ℕ). a ++ b) (same_joined f g n (λ i lt. same i (omega arith))) (same n (omega arith))

undone_is : (key old back : List ℕ) (j : ℕ) → IsGivenBack key old back j → (i : ℕ) → i < suc j → unchained_block key back (suc i) ≡ undone_block key old (suc i)
undone_is key old back j g i lt =
    ap₂ (λ (a b : List ℕ). xor (inv_cipher key a) b) (chained_is key old back j g (suc i) (omega arith)) (chained_is key old back j g (suc i - 1) (omega arith))

pub undo-longer : (key old back text : List ℕ) (j : ℕ) → IsLonger old j
    → back ≡ take (16 * j) old ++ stolen_block key old ++ take (length old - 16 * suc j) (xor (last_undone key old) (stolen_block key old))
    → text ≡ joined (unchained_block key back) (suc j) ++ drop (16 * suc j) back
    → text ≡ undo key old
unfolding undo
undo-longer key old back text j l parts is =
    let g : IsGivenBack key old back j = record { longer = l; parts = parts; stolen = length-stolen_block key old j l } in
    let test : eqb (length old) 16 ≡ false = ne_eqb _ _ (λ e. absurd (omega (arith, l.above))) in
    let m : block_count old - 1 ≡ suc j = omega (arith, count_is old j l) in
    let len : length (take (16 * j) old ++ stolen_block key old) ≡ 16 * suc j =
    length-append (take (16 * j) old) (stolen_block key old) ∙ omega (arith, length-front key old back j g, g.stolen) in
    let rest : drop (16 * suc j) back ≡ take (length old - 16 * suc j) (xor (last_undone key old) (stolen_block key old)) =
    ap (λ (t : List ℕ). drop (16 * suc j) t) parts ∙ drop_at (take (16 * j) old ++ stolen_block key old) _ (16 * suc j) len in
    is ∙ rw (rest, same_joined (unchained_block key back) (undone_block key old) (suc j) (undone_is key old back j g), test, m) refl

-- the same, as the code writes it
pub given_back : (key old back : List ℕ) (j : ℕ) → IsLonger old j
    → back ≡ take (16 * j) old
    ++ (drop (16 * suc j) old ++ drop (length old - 16 * suc j) (inv_cipher key (take 16 (drop (16 * j) old))))
    ++ take (length old - 16 * suc j) (xor (inv_cipher key (take 16 (drop (16 * j) old)))
    (drop (16 * suc j) old ++ drop (length old - 16 * suc j) (inv_cipher key (take 16 (drop (16 * j) old)))))
    → back ≡ take (16 * j) old ++ stolen_block key old ++ take (length old - 16 * suc j) (xor (last_undone key old) (stolen_block key old))
given_back key old back j l is =
    let m : block_count old - 1 ≡ suc j = omega (arith, count_is old j l) in
    let two : block_count old - 2 ≡ j = omega (arith, count_is old j l) in
    rw (m, two) is
