use Rattle.std.proofs.Common.{◌≡◌, ◌<◌, ◌∙◌, ℕ, List, [], ◌∷◌, length, drop, false, refl, sym, arith, length-drop}
use Rattle.krb_explain.specs.Input.{begins_with}
use Rattle.krb_explain.proofs.input.begins_with.Goals as goal

-- nothing begins with a word that has letters
nothing_begins : (word : List ℕ) → 0 < length word → begins_with word [] ≡ false
nothing_begins [] some = absurd (omega (arith, some))
nothing_begins (letter ∷ others) some = refl

nothing_left : (word text rest : List ℕ) (index : ℕ) → index < length word → length rest ≡ 0
    → begins_with (drop index word) rest ≡ begins_with word text → false ≡ begins_with word text
nothing_left word text [] index within none left =
    let some : 0 < length (drop index word) = grind (arith, length-drop) in
    sym (nothing_begins (drop index word) some) ∙ left
nothing_left word text (first ∷ others) index within none left = absurd (omega (arith, none))

pub returns-in_default-clause-value : goal.returns-in_default-clause-value
returns-in_default-clause-value c =
    nothing_left c.args.word.now c.args.text.now c.loop-letter.rest.now c.loop-letter.letter-index c.loop-letter-test.true
    c.in_default.ensures.cases c.loop-letter.invariant.left
