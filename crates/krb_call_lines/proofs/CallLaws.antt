-- Lines of calls: their digits, and where they are cut.
use Rattle.std.proofs.Common.{◌≡◌, ◌≢◌, inl, inr, ℤ, pos, neg_ℤ, subst, Bool, true, false, ℕ, ◌+◌, ◌*◌, ◌-◌, ◌<◌, ◌≤◌, List, [], ◌∷◌, ◌++◌, length, drop, get_or, ap, sym, refl, ◌∙◌, arith, All, suc, zero, Option, Some, None}
use Rattle.std.specs.Char.{digit_value}
use Rattle.std.specs.Int.{IsInRange}
use Rattle.std.specs.Str.Parse.{AllDigits, digits_value, digits_value_after}
use Rattle.std.proofs.lemmas.List.{drop_more}
use Rattle.std.proofs.lemmas.Str.{digit_value_digit}
use Rattle.hex.specs.Hex.{is_hex_digit}
use Rattle.hex.proofs.HexLemmas.{decode_of-ok}
use Rattle.std.specs.List.{AllPass}
use Rattle.krb_call_lines.specs.CallLine.{SpellsConfounder, SpellsMessage, SpellsNumber, SpellsRest, SpellsSeconds}
use Rattle.krb_call_lines.specs.Inner.Moments.{TellsMoment}

-- a number only grows with the digits after it
pub digits-grow : (number : ℕ) (digits : List ℕ) → number ≤ digits_value_after 10 number digits
digits-grow number [] = omega arith
digits-grow number (c ∷ cs) = omega (arith, digits-grow (number * 10 + digit_value c) cs)

-- so one that is too great with the next digit is too great with all
pub too_great : (digits : List ℕ) (i number greatest : ℕ) → i < length digits
    → digits_value 10 digits ≡ digits_value_after 10 number (drop i digits)
    → IsInRange 48 57 (get_or digits i 0) → greatest < 10 * number + (get_or digits i 0 - 48)
    → digits_value 10 digits ≤ greatest → ⊥
too_great digits i number greatest below value digit more within =
    let next = number * 10 + digit_value (get_or digits i 0) in
    let here : digits_value 10 digits ≡ digits_value_after 10 next (drop (i + 1) digits) =
    value ∙ ap (digits_value_after 10 number) (drop_more digits i 0 below) in
    omega (arith, here, digits-grow next (drop (i + 1) digits), digit_value_digit (get_or digits i 0) digit, more, within)

abbrev LacksSpace : List ℕ → Type 0
LacksSpace text = All (λ byte. byte ≢ 32) text

no_space : (text others : List ℕ) → LacksSpace (text ++ 32 ∷ others) → ⊥
no_space [] others none = none 0 0 (omega arith) refl
no_space (c ∷ cs) others none = no_space cs others (λ k d below. none (suc k) d (omega (arith, below)))

digit_is_no_space : (c : ℕ) → digit_value c < 10 → c ≢ 32
digit_is_no_space c digit = λ is. let bad : digit_value 32 < 10 = subst (λ x. digit_value x < 10) is digit in absurd (omega (arith, bad))

digits_lack_space : (digits : List ℕ) → AllDigits 10 digits → LacksSpace digits
digits_lack_space [] all k d below = absurd (omega (arith, below))
digits_lack_space (c ∷ cs) all zero d below = digit_is_no_space c all.0
digits_lack_space (c ∷ cs) all (suc k) d below = digits_lack_space cs all.1 k d (omega (arith, below))

minus_lacks_space : (digits : List ℕ) → LacksSpace digits → LacksSpace (45 ∷ digits)
minus_lacks_space digits none zero d below = λ is. absurd (omega (arith, is))
minus_lacks_space digits none (suc k) d below = none k d (omega (arith, below))

seconds_lack_space : (text : List ℕ) (seconds : ℤ) → SpellsSeconds text seconds → LacksSpace text
seconds_lack_space text seconds spells = elim spells [
  | inl before ↦ subst LacksSpace (sym before.text_is) (minus_lacks_space before.digits (digits_lack_space before.digits before.spells.0.1))
  | inr since ↦ digits_lack_space text since.spells.0.1
]

same_tail : (c d : ℕ) (cs ds : List ℕ) → c ∷ cs ≡ d ∷ ds → (c ≡ d) × (cs ≡ ds)
same_tail c d cs ds is = (ap (λ (l : List ℕ). get_or l 0 0) is, ap (drop 1) is)

-- a text is cut at its first space in one way
one_cut : (front back first others : List ℕ) → front ++ 32 ∷ back ≡ first ++ 32 ∷ others → LacksSpace front → LacksSpace first
    → (front ≡ first) × (back ≡ others)
one_cut [] back [] others is none lacks = (refl, (same_tail 32 32 back others is).1)
one_cut [] back (c ∷ cs) others is none lacks = absurd (lacks 0 0 (omega arith) (sym (same_tail 32 c back (cs ++ 32 ∷ others) is).0))
one_cut (c ∷ cs) back [] others is none lacks = absurd (none 0 0 (omega arith) (same_tail c 32 (cs ++ 32 ∷ back) others is).0)
one_cut (c ∷ cs) back (d ∷ ds) others is none lacks =
    let parts = same_tail c d (cs ++ 32 ∷ back) (ds ++ 32 ∷ others) is in
    let more = one_cut cs back ds others parts.1 (λ k e below. none (suc k) e (omega (arith, below))) (λ k e below. lacks (suc k) e (omega (arith, below))) in
    (ap (λ (x : ℕ). x ∷ cs) parts.0 ∙ ap (λ (l : List ℕ). d ∷ l) more.0, more.1)

pub none_told : (line : List ℕ) (moment : ℤ) (message : List ℕ) → LacksSpace line → TellsMoment line moment message → ⊥
none_told line moment message none tells =
    no_space tells.seconds_text (tells.micros_text ++ 32 ∷ message) (subst LacksSpace tells.line_is none)

-- the text before the first space is that of the seconds
pub first_told : (line front back : List ℕ) (moment : ℤ) (message : List ℕ) → line ≡ front ++ 32 ∷ back → LacksSpace front
    → (tells : TellsMoment line moment message) → (front ≡ tells.seconds_text) × (back ≡ tells.micros_text ++ 32 ∷ message)
first_told line front back moment message is none tells =
    one_cut front back tells.seconds_text (tells.micros_text ++ 32 ∷ message) (sym is ∙ tells.line_is) none
    (seconds_lack_space tells.seconds_text tells.seconds tells.spells_seconds)

pub half_told : (line front back : List ℕ) (moment : ℤ) (message : List ℕ) → line ≡ front ++ 32 ∷ back → LacksSpace front → LacksSpace back
    → TellsMoment line moment message → ⊥
half_told line front back moment message is none lacks tells =
    no_space tells.micros_text message (subst LacksSpace (first_told line front back moment message is none tells).1 lacks)

-- the text before the second space is that of the microseconds
pub second_told : (line front back middle last : List ℕ) (moment : ℤ) (message : List ℕ) → line ≡ front ++ 32 ∷ back → LacksSpace front
    → back ≡ middle ++ 32 ∷ last → LacksSpace middle → (tells : TellsMoment line moment message) → (middle ≡ tells.micros_text) × (last ≡ message)
second_told line front back middle last moment message is none back_is lacks tells =
    one_cut middle last tells.micros_text message (sym back_is ∙ (first_told line front back moment message is none tells).1) lacks
    (digits_lack_space tells.micros_text tells.spells_micros.0.1)

number_is_signless : (text digits : List ℕ) → text ≡ 45 ∷ digits → AllDigits 10 text → ⊥
number_is_signless text digits is all = let bad : AllDigits 10 (45 ∷ digits) = subst (AllDigits 10) is all in absurd (omega (arith, bad.0))

-- a text spells one number of seconds
pub one_second : (text : List ℕ) (one other : ℤ) → SpellsSeconds text one → SpellsSeconds text other → one ≡ other
one_second text one other spells again = elim spells [
  | inl before ↦ elim again [
    | inl also ↦ let same = (same_tail 45 45 before.digits also.digits (sym before.text_is ∙ also.text_is)).1 in
        before.seconds_is ∙ ap (λ (n : ℕ). neg_ℤ (pos n)) (sym before.spells.1.1 ∙ ap (digits_value 10) same ∙ also.spells.1.1) ∙ sym also.seconds_is
    | inr since ↦ absurd (number_is_signless text before.digits before.text_is since.spells.0.1)
  ]
  | inr since ↦ elim again [
    | inl before ↦ absurd (number_is_signless text before.digits before.text_is since.spells.0.1)
    | inr also ↦ since.seconds_is ∙ ap (λ (n : ℕ). pos n) (sym since.spells.1.1 ∙ also.spells.1.1) ∙ sym also.seconds_is
  ]
]

-- two moments of one line have one message
pub one_message : (line : List ℕ) (moment later : ℤ) (message other : List ℕ) → TellsMoment line moment message → TellsMoment line later other → message ≡ other
one_message line moment later message other tells again =
    (second_told line tells.seconds_text (tells.micros_text ++ 32 ∷ message) tells.micros_text message later other tells.line_is
    (seconds_lack_space tells.seconds_text tells.seconds tells.spells_seconds) refl
    (digits_lack_space tells.micros_text tells.spells_micros.0.1) again).1

-- a text that writes no microseconds isn't that of a moment
pub no_micros : (text told : List ℕ) (micros : ℕ) → text ≡ told → SpellsNumber 6 told micros → micros < 1_000_000
    → ((SpellsNumber 6 text (digits_value 10 text) × (digits_value 10 text ≤ 999_999)) → ⊥) → ⊥
no_micros text told micros same spells below none =
    let here : SpellsNumber 6 text micros = subst (λ t. SpellsNumber 6 t micros) (sym same) spells in
    none ((here.0, (here.1.0, refl)), omega (arith, here.1.1, below))

pub unlike : (b : Bool) → b ≡ false → b ≡ true → ⊥
unlike b one other = cc

-- ---- what follows the moment

digits_lack_spaces : (text : List ℕ) → AllPass is_hex_digit text → LacksSpace text
digits_lack_spaces text digits k d below is = not_digit (subst (λ (c : ℕ). is_hex_digit c ≡ true) is (digits k d below))
  where
    not_digit : is_hex_digit 32 ≡ true → ⊥
    not_digit e = cc

message_lacks_space : (text bytes : List ℕ) → SpellsMessage text bytes → LacksSpace text
message_lacks_space text bytes spells = elim spells [
  | inl none ↦ subst LacksSpace (sym none.0) (minus_lacks_space [] (λ k d below. absurd (omega (arith, below))))
  | inr some ↦ digits_lack_spaces text (decode_of-ok text bytes some.1).1
]

-- a text without a space has no confounder
pub alone : (text bytes : List ℕ) (confounder : Option (List ℕ)) → LacksSpace text → SpellsRest text bytes confounder → SpellsMessage text bytes
alone text bytes None none spells = spells
alone text bytes (Some confounder) none spells = absurd (no_space spells.message_text spells.confounder_text (subst LacksSpace spells.text_is none))

-- and one with a space has the text after the first for one
pub parted : (text front back bytes : List ℕ) (confounder : Option (List ℕ)) → text ≡ front ++ 32 ∷ back → LacksSpace front
    → SpellsRest text bytes confounder → (told : List ℕ) × (SpellsMessage front bytes × SpellsConfounder back told)
parted text front back bytes None is none spells = absurd (no_space front back (subst LacksSpace is (message_lacks_space text bytes spells)))
parted text front back bytes (Some confounder) is none spells =
    let same = one_cut front back spells.message_text spells.confounder_text (sym is ∙ spells.text_is) none
    (message_lacks_space spells.message_text bytes spells.spells_message) in (
      confounder,
      (
        subst (λ (t : List ℕ). SpellsMessage t bytes) (sym same.0) spells.spells_message,
        subst (λ (t : List ℕ). SpellsConfounder t confounder) (sym same.1) spells.spells_confounder,
      ),
    )
