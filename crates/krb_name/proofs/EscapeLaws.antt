-- A byte that is read off a text is written there, and one that is written is read.
use Rattle.std.proofs.Common.{◌≡◌, ◌≢◌, ℕ, ◌+◌, ◌-◌, ◌*◌, ◌&&◌, ◌/◌, ◌%◌, ◌<◌, Bool, true, false, not, cond, eqb, leb, List, [], ◌∷◌, ◌++◌, Option, Some, None, refl, sym, ap, ◌∙◌, ◌⊎◌, inl, inr, arith}
use Rattle.std.proofs.lemmas.Bool.Decides.{nat_tests}
use Rattle.std.proofs.lemmas.Bool.{eqb-true}
use Rattle.std.proofs.lemmas.Option.{cond_some}
use Rattle.krb_file.specs.Cursor.{◌>>=◌}
use Rattle.krb_name.specs.Text.{is_special, is_printable, hex_digit, escaped_byte}
use Rattle.krb_name.specs.Reading.{IsUnprintable, IsNoEscape, IsSeparator}
use Rattle.krb_name.specs.Inner.Escapes.{hex_value, hex_byte, hex_at, escape_at, byte_at}
use Rattle.krb_file.proofs.CursorLaws.{bind_some, some_is}

-- which way a test went
chosen : {A : Type 0} (b : Bool) (x y z : A) → cond b x y ≡ z → ((b ≡ true) × (x ≡ z)) ⊎ ((b ≡ false) × (y ≡ z))
chosen true x y z e = inl (refl, e)
chosen false x y z e = inr (refl, e)

abbrev nothing : {A : Type 0} → Option A
nothing = None

none_is_some : {A : Type 0} (x : A) → nothing ≡ Some x → ⊥
none_is_some x e = cc

both_first : (a b : Bool) → (a && not b) ≡ true → a ≡ true
both_first true b e = refl
both_first false b e = e

both_second : (a b : Bool) → (a && not b) ≡ true → b ≡ false
both_second true true e = sym e
both_second true false e = refl
both_second false true e = absurd cc
both_second false false e = refl

plain_test : (b : ℕ) → is_printable b ≡ true → is_special b ≡ false → (is_printable b && not (is_special b)) ≡ true
plain_test b printable special = rw (printable, special) refl

pub true_or_false : (b : Bool) → (b ≡ true) ⊎ (b ≡ false)
true_or_false true = inl refl
true_or_false false = inr refl

special_separates : (b : ℕ) → is_special b ≡ true → eqb b 0x5c ≡ false → (b ≡ 0x2f) ⊎ (b ≡ 0x40)
special_separates b special other = grind (arith, nat_tests)

no_backslash : (b : ℕ) → is_special b ≡ false → eqb b 0x5c ≡ false
no_backslash b special = grind (arith, nat_tests)

special_small : (b : ℕ) → is_special b ≡ true → b < 128
special_small b e = grind (arith, nat_tests)

pub special_printable : (b : ℕ) → is_printable b ≡ false → is_special b ≡ false
special_printable b e = grind (arith, nat_tests)

printable_small : (b : ℕ) → is_printable b ≡ true → b < 128
printable_small b e = grind (arith, nat_tests)

decimal_is : (digit value : ℕ) → (leb 0x30 digit && leb digit 0x39) ≡ true → digit - 0x30 ≡ value → digit ≡ hex_digit value
decimal_is digit value test e = grind (arith, nat_tests)

decimal_small : (digit value : ℕ) → (leb 0x30 digit && leb digit 0x39) ≡ true → digit - 0x30 ≡ value → value < 16
decimal_small digit value test e = grind (arith, nat_tests)

letter_is : (digit value : ℕ) → (leb 0x61 digit && leb digit 0x66) ≡ true → digit - 0x57 ≡ value → digit ≡ hex_digit value
letter_is digit value test e = grind (arith, nat_tests)

letter_small : (digit value : ℕ) → (leb 0x61 digit && leb digit 0x66) ≡ true → digit - 0x57 ≡ value → value < 16
letter_small digit value test e = grind (arith, nat_tests)

pub hex_value_takes : (digit value : ℕ) → hex_value digit ≡ Some value → (digit ≡ hex_digit value) × (value < 16)
unfolding hex_value
hex_value_takes digit value e =
    elim (chosen (leb 0x30 digit && leb digit 0x39) (Some (digit - 0x30)) (cond (leb 0x61 digit && leb digit 0x66) (Some (digit - 0x57)) None) (Some value) e) [
      | inl decimal ↦ (decimal_is digit value decimal.0 (some_is _ _ decimal.1), decimal_small digit value decimal.0 (some_is _ _ decimal.1))
      | inr other ↦ let letter = cond_some (leb 0x61 digit && leb digit 0x66) (digit - 0x57) value other.1 in (letter_is digit value letter.0 letter.1, letter_small digit value letter.0 letter.1)
    ]

pub hex_value_again : (value : ℕ) → value < 16 → hex_value (hex_digit value) ≡ Some value
unfolding hex_value
hex_value_again value lt = grind (arith, nat_tests)

byte_of_digits : (high low : ℕ) → low < 16 → ((high * 16 + low) / 16 ≡ high) × ((high * 16 + low) % 16 ≡ low)
byte_of_digits high low lt = (omega arith, omega arith)

-- a byte that is written by two digits
pub record IsHex (high low byte : ℕ) : Type 0 where
  pub high_is : high ≡ hex_digit (byte / 16)
  pub low_is : low ≡ hex_digit (byte % 16)
  pub unprintable : is_printable byte ≡ false
  pub small : byte < 256

hex_made : (high low h l byte : ℕ) → (high ≡ hex_digit h) × (h < 16) → (low ≡ hex_digit l) × (l < 16) → is_printable (h * 16 + l) ≡ false → h * 16 + l ≡ byte → IsHex high low byte
hex_made high low h l byte p q unprintable e =
    let parts = byte_of_digits h l q.1 in
    let front : h ≡ byte / 16 = sym parts.0 ∙ ap (λ (n : ℕ). n / 16) e in
    let back : l ≡ byte % 16 = sym parts.1 ∙ ap (λ (n : ℕ). n % 16) e in
    record {
      high_is = p.0 ∙ ap hex_digit front;
      low_is = q.0 ∙ ap hex_digit back;
      unprintable = sym (ap is_printable e) ∙ unprintable;
      small = omega (arith, p.1, q.1);
    }

unless : {A : Type 0} (b : Bool) (x y : A) → cond b None (Some x) ≡ Some y → (b ≡ false) × (x ≡ y)
unless true x y e = absurd cc
unless false x y e = (refl, cc)

hex_byte_takes : (high low byte : ℕ) → hex_byte high low ≡ Some byte → IsHex high low byte
unfolding hex_byte
hex_byte_takes high low byte e =
    let h = bind_some (hex_value high) (λ h. hex_value low >>= λ l. cond (is_printable (h * 16 + l)) None (Some (h * 16 + l))) byte e in
    let l = bind_some (hex_value low) (λ l. cond (is_printable (h.0 * 16 + l)) None (Some (h.0 * 16 + l))) byte h.2 in
    let g = unless (is_printable (h.0 * 16 + l.0)) (h.0 * 16 + l.0) byte l.2 in
    hex_made high low h.0 l.0 byte (hex_value_takes high h.0 h.1) (hex_value_takes low l.0 l.1) g.0 g.1

hex_byte_again : (byte : ℕ) → byte < 256 → is_printable byte ≡ false → hex_byte (hex_digit (byte / 16)) (hex_digit (byte % 16)) ≡ Some byte
unfolding hex_byte
hex_byte_again byte lt unprintable =
    let whole : byte / 16 * 16 + byte % 16 ≡ byte = omega arith in
    let high = hex_value_again (byte / 16) (omega arith) in
    let low = hex_value_again (byte % 16) (omega arith) in
    rw (high, low, whole, unprintable) refl

-- how a byte is written, by its kind
pub written_special : (byte : ℕ) → is_special byte ≡ true → escaped_byte byte ≡ 0x5c ∷ byte ∷ []
written_special byte special = rw special refl

pub written_plain : (byte : ℕ) → is_special byte ≡ false → is_printable byte ≡ true → escaped_byte byte ≡ byte ∷ []
written_plain byte special printable = rw (special, printable) refl

pub written_hex : (byte : ℕ) → is_printable byte ≡ false → escaped_byte byte ≡ 0x5c ∷ 0x78 ∷ hex_digit (byte / 16) ∷ hex_digit (byte % 16) ∷ []
written_hex byte unprintable = rw (special_printable byte unprintable, unprintable) refl

-- a text whose front is a byte that is written there
pub record Writes (text : List ℕ) (byte : ℕ) (rest : List ℕ) : Type 0 where
  pub parts : text ≡ escaped_byte byte ++ rest
  pub small : byte < 256

hex_takes : (text : List ℕ) (byte : ℕ) (rest : List ℕ) → hex_at text ≡ Some (byte, rest) → Writes (0x5c ∷ 0x78 ∷ text) byte rest
unfolding hex_at
hex_takes [] byte rest e = absurd cc
hex_takes (high ∷ []) byte rest e = absurd cc
hex_takes (high ∷ low ∷ others) byte rest e =
    let b = bind_some (hex_byte high low) (λ made. Some (made, others)) (byte, rest) e in
    let pair = some_is (b.0, others) (byte, rest) b.2 in
    let byte_is : b.0 ≡ byte = ap (λ (p : ℕ × List ℕ). p.0) pair in
    let rest_is : others ≡ rest = ap (λ (p : ℕ × List ℕ). p.1) pair in
    let hex = hex_byte_takes high low byte (b.1 ∙ ap (λ (n : ℕ). Some n) byte_is) in
    record {
      parts = rw (written_hex byte hex.unprintable, hex.high_is, hex.low_is, rest_is) refl;
      small = hex.small;
    }

escape_takes : (text : List ℕ) (byte : ℕ) (rest : List ℕ) → escape_at text ≡ Some (byte, rest) → Writes (0x5c ∷ text) byte rest
unfolding escape_at
escape_takes [] byte rest e = absurd cc
escape_takes (first ∷ others) byte rest e =
    elim (chosen (is_special first) (Some (first, others)) (cond (eqb first 0x78) (hex_at others) None) (Some (byte, rest)) e) [
      | inl special ↦
          let pair = some_is (first, others) (byte, rest) special.1 in
          let byte_is : first ≡ byte = ap (λ (p : ℕ × List ℕ). p.0) pair in
          let rest_is : others ≡ rest = ap (λ (p : ℕ × List ℕ). p.1) pair in
          let is_special_byte : is_special byte ≡ true = sym (ap is_special byte_is) ∙ special.0 in
          let small = special_small byte is_special_byte in
          record { parts = rw (written_special byte is_special_byte, byte_is, rest_is) refl; small = omega arith }
      | inr other ↦
          elim (chosen (eqb first 0x78) (hex_at others) None (Some (byte, rest)) other.1) [
            | inl hex ↦ rw (eqb-true first 0x78 hex.0) (hex_takes others byte rest hex.1)
            | inr none ↦ absurd (none_is_some (byte, rest) none.1)
          ]
    ]

pub byte_takes : (text : List ℕ) (byte : ℕ) (rest : List ℕ) → byte_at text ≡ Some (byte, rest) → Writes text byte rest
unfolding byte_at
byte_takes [] byte rest e = absurd cc
byte_takes (first ∷ others) byte rest e =
    elim (chosen (eqb first 0x5c) (escape_at others) (cond (is_printable first && not (is_special first)) (Some (first, others)) None) (Some (byte, rest)) e) [
      | inl escape ↦ rw (eqb-true first 0x5c escape.0) (escape_takes others byte rest escape.1)
      | inr other ↦
          let plain = cond_some (is_printable first && not (is_special first)) (first, others) (byte, rest) other.1 in
          let byte_is : first ≡ byte = ap (λ (p : ℕ × List ℕ). p.0) plain.1 in
          let rest_is : others ≡ rest = ap (λ (p : ℕ × List ℕ). p.1) plain.1 in
          let printable : is_printable byte ≡ true = sym (ap is_printable byte_is) ∙ both_first _ _ plain.0 in
          let special : is_special byte ≡ false = sym (ap is_special byte_is) ∙ both_second _ _ plain.0 in
          let small = printable_small byte printable in
          record { parts = rw (written_plain byte special printable, byte_is, rest_is) refl; small = omega arith }
    ]

pub byte_again : (byte : ℕ) (rest : List ℕ) → byte < 256 → byte_at (escaped_byte byte ++ rest) ≡ Some (byte, rest)
unfolding byte_at escape_at hex_at
byte_again byte rest lt =
    elim (true_or_false (is_special byte)) [
      | inl special ↦ rw (written_special byte special, special) refl
      | inr other ↦ elim (true_or_false (is_printable byte)) [
        | inl printable ↦ rw (written_plain byte other printable, plain_test byte printable other, no_backslash byte other) refl
        | inr unprintable ↦ rw (written_hex byte unprintable, hex_byte_again byte lt unprintable) refl
      ]
    ]

-- where no byte is read, and neither the end nor a separator stands, there is an offence
pub none_offends : (text : List ℕ) → byte_at text ≡ None → text ≢ [] → (IsSeparator text → ⊥) → IsUnprintable text ⊎ IsNoEscape text
unfolding byte_at
none_offends [] e some none = absurd (some refl)
none_offends (first ∷ others) e some none =
    elim (true_or_false (eqb first 0x5c)) [
      | inl backslash ↦
          inr (record {
            others = others;
            rest_is = ap (λ (n : ℕ). n ∷ others) (eqb-true first 0x5c backslash);
            none = λ byte behind lt written. none_is_some (byte, behind) (sym e ∙ ap byte_at written ∙ byte_again byte behind lt);
          })
      | inr other ↦ elim (true_or_false (is_printable first)) [
        | inl printable ↦ elim (true_or_false (is_special first)) [
          | inl special ↦ absurd (none (record { byte = first; others = others; separates = special_separates first special other; rest_is = refl }))
          | inr plain ↦ absurd (none_is_some (first, others) (sym e ∙ rw (plain_test first printable plain, other) refl))
        ]
        | inr unprintable ↦ inl (record { byte = first; others = others; unprintable = unprintable; rest_is = refl })
      ]
    ]
