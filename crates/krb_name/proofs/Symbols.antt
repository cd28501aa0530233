-- A text as a row of symbols, which can be cut into symbols in one way only.
use Rattle.std.proofs.Common.{◌≡◌, ◌≢◌, ℕ, ◌<◌, true, false, eqb, inl, inr, List, [], ◌∷◌, ◌++◌, Option, Some, None, refl, sym, ap, subst, ◌∙◌, append_assoc, append-nil, arith}
use Rattle.std.specs.Prelude.{option_map, if◌then◌else◌}
use Rattle.std.specs.List.{flat_map, AllByRecursion}
use Rattle.std.proofs.lemmas.Bool.Decides.{nat_tests}
use Rattle.krb_name.specs.Text.{is_special, is_printable, escaped_byte}
use Rattle.krb_name.specs.Inner.Escapes.{byte_at}
use Rattle.krb_name.proofs.EscapeLaws.{byte_again, true_or_false, written_special, written_plain, written_hex}

-- a byte of a component or the realm, the `/` between two components, the `@` before the realm
pub data Symbol : Type 0 where
  Byte : ℕ → Symbol
  Slash : Symbol
  Sign : Symbol

abbrev pub spelled : Symbol → List ℕ
spelled (Byte b) = escaped_byte b
spelled Slash = 0x2f ∷ []
spelled Sign = 0x40 ∷ []

abbrev pub spelling : List Symbol → List ℕ
spelling symbols = flat_map spelled symbols

abbrev pub IsSymbol : Symbol → Type 0
IsSymbol (Byte b) = b < 256
IsSymbol Slash = Unit {0}
IsSymbol Sign = Unit {0}

-- ---- the symbol at the front

abbrev nothing : {A : Type 0} → Option A
nothing = None

symbol_at : List ℕ → Option (Symbol × List ℕ)
symbol_at [] = None
symbol_at (first ∷ rest) =
    if eqb first 0x2f
    then Some (Slash, rest)
    else (if eqb first 0x40 then Some (Sign, rest) else option_map (λ x. (Byte x.0, x.1)) (byte_at (first ∷ rest)))

-- what a byte's text begins with
pub record Begins (text : List ℕ) : Type 0 where
  pub first : ℕ
  pub others : List ℕ
  pub text_is : text ≡ first ∷ others
  pub printable : is_printable first ≡ true
  pub no_slash : eqb first 0x2f ≡ false
  pub no_sign : eqb first 0x40 ≡ false

plain_no_slash : (b : ℕ) → is_special b ≡ false → eqb b 0x2f ≡ false
plain_no_slash b e = grind (arith, nat_tests)

plain_no_sign : (b : ℕ) → is_special b ≡ false → eqb b 0x40 ≡ false
plain_no_sign b e = grind (arith, nat_tests)

pub byte_begins : (b : ℕ) → Begins (escaped_byte b)
byte_begins b =
    elim (true_or_false (is_special b)) [
      | inl special ↦ record { first = 0x5c; others = b ∷ []; text_is = written_special b special; printable = refl; no_slash = refl; no_sign = refl }
      | inr other ↦ elim (true_or_false (is_printable b)) [
        | inl printable ↦ record { first = b; others = []; text_is = written_plain b other printable; printable = printable; no_slash = plain_no_slash b other; no_sign = plain_no_sign b other }
        | inr unprintable ↦ record { first = 0x5c; others = _; text_is = written_hex b unprintable; printable = refl; no_slash = refl; no_sign = refl }
      ]
    ]

symbol_again : (s : Symbol) (rest : List ℕ) → IsSymbol s → symbol_at (spelled s ++ rest) ≡ Some (s, rest)
unfolding symbol_at
symbol_again Slash rest fits = refl
symbol_again Sign rest fits = refl
symbol_again (Byte b) rest fits =
    let front = byte_begins b in
    let whole : escaped_byte b ++ rest ≡ front.first ∷ (front.others ++ rest) = ap (λ (t : List ℕ). t ++ rest) front.text_is in
    let read : byte_at (front.first ∷ (front.others ++ rest)) ≡ Some (b, rest) = ap byte_at (sym whole) ∙ byte_again b rest fits in
    ap symbol_at whole ∙ rw (front.no_slash, front.no_sign, read) refl

pub no_symbol_at_end : (s : Symbol) (rest : List ℕ) → IsSymbol s → spelled s ++ rest ≢ []
unfolding symbol_at
no_symbol_at_end s rest fits e = none_is_some (s, rest) (sym (ap symbol_at e) ∙ symbol_again s rest fits)
  where
    none_is_some : (x : Symbol × List ℕ) → nothing ≡ Some x → ⊥
    none_is_some x e = cc

-- ---- rows of symbols

abbrev pub AreSymbols : List Symbol → Type 0
AreSymbols symbols = AllByRecursion IsSymbol symbols

-- two rows before a rest, which make the same text: one of them goes on where the other ends
pub data Compared (xs : List Symbol) (r : List ℕ) (ys : List Symbol) (q : List ℕ) : Type 0 where
  FirstShorter : (more : List Symbol) → ys ≡ xs ++ more → r ≡ spelling more ++ q → Compared xs r ys q
  SecondShorter : (more : List Symbol) → xs ≡ ys ++ more → q ≡ spelling more ++ r → Compared xs r ys q

regroup : (x : Symbol) (xs : List Symbol) (r : List ℕ) → spelling (x ∷ xs) ++ r ≡ spelled x ++ (spelling xs ++ r)
regroup x xs r = append_assoc (spelled x) (spelling xs) r

same_first : (x y : Symbol) (a b : List ℕ) → IsSymbol x → IsSymbol y → spelled x ++ a ≡ spelled y ++ b → (x ≡ y) × (a ≡ b)
same_first x y a b p q e =
    let pair = some_is (x, a) (y, b) (sym (symbol_again x a p) ∙ ap symbol_at e ∙ symbol_again y b q) in
    (ap (λ (s : Symbol × List ℕ). s.0) pair, ap (λ (s : Symbol × List ℕ). s.1) pair)
  where
    some_is : (v w : Symbol × List ℕ) → Some v ≡ Some w → v ≡ w
    some_is v w e = cc

longer : (x y : Symbol) (xs : List Symbol) (r : List ℕ) (ys : List Symbol) (q : List ℕ) → x ≡ y → Compared xs r ys q → Compared (x ∷ xs) r (y ∷ ys) q
longer x y xs r ys q e (FirstShorter more whole rest) = FirstShorter more (ap (λ (s : Symbol). s ∷ ys) (sym e) ∙ ap (λ (l : List Symbol). x ∷ l) whole) rest
longer x y xs r ys q e (SecondShorter more whole rest) = SecondShorter more (ap (λ (s : Symbol). s ∷ xs) e ∙ ap (λ (l : List Symbol). y ∷ l) whole) rest

pub compared : (xs : List Symbol) (r : List ℕ) (ys : List Symbol) (q : List ℕ) → AreSymbols xs → AreSymbols ys → spelling xs ++ r ≡ spelling ys ++ q → Compared xs r ys q
compared [] r ys q p s e = FirstShorter ys refl e
compared (x ∷ xs) r [] q p s e = SecondShorter (x ∷ xs) refl (sym e)
compared (x ∷ xs) r (y ∷ ys) q p s e =
    let same = same_first x y (spelling xs ++ r) (spelling ys ++ q) p.0 s.0 (sym (regroup x xs r) ∙ e ∙ regroup y ys q) in
    longer x y xs r ys q same.0 (compared xs r ys q p.1 s.1 same.1)

-- ---- the order of a name's symbols

-- those of a realm
abbrev pub ArePlain : List Symbol → Type 0
ArePlain [] = Unit {0}
ArePlain (Byte b ∷ symbols) = (b < 256) × ArePlain symbols
ArePlain (Slash ∷ symbols) = ⊥
ArePlain (Sign ∷ symbols) = ⊥

-- components, and after a `@` only a realm
abbrev pub InOrder : List Symbol → Type 0
InOrder [] = Unit {0}
InOrder (Byte b ∷ symbols) = (b < 256) × InOrder symbols
InOrder (Slash ∷ symbols) = InOrder symbols
InOrder (Sign ∷ symbols) = ArePlain symbols

ArePlain-front : (xs ys : List Symbol) → ArePlain (xs ++ ys) → ArePlain xs
ArePlain-front [] ys p = tt
ArePlain-front (Byte b ∷ xs) ys p = (p.0, ArePlain-front xs ys p.1)
ArePlain-front (Slash ∷ xs) ys p = absurd p
ArePlain-front (Sign ∷ xs) ys p = absurd p

pub InOrder-front : (xs ys : List Symbol) → InOrder (xs ++ ys) → InOrder xs
InOrder-front [] ys p = tt
InOrder-front (Byte b ∷ xs) ys p = (p.0, InOrder-front xs ys p.1)
InOrder-front (Slash ∷ xs) ys p = InOrder-front xs ys p
InOrder-front (Sign ∷ xs) ys p = ArePlain-front xs ys p

ArePlain-symbols : (xs : List Symbol) → ArePlain xs → AreSymbols xs
ArePlain-symbols [] p = tt
ArePlain-symbols (Byte b ∷ xs) p = (p.0, ArePlain-symbols xs p.1)
ArePlain-symbols (Slash ∷ xs) p = absurd p
ArePlain-symbols (Sign ∷ xs) p = absurd p

pub InOrder-symbols : (xs : List Symbol) → InOrder xs → AreSymbols xs
InOrder-symbols [] p = tt
InOrder-symbols (Byte b ∷ xs) p = (p.0, InOrder-symbols xs p.1)
InOrder-symbols (Slash ∷ xs) p = (tt, InOrder-symbols xs p)
InOrder-symbols (Sign ∷ xs) p = (tt, ArePlain-symbols xs p)

-- ---- texts that are read to where they stop

-- symbols in order, after which none goes on in order
pub record Stops (text : List ℕ) (symbols : List Symbol) (rest : List ℕ) : Type 0 where
  pub order : InOrder symbols
  pub parts : text ≡ spelling symbols ++ rest
  pub stuck : (s : Symbol) (behind : List ℕ) → InOrder (symbols ++ s ∷ []) → rest ≡ spelled s ++ behind → ⊥

no_more : (xs more ys : List Symbol) (r q : List ℕ) → InOrder ys → ((s : Symbol) (behind : List ℕ) → InOrder (xs ++ s ∷ []) → r ≡ spelled s ++ behind → ⊥)
    → ys ≡ xs ++ more → r ≡ spelling more ++ q → (xs ≡ ys) × (r ≡ q)
no_more xs [] ys r q order stuck whole rest = (sym (append-nil xs) ∙ sym whole, rest)
no_more xs (s ∷ more) ys r q order stuck whole rest =
    let grouped : InOrder ((xs ++ s ∷ []) ++ more) = subst InOrder (whole ∙ sym (append_assoc xs (s ∷ []) more)) order in
    absurd (stuck s (spelling more ++ q) (InOrder-front (xs ++ s ∷ []) more grouped) (rest ∙ regroup s more q))

-- a text stops at one place only
pub one_stop : (text : List ℕ) (xs : List Symbol) (r : List ℕ) (ys : List Symbol) (q : List ℕ) → Stops text xs r → Stops text ys q → (xs ≡ ys) × (r ≡ q)
one_stop text xs r ys q a b =
    elim (compared xs r ys q (InOrder-symbols xs a.order) (InOrder-symbols ys b.order) (sym a.parts ∙ b.parts)) [
      | FirstShorter more whole rest ↦ no_more xs more ys r q b.order a.stuck whole rest
      | SecondShorter more whole rest ↦ let same = no_more ys more xs q r a.order b.stuck whole rest in (sym same.0, sym same.1)
    ]
