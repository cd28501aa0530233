-- Names as rows of symbols, their spelling and their order, and after what no symbol goes on.
use Rattle.std.proofs.Common.{◌≡◌, ℕ, suc, Bool, true, false, eqb, ◌⊎◌, inl, inr, List, [], ◌∷◌, ◌++◌, map, refl, sym, ap, subst, ◌∙◌, append_assoc, append-nil}
use Rattle.std.specs.List.{AllByRecursion}
use Rattle.std.proofs.lemmas.Bool.{eq-eqb}
use Rattle.std.proofs.lemmas.Grind.{flat_map-append}
use Rattle.std.proofs.lemmas.List.Folds.{flat_map-map}
use Rattle.krb_file.specs.Field.{IsBytes}
use Rattle.krb_name.specs.Text.{is_printable, escaped_byte, escaped}
use Rattle.krb_name.specs.Reading.{AreComponents, components_text, IsUnprintable, IsNoEscape, IsSeparator}
use Rattle.krb_name.proofs.Symbols.{Symbol, Byte, Slash, Sign, spelled, spelling, IsSymbol, AreSymbols, ArePlain, InOrder, InOrder-symbols, byte_begins}

abbrev pub of_bytes : List ℕ → List Symbol
of_bytes bytes = map Byte bytes

abbrev pub of_components : List (List ℕ) → List Symbol
of_components [] = []
of_components (one ∷ []) = of_bytes one
of_components (one ∷ two ∷ others) = of_bytes one ++ Slash ∷ of_components (two ∷ others)

abbrev pub of_name : List (List ℕ) → List ℕ → List Symbol
of_name components realm = of_components components ++ Sign ∷ of_bytes realm

-- ---- their spelling

pub spelling-of_bytes : (bytes : List ℕ) → spelling (of_bytes bytes) ≡ escaped bytes
spelling-of_bytes bytes = flat_map-map spelled Byte bytes

pub spelling-of_components : (components : List (List ℕ)) → spelling (of_components components) ≡ components_text components
spelling-of_components [] = refl
spelling-of_components (one ∷ []) = spelling-of_bytes one
spelling-of_components (one ∷ two ∷ others) =
    flat_map-append spelled (of_bytes one) (Slash ∷ of_components (two ∷ others)) ∙ rw (spelling-of_bytes one) (ap (λ (t : List ℕ). escaped one ++ 0x2f ∷ t) (spelling-of_components (two ∷ others)))

pub spelling-of_name : (components : List (List ℕ)) (realm : List ℕ) → spelling (of_name components realm) ≡ components_text components ++ 0x40 ∷ escaped realm
spelling-of_name components realm =
    flat_map-append spelled (of_components components) (Sign ∷ of_bytes realm) ∙ rw (spelling-of_components components) (ap (λ (t : List ℕ). components_text components ++ 0x40 ∷ t) (spelling-of_bytes realm))

-- ---- their order

pub ArePlain-of_bytes : (bytes : List ℕ) → IsBytes bytes → ArePlain (of_bytes bytes)
ArePlain-of_bytes [] fits = tt
ArePlain-of_bytes (byte ∷ bytes) fits = (fits 0, ArePlain-of_bytes bytes (λ i. fits (suc i)))

pub InOrder-behind : (bytes : List ℕ) (symbols : List Symbol) → IsBytes bytes → InOrder symbols → InOrder (of_bytes bytes ++ symbols)
InOrder-behind [] symbols fits p = p
InOrder-behind (byte ∷ bytes) symbols fits p = (fits 0, InOrder-behind bytes symbols (λ i. fits (suc i)) p)

pub InOrder-of_components : (components : List (List ℕ)) (symbols : List Symbol) → AllByRecursion IsBytes components → InOrder symbols → InOrder (of_components components ++ symbols)
InOrder-of_components [] symbols fits p = p
InOrder-of_components (one ∷ []) symbols fits p = InOrder-behind one symbols fits.0 p
InOrder-of_components (one ∷ two ∷ others) symbols fits p =
    subst InOrder (sym (append_assoc (of_bytes one) (Slash ∷ of_components (two ∷ others)) symbols)) (InOrder-behind one (Slash ∷ (of_components (two ∷ others) ++ symbols)) fits.0 (InOrder-of_components (two ∷ others) symbols fits.1 p))

pub components_in_order : (components : List (List ℕ)) → AreComponents components → InOrder (of_components components)
components_in_order components are = subst InOrder (append-nil (of_components components)) (InOrder-of_components components [] are.bytes tt)

pub name_in_order : (components : List (List ℕ)) (realm : List ℕ) → AreComponents components → IsBytes realm → InOrder (of_name components realm)
name_in_order components realm are fits = InOrder-of_components components (Sign ∷ of_bytes realm) are.bytes (ArePlain-of_bytes realm fits)

-- ---- what can't go on

pub last_symbol : (symbols : List Symbol) (s : Symbol) → InOrder (symbols ++ s ∷ []) → IsSymbol s
last_symbol symbols s order = last_of symbols s (InOrder-symbols (symbols ++ s ∷ []) order)
  where
    last_of : (symbols : List Symbol) (s : Symbol) → AreSymbols (symbols ++ s ∷ []) → IsSymbol s
    last_of [] s p = p.0
    last_of (x ∷ xs) s p = last_of xs s p.1

pub first_is : (a b : ℕ) (xs ys : List ℕ) → a ∷ xs ≡ b ∷ ys → a ≡ b
first_is a b xs ys e = cc

pub true_is_false : (b : Bool) → b ≡ true → b ≡ false → ⊥
true_is_false b p q = true≢false (sym p ∙ q)
  where
    true≢false : true ≡ false → ⊥
    true≢false e = cc

-- what a rest begins with, where a byte's text stands there
pub begins_with : (rest : List ℕ) (byte : ℕ) (others : List ℕ) (b : ℕ) (behind : List ℕ) → rest ≡ byte ∷ others → rest ≡ escaped_byte b ++ behind → byte ≡ (byte_begins b).first
begins_with rest byte others b behind rest_is e =
    let front = byte_begins b in
    first_is byte front.first others (front.others ++ behind) (sym rest_is ∙ e ∙ ap (λ (t : List ℕ). t ++ behind) front.text_is)

pub unprintable_stuck : (rest : List ℕ) (s : Symbol) (behind : List ℕ) → IsUnprintable rest → rest ≡ spelled s ++ behind → ⊥
unprintable_stuck rest (Byte b) behind h e =
    let same = begins_with rest h.byte h.others b behind h.rest_is e in
    true_is_false (is_printable h.byte) (ap is_printable same ∙ (byte_begins b).printable) h.unprintable
unprintable_stuck rest Slash behind h e = true_is_false (is_printable h.byte) (ap is_printable (first_is h.byte 0x2f h.others behind (sym h.rest_is ∙ e))) h.unprintable
unprintable_stuck rest Sign behind h e = true_is_false (is_printable h.byte) (ap is_printable (first_is h.byte 0x40 h.others behind (sym h.rest_is ∙ e))) h.unprintable

pub other_byte : (a b : ℕ) → a ≡ b → eqb a b ≡ false → ⊥
other_byte a b e f = true_is_false (eqb a b) (eq-eqb a b e) f

pub no_escape_stuck : (rest : List ℕ) (s : Symbol) (behind : List ℕ) → IsNoEscape rest → IsSymbol s → rest ≡ spelled s ++ behind → ⊥
no_escape_stuck rest (Byte b) behind h fits e = h.none b behind fits e
no_escape_stuck rest Slash behind h fits e = other_byte 0x5c 0x2f (first_is 0x5c 0x2f h.others behind (sym h.rest_is ∙ e)) refl
no_escape_stuck rest Sign behind h fits e = other_byte 0x5c 0x40 (first_is 0x5c 0x40 h.others behind (sym h.rest_is ∙ e)) refl

-- after the sign of a name there is no separator
pub no_sign_in : (xs ys : List Symbol) → ArePlain (xs ++ Sign ∷ ys) → ⊥
no_sign_in [] ys p = p
no_sign_in (Byte b ∷ xs) ys p = no_sign_in xs ys p.1
no_sign_in (Slash ∷ xs) ys p = p
no_sign_in (Sign ∷ xs) ys p = p

pub behind_sign : (xs ys : List Symbol) → InOrder (xs ++ Sign ∷ ys) → ArePlain ys
behind_sign [] ys p = p
behind_sign (Byte b ∷ xs) ys p = behind_sign xs ys p.1
behind_sign (Slash ∷ xs) ys p = behind_sign xs ys p
behind_sign (Sign ∷ xs) ys p = absurd (no_sign_in xs ys p)

abbrev pub IsByte : Symbol → Type 0
IsByte (Byte b) = Unit {0}
IsByte Slash = ⊥
IsByte Sign = ⊥

pub plain_last : (bytes : List ℕ) (s : Symbol) → ArePlain (of_bytes bytes ++ s ∷ []) → IsByte s
plain_last [] (Byte b) p = tt
plain_last [] Slash p = p
plain_last [] Sign p = p
plain_last (byte ∷ bytes) s p = plain_last bytes s p.1

pub realm_last : (components : List (List ℕ)) (realm : List ℕ) (s : Symbol) → InOrder (of_name components realm ++ s ∷ []) → IsByte s
realm_last components realm s order =
    plain_last realm s (behind_sign (of_components components) (of_bytes realm ++ s ∷ []) (subst InOrder (append_assoc (of_components components) (Sign ∷ of_bytes realm) (s ∷ [])) order))

pub separates_no_byte : (rest : List ℕ) (b : ℕ) (behind : List ℕ) (h : IsSeparator rest) → rest ≡ escaped_byte b ++ behind → (h.byte ≡ 0x2f) ⊎ (h.byte ≡ 0x40) → ⊥
separates_no_byte rest b behind h e (inl slash) = other_byte (byte_begins b).first 0x2f (sym (begins_with rest h.byte h.others b behind h.rest_is e) ∙ slash) (byte_begins b).no_slash
separates_no_byte rest b behind h e (inr sign) = other_byte (byte_begins b).first 0x40 (sym (begins_with rest h.byte h.others b behind h.rest_is e) ∙ sign) (byte_begins b).no_sign

pub separator_stuck : (rest : List ℕ) (s : Symbol) (behind : List ℕ) → IsSeparator rest → IsByte s → rest ≡ spelled s ++ behind → ⊥
separator_stuck rest (Byte b) behind h p e = separates_no_byte rest b behind h e h.separates
separator_stuck rest Slash behind h p e = p
separator_stuck rest Sign behind h p e = p
