-- What words of the command line ask for.
use Rattle.std.specs.Prelude.{◌≡◌, ◌<◌, ◌^◌, IfSome, ⊤, ℕ, ℤ, pos, List, [], ◌∷◌, Option, Some, None, codes}
use Rattle.std.specs.Borrow.{Bor}
use Rattle.std.specs.Str.Parse.{IsNumeral, digits_value, signed_digits_value, without_leading_plus, without_leading_sign}
use Rattle.krb_readable.specs.Enctype.{enctype_called}
use Rattle.krb_readable.specs.Named.{number_called}
use Rattle.krb_command_line.specs.declared.command_line.CacheForm.{CacheForm}
use Rattle.krb_command_line.specs.declared.command_line.CacheForm.TheVariants as asked
use Rattle.krb_file_commands.specs.declared.listing.CacheListing.{CacheListing}
use Rattle.krb_file_commands.specs.declared.listing.CacheListing.TheVariants.{Lines, Table}

-- the text writes the number in decimal: one digit or more, and nothing else but a plus before them
abbrev pub IsNumber : List ℕ → ℕ → Type 0
IsNumber text number = IsNumeral 10 (without_leading_plus text) × (number ≡ digits_value 10 (without_leading_plus text))

-- names of encryption types that MIT krb5 reads (krb5.conf(5)) or prints (klist), but for those that stand for the same type in IANA's registry
abbrev pub other_names : List (ℤ × List ℕ)
other_names =
    (pos 4, codes "des-cbc-raw")
    ∷ (pos 6, codes "des3-cbc-raw")
    ∷ (pos 8, codes "des-hmac-sha1")
    ∷ (pos 16, codes "des3-cbc-sha1")
    ∷ (pos 16, codes "des3-hmac-sha1")
    ∷ (pos 17, codes "aes128-cts")
    ∷ (pos 17, codes "aes128-sha1")
    ∷ (pos 18, codes "aes256-cts")
    ∷ (pos 18, codes "aes256-sha1")
    ∷ (pos 19, codes "aes128-sha2")
    ∷ (pos 20, codes "aes256-sha2")
    ∷ (pos 23, codes "arcfour-hmac")
    ∷ (pos 23, codes "arcfour-hmac-md5")
    ∷ (pos 24, codes "arcfour-hmac-exp")
    ∷ (pos 24, codes "arcfour-hmac-md5-exp")
    ∷ (pos 25, codes "camellia128-cts")
    ∷ (pos 26, codes "camellia256-cts")
    ∷ []

unfoldable pub other_number : List ℕ → Option ℤ
other_number name = number_called other_names name

abbrev pub first_of : Option ℤ → Option ℤ → Option ℤ
first_of (Some number) other = Some number
first_of None other = other

-- the encryption type that has this name, in MIT krb5 or else in the registry
abbrev pub etype_named : List ℕ → Option ℤ
etype_named text = first_of (other_number text) (enctype_called text)

-- the text writes the number in decimal, with or without a sign
abbrev pub WritesInteger : List ℕ → ℤ → Type 0
WritesInteger text number = IsNumeral 10 (without_leading_sign text) × (number ≡ signed_digits_value 10 text)

-- the text is the name of an encryption type, or else its number
abbrev pub IsTypeOf : Option ℤ → List ℕ → ℤ → Type 0
IsTypeOf (Some named) text etype = etype ≡ named
IsTypeOf None text etype = WritesInteger text etype

abbrev pub IsEtype : List ℕ → ℤ → Type 0
IsEtype text etype = IsTypeOf (etype_named text) text etype

-- if there is a text, there is what it stands for, and otherwise nothing
abbrev pub Asks : {X : Type 0} → (List ℕ → X → Type 0) → Option (Bor (List ℕ)) → Option X → Type 0
Asks StandsFor None None = ⊤
Asks StandsFor (Some text) (Some it) = StandsFor text.now it
Asks StandsFor _ _ = ⊥

-- the listing is that of this form
abbrev pub AsksListing : CacheForm → CacheListing → Type 0
AsksListing asked.Lines Lines = ⊤
AsksListing (asked.Table text) (Table now) = Asks IsNumber text now
AsksListing _ _ = ⊥

-- the moment of the listing, if it has one, fits in 64 bits
abbrev pub FitsListing : CacheListing → Type 0
FitsListing Lines = ⊤
FitsListing (Table now) = IfSome now (λ seconds. seconds < 2 ^ 64)
