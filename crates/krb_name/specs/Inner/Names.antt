-- What is left of a text after reading, part by part.
use Rattle.std.specs.Prelude.{◌≡◌, ℕ, ◌+◌, ◌<◌, ◌⊎◌, List, [], ◌∷◌, ◌++◌, length, Result, Ok, Err}
use Rattle.std.specs.List.{flat_map, AllByRecursion}
use Rattle.krb_file.specs.Cursor.{Place}
use Rattle.krb_file.specs.Field.{IsBytes}
use Rattle.krb_name.specs.Text.{escaped_byte, escaped}
use Rattle.krb_name.specs.Reading.{AreComponents, components_text, IsUnprintable, IsNoEscape, IsSeparator}
use Rattle.krb_name.specs.declared.text_fault.TextFault.{TextFault}
use Rattle.krb_name.specs.declared.text_fault.TextFault.TheVariants.{BadText, NoRealm, OutOfMemory}

-- the components, each with a `/` after it
abbrev pub before_slashes : List (List ℕ) → List ℕ
before_slashes components = flat_map (λ component. escaped component ++ 0x2f ∷ []) components

-- a text lies between two places
pub record Advances (old : Place) (text : List ℕ) (new : Place) : Type 0 where
  pub parts : old.rest ≡ text ++ new.rest
  pub at : new.at ≡ old.at + length text

-- one byte of a name lies between two places
pub record ReadsByte (old : Place) (byte : ℕ) (new : Place) : Type 0 where
  pub small : byte < 256
  pub advances : Advances old (escaped_byte byte) new

-- the end of a component or a realm
abbrev pub AtEnd : List ℕ → Type 0
AtEnd rest = (rest ≡ []) ⊎ IsSeparator rest

-- bytes of a name lie between two places
pub record ReadsBytes (old : Place) (bytes : List ℕ) (new : Place) : Type 0 where
  pub are : IsBytes bytes
  pub advances : Advances old (escaped bytes) new

-- components lie between two places, each with the `/` after it
pub record ReadsSome (old : Place) (components : List (List ℕ)) (new : Place) : Type 0 where
  pub are : AllByRecursion IsBytes components
  pub advances : Advances old (before_slashes components) new

-- the new place is where a name goes on with an offence
pub record OffendsInName (old new : Place) (at : ℕ) : Type 0 where
  pub bytes : List ℕ
  pub reads : ReadsBytes old bytes new
  pub at_is : at ≡ new.at
  pub offends : IsUnprintable new.rest ⊎ IsNoEscape new.rest

abbrev pub ReadsName : Place → Place → Result (List ℕ) TextFault → Type 0
ReadsName old new (Ok bytes) = ReadsBytes old bytes new × AtEnd new.rest
ReadsName old new (Err (BadText at)) = OffendsInName old new at
ReadsName old new (Err NoRealm) = ⊥
ReadsName old new (Err OutOfMemory) = Unit {0}

-- the same if nothing is kept of the name
abbrev pub SkipsName : Place → Place → Result (Unit {0}) TextFault → Type 0
SkipsName old new (Ok kept) = (bytes : List ℕ) × ReadsBytes old bytes new × AtEnd new.rest
SkipsName old new (Err (BadText at)) = OffendsInName old new at
SkipsName old new (Err NoRealm) = ⊥
SkipsName old new (Err OutOfMemory) = ⊥

abbrev pub ReadsRealm : Place → Place → Result (List ℕ) TextFault → Type 0
ReadsRealm old new (Ok bytes) = ReadsBytes old bytes new × (new.rest ≡ [])
ReadsRealm old new (Err (BadText at)) = (bytes : List ℕ) × ReadsBytes old bytes new × (at ≡ new.at) × (IsUnprintable new.rest ⊎ (IsNoEscape new.rest ⊎ IsSeparator new.rest))
ReadsRealm old new (Err NoRealm) = ⊥
ReadsRealm old new (Err OutOfMemory) = Unit {0}

abbrev pub ReadsComponents : Place → Place → Result (List (List ℕ)) TextFault → Type 0
ReadsComponents old new (Ok components) = AreComponents components × Advances old (components_text components ++ 0x40 ∷ []) new
ReadsComponents old new (Err (BadText at)) =
    (components : List (List ℕ)) × AreComponents components × Advances old (components_text components) new × (at ≡ new.at) × (IsUnprintable new.rest ⊎ IsNoEscape new.rest)
ReadsComponents old new (Err NoRealm) = (components : List (List ℕ)) × AreComponents components × Advances old (components_text components) new × (new.rest ≡ [])
ReadsComponents old new (Err OutOfMemory) = Unit {0}

-- the same if nothing is kept but how many components there are
abbrev pub CountsComponents : Place → Place → Result ℕ TextFault → Type 0
CountsComponents old new (Ok count) = (components : List (List ℕ)) × ReadsComponents old new (Ok components) × (count ≡ length components)
CountsComponents old new (Err OutOfMemory) = ⊥
CountsComponents old new (Err (BadText at)) = ReadsComponents old new (Err (BadText at))
CountsComponents old new (Err NoRealm) = ReadsComponents old new (Err NoRealm)

abbrev pub SkipsRealm : Place → Place → Result (Unit {0}) TextFault → Type 0
SkipsRealm old new (Ok kept) = (bytes : List ℕ) × ReadsRealm old new (Ok bytes)
SkipsRealm old new (Err OutOfMemory) = ⊥
SkipsRealm old new (Err (BadText at)) = ReadsRealm old new (Err (BadText at))
SkipsRealm old new (Err NoRealm) = ⊥
