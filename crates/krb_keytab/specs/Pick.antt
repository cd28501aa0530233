-- Which entry of a keytab is picked for a principal, an encryption type and a version number.
use Rattle.std.specs.Prelude.{◌≡◌, ℕ, ◌<◌, ◌≤◌, ℤ, List, ◌∷◌, ◌++◌, Option, IfSome, All}
use Rattle.krb_name.specs.declared.principal.Principal.{Principal}
use Rattle.krb_name.specs.Name.{SameName}
use Rattle.krb_keytab.specs.Entry.{KeytabEntry}
use Rattle.krb_keytab.specs.Usable.{IsUsable}
use Rattle.krb_keytab.specs.declared.pick.Picked.{Picked}
use Rattle.krb_keytab.specs.declared.pick.Picked.TheVariants.{Entry, NoName, NoKey, NoVersion}

-- a usable key of this name and encryption type, where `Usable` says which keys count as usable
pub record IsKeyOf (Usable : KeytabEntry → Type 0) (name : Principal) (etype : ℤ) (entry : KeytabEntry) : Type 0 where
  pub same_name : SameName entry.principal name
  pub same_etype : entry.etype ≡ etype
  pub usable : Usable entry

-- and of the requested version number, if one is given
pub record IsCandidate (Usable : KeytabEntry → Type 0) (name : Principal) (etype : ℤ) (kvno : Option ℕ) (entry : KeytabEntry) : Type 0 where
  pub key_of : IsKeyOf Usable name etype entry
  pub version : IfSome kvno (λ number. entry.kvno ≡ number)

-- some entry of the list is so
pub record HasEntry (P : KeytabEntry → Type 0) (entries : List KeytabEntry) : Type 0 where
  pub before : List KeytabEntry
  pub entry : KeytabEntry
  pub after : List KeytabEntry
  pub entries_are : entries ≡ before ++ entry ∷ after
  pub holds : P entry

-- the first candidate of the highest version number
pub record IsChosen (Usable : KeytabEntry → Type 0) (entries : List KeytabEntry) (name : Principal) (etype : ℤ) (kvno : Option ℕ) (entry : KeytabEntry) : Type 0 where
  pub before : List KeytabEntry
  pub after : List KeytabEntry
  pub entries_are : entries ≡ before ++ entry ∷ after
  pub candidate : IsCandidate Usable name etype kvno entry
  pub above : All (λ other. IsCandidate Usable name etype kvno other → other.kvno < entry.kvno) before
  pub highest : All (λ other. IsCandidate Usable name etype kvno other → other.kvno ≤ entry.kvno) after

-- what is picked: an entry, or one of the three reasons for none
pub data Choice : Type 0 where
  chosen : KeytabEntry → Choice
  no_name : Choice
  no_key : Choice
  no_version : Choice

-- no entry has the name; or some have, but none has a usable key of the type; or some have, but
-- none has the requested version number
abbrev pub IsChoiceBy : (KeytabEntry → Type 0) → List KeytabEntry → Principal → ℤ → Option ℕ → Choice → Type 0
IsChoiceBy Usable entries name etype kvno (chosen entry) = IsChosen Usable entries name etype kvno entry
IsChoiceBy Usable entries name etype kvno no_name = All (λ entry. ¬ SameName entry.principal name) entries
IsChoiceBy Usable entries name etype kvno no_key = HasEntry (λ entry. SameName entry.principal name) entries × All (λ entry. ¬ IsKeyOf Usable name etype entry) entries
IsChoiceBy Usable entries name etype kvno no_version = HasEntry (IsKeyOf Usable name etype) entries × All (λ entry. ¬ IsCandidate Usable name etype kvno entry) entries

-- what `pick` chooses: only usable keys count
abbrev pub IsChoice : List KeytabEntry → Principal → ℤ → Option ℕ → Choice → Type 0
IsChoice entries name etype kvno choice = IsChoiceBy IsUsable entries name etype kvno choice

abbrev pub IsAnyKey : KeytabEntry → Type 0
IsAnyKey entry = Unit {0}

-- what `pick_of_type` chooses: every key counts, whatever its length
abbrev pub IsChoiceOfType : List KeytabEntry → Principal → ℤ → Option ℕ → Choice → Type 0
IsChoiceOfType entries name etype kvno choice = IsChoiceBy IsAnyKey entries name etype kvno choice

-- an answer as a choice: the borrowed entry, as a value
abbrev pub choice_of : Picked → Choice
choice_of (Entry entry) = chosen entry.now
choice_of NoName = no_name
choice_of NoKey = no_key
choice_of NoVersion = no_version

abbrev pub IsPicked : List KeytabEntry → Principal → ℤ → Option ℕ → Picked → Type 0
IsPicked entries name etype kvno picked = IsChoice entries name etype kvno (choice_of picked)

abbrev pub IsPickedOfType : List KeytabEntry → Principal → ℤ → Option ℕ → Picked → Type 0
IsPickedOfType entries name etype kvno picked = IsChoiceOfType entries name etype kvno (choice_of picked)
