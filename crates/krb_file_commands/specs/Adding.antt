-- What `add-keys` writes: a keytab with the keys of another that it lacks, or why there is none.
use Rattle.std.specs.Prelude.{◌≡◌, ◌⊎◌, ℕ, List, [], ◌∷◌, ◌++◌, Option, IfSome}
use Rattle.krb_keytab.specs.Edit.{AddsEntry, GainsEntry, WouldPass}
use Rattle.krb_keytab.specs.Entry.{KeytabEntry}
use Rattle.krb_keytab.specs.Format.{IsKeytab, IsFaultOf}
use Rattle.krb_keytab.specs.SameKey.{HasKeyOf}
use Rattle.krb_keytab.specs.declared.fault.KeytabFault.TheVariants.{TooLong}
use Rattle.krb_file_commands.specs.Engine.{OfFile}
use Rattle.krb_file_commands.specs.declared.fault.AddFault.{AddFault}
use Rattle.krb_file_commands.specs.declared.fault.AddFault.TheVariants.{Keytab, Added}

-- of a list of entries, in order, those whose key no entry of `held` and no earlier one has
abbrev pub AreLacking : List KeytabEntry → List KeytabEntry → List KeytabEntry → Type 0
AreLacking held [] lacking = lacking ≡ []
AreLacking held (entry ∷ others) lacking =
    (HasKeyOf held entry × AreLacking (held ++ entry ∷ []) others lacking)
    ⊎ ((¬ HasKeyOf held entry) × ((rest : List KeytabEntry) × ((lacking ≡ entry ∷ rest) × AreLacking (held ++ entry ∷ []) others rest)))

-- one entry after another is added: in the first hole that is long enough, else at the end
abbrev pub AddsEach : List ℕ → List KeytabEntry → List ℕ → Type 0
AddsEach old [] new = old ≡ new
AddsEach old (entry ∷ others) new = (next : List ℕ) × ((AddsEntry old entry next × GainsEntry old entry next) × AddsEach next others new)

-- the keytab with those of the entries that it lacks
pub record IsExtended (old : List ℕ) (entries : List KeytabEntry) (new : List ℕ) : Type 0 where
  pub held : List KeytabEntry
  pub lacking : List KeytabEntry
  pub old_is : IsKeytab old held
  pub lacking_are : AreLacking held entries lacking
  pub added : AddsEach old lacking new

-- these bytes are made of what two sources had to come
abbrev pub Extends : Option (List ℕ) → Option (List ℕ) → List ℕ → Type 0
Extends from others new = IfSome from (λ bytes. OfFile IsKeytab others (λ entries. IsExtended bytes entries new))

-- with the lacking ones of the first entries, the keytab would pass the limit by the next, which is lacking too
pub record PassesLimit (old : List ℕ) (entries : List KeytabEntry) : Type 0 where
  pub before : List KeytabEntry
  pub entry : KeytabEntry
  pub after : List KeytabEntry
  pub held : List KeytabEntry
  pub lacking : List KeytabEntry
  pub new : List ℕ
  pub entries_are : entries ≡ before ++ entry ∷ after
  pub old_is : IsKeytab old held
  pub lacking_are : AreLacking held before lacking
  pub added : AddsEach old lacking new
  pub lacks : ¬ HasKeyOf (held ++ before) entry
  pub passes : WouldPass new entry

-- why nothing is made: one of them isn't a keytab, or the first is one and would be too long with the keys that it lacks
abbrev pub IsUnextended : Option (List ℕ) → Option (List ℕ) → AddFault → Type 0
IsUnextended from others (Keytab fault) = IfSome from (λ bytes. IsFaultOf bytes fault ⊎ ((fault ≡ TooLong) × (((held : List KeytabEntry) × IsKeytab bytes held) × OfFile IsKeytab others (PassesLimit bytes))))
IsUnextended from others (Added fault) = IfSome others (λ bytes. IsFaultOf bytes fault)

-- the fault is of the keytab that keys are added to
abbrev pub IsOfHeld : AddFault → Type 0
IsOfHeld (Keytab fault) = Unit {0}
IsOfHeld (Added fault) = ⊥
