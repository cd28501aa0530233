-- One step of adding keys to a keytab.
use Rattle.std.specs.Prelude.{◌≡◌, ◌⊎◌, ℕ, List}
use Rattle.krb_keytab.specs.Edit.{AddsEntry, GainsEntry}
use Rattle.krb_keytab.specs.Entry.{KeytabEntry}
use Rattle.krb_keytab.specs.SameKey.{HasKeyOf}
use Rattle.krb_file_commands.specs.Adding.{AddsEach, AreLacking}

-- the entry's key is among those known, and the file stays the same; or it is added
abbrev pub TakesEntry : List KeytabEntry → List ℕ → KeytabEntry → List ℕ → Type 0
TakesEntry known old entry new =
    (HasKeyOf known entry × (old ≡ new)) ⊎ ((¬ HasKeyOf known entry) × (AddsEntry old entry new × GainsEntry old entry new))

-- those of the first entries that are lacking were added
pub record IsAddedSoFar (old : List ℕ) (held : List KeytabEntry) (before : List KeytabEntry) (new : List ℕ) : Type 0 where
  pub lacking : List KeytabEntry
  pub lacking_are : AreLacking held before lacking
  pub added : AddsEach old lacking new
