-- What `pick-key` prints: the entry of a keytab that has the key of a ticket, or why there is none.
use Rattle.std.specs.Prelude.{◌≡◌, ℕ, List, Option}
use Rattle.krb_keytab.specs.Entry.{KeytabEntry}
use Rattle.krb_keytab.specs.Format.{IsFaultOf, IsKeytab}
use Rattle.krb_keytab.specs.Pick.{Choice, chosen, no_name, no_key, no_version}
use Rattle.krb_file_commands.specs.Engine.{OfFile}
use Rattle.krb_file_commands.specs.Lines.{keytab_line}
use Rattle.krb_file_commands.specs.OfType.{IsChoiceFor}
use Rattle.krb_file_commands.specs.declared.fault.PickFault.{PickFault}
use Rattle.krb_file_commands.specs.declared.fault.PickFault.TheVariants.{Keytab, NoName, NoKey, NoVersion, OutOfMemory}
use Rattle.krb_file_commands.specs.declared.pick.PickKey.{PickKey}

abbrev pub IsChoiceOf : PickKey → List KeytabEntry → Choice → Type 0
IsChoiceOf wanted entries choice = IsChoiceFor entries wanted.name wanted.etype wanted.kvno choice

-- the bytes are the line of the entry that is picked, as list-keytab prints it
pub record IsPickedLine (wanted : PickKey) (entries : List KeytabEntry) (bytes : List ℕ) : Type 0 where
  pub entry : KeytabEntry
  pub picked : IsChoiceOf wanted entries (chosen entry)
  pub line : bytes ≡ keytab_line entry

-- why no entry of these is picked
abbrev pub IsUnmet : PickKey → List KeytabEntry → PickFault → Type 0
IsUnmet wanted entries NoName = IsChoiceOf wanted entries no_name
IsUnmet wanted entries NoKey = IsChoiceOf wanted entries no_key
IsUnmet wanted entries NoVersion = IsChoiceOf wanted entries no_version
IsUnmet wanted entries _ = ⊥

-- why nothing is made of a file with these bytes
abbrev pub IsUnpicked : PickKey → List ℕ → PickFault → Type 0
IsUnpicked wanted given (Keytab fault) = IsFaultOf given fault
IsUnpicked wanted given fault = (entries : List KeytabEntry) × (IsKeytab given entries × IsUnmet wanted entries fault)

-- memory for the line is asked for only once an entry is picked
abbrev pub AllowsUnpicked : PickKey → Option (List ℕ) → PickFault → Type 0
AllowsUnpicked wanted from OutOfMemory = OfFile IsKeytab from (λ entries. (entry : KeytabEntry) × IsChoiceOf wanted entries (chosen entry))
AllowsUnpicked wanted from _ = Unit {0}
