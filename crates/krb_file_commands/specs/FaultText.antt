-- The line that the program prints of a fault.
use Rattle.std.specs.Prelude.{ℕ, List, ◌++◌, Option, Some, None, codes}
use Rattle.std.specs.Fmt.{decimal}
use Rattle.krb_keytab.specs.declared.fault.KeytabFault.{KeytabFault}
use Rattle.krb_keytab.specs.declared.fault.KeytabFault.TheVariants as keytab
use Rattle.krb_ccache.specs.declared.fault.CacheFault.{CacheFault}
use Rattle.krb_ccache.specs.declared.fault.CacheFault.TheVariants as cache
use Rattle.krb_name.specs.declared.text_fault.TextFault.{TextFault}
use Rattle.krb_name.specs.declared.text_fault.TextFault.TheVariants as text
use Rattle.krb_file_commands.specs.declared.engine.Ended.{Ended}
use Rattle.krb_file_commands.specs.declared.engine.Ended.TheVariants as ended
use Rattle.krb_file_commands.specs.declared.fault.AddFault.{AddFault}
use Rattle.krb_file_commands.specs.declared.fault.AddFault.TheVariants as add
use Rattle.krb_file_commands.specs.declared.fault.PickFault.{PickFault}
use Rattle.krb_file_commands.specs.declared.fault.PickFault.TheVariants as pick

-- what is printed of a fault: its name, and its offset in bytes if it has one
abbrev pub FaultText : Type 0
FaultText = List ℕ × Option ℕ

abbrev pub keytab_text : KeytabFault → FaultText
keytab_text keytab.Version = (codes "Version", None)
keytab_text (keytab.Truncated at) = (codes "Truncated", Some at)
keytab_text (keytab.BadEntry at) = (codes "BadEntry", Some at)
keytab_text keytab.TooLong = (codes "TooLong", None)
keytab_text keytab.NoSuchEntry = (codes "NoSuchEntry", None)
keytab_text keytab.Read = (codes "Read", None)
keytab_text keytab.OutOfMemory = (codes "OutOfMemory", None)

abbrev pub cache_text : CacheFault → FaultText
cache_text cache.Version = (codes "Version", None)
cache_text cache.Header = (codes "Header", None)
cache_text (cache.BadItem at) = (codes "BadItem", Some at)
cache_text cache.TooLong = (codes "TooLong", None)
cache_text cache.Read = (codes "Read", None)
cache_text cache.OutOfMemory = (codes "OutOfMemory", None)

abbrev pub pick_text : PickFault → FaultText
pick_text (pick.Keytab fault) = keytab_text fault
pick_text pick.NoName = (codes "NoName", None)
pick_text pick.NoKey = (codes "NoKey", None)
pick_text pick.NoVersion = (codes "NoVersion", None)
pick_text pick.OutOfMemory = (codes "OutOfMemory", None)

abbrev pub add_text : AddFault → FaultText
add_text (add.Keytab fault) = keytab_text fault
add_text (add.Added fault) = keytab_text fault

abbrev pub ended_text : {E : Type 0} → (E → FaultText) → Ended E → FaultText
ended_text text_of (ended.Unmade fault) = text_of fault
ended_text text_of ended.Write = (codes "Write", None)

-- of a service's name
abbrev pub name_text : TextFault → FaultText
name_text (text.BadText at) = (codes "BadText", Some at)
name_text text.NoRealm = (codes "NoRealm", None)
name_text text.OutOfMemory = (codes "OutOfMemory", None)

-- `krbtool: NAME: FAULT`, with ` at OFFSET` if the fault has one
abbrev pub line_of : List ℕ → FaultText → List ℕ
line_of name (fault, None) = codes "krbtool: " ++ (name ++ (codes ": " ++ fault))
line_of name (fault, Some at) = codes "krbtool: " ++ (name ++ (codes ": " ++ (fault ++ (codes " at " ++ decimal at))))

-- ---- what a fault is of, by the names of a file and of a command

abbrev pub keytab_subject : KeytabFault → List ℕ → List ℕ → List ℕ
keytab_subject keytab.NoSuchEntry file command = command
keytab_subject _ file command = file

abbrev pub pick_subject : PickFault → List ℕ → List ℕ → List ℕ
pick_subject (pick.Keytab _) file command = file
pick_subject _ file command = command

abbrev pub ended_subject : {E : Type 0} → (E → List ℕ → List ℕ → List ℕ) → Ended E → List ℕ → List ℕ → List ℕ
ended_subject subject (ended.Unmade fault) file command = subject fault file command
ended_subject subject ended.Write file command = codes "output"
