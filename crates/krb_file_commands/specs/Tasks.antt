-- What the words of a command ask for: what is made, and where it is written.
use Rattle.std.specs.Prelude.{◌≡◌, ◌<◌, ◌^◌, ℕ, ℤ, pos, List, Bool, true, false, Option, Some, None, Ok, Err, FitsSigned}
use Rattle.std.specs.Borrow.{Bor}
use Rattle.std.specs.Int.{w32}
use Rattle.krb_name.specs.Reading.{IsReadAs}
use Rattle.krb_command_line.specs.declared.command_line.PickWords.{PickWords}
use Rattle.krb_file_commands.specs.declared.pick.PickKey.{PickKey}
use Rattle.krb_file_commands.specs.declared.store.Out.{Out}
use Rattle.krb_file_commands.specs.declared.store.Out.TheVariants.{Input, Named}
use Rattle.krb_file_commands.specs.declared.task.To.{To}
use Rattle.krb_file_commands.specs.declared.task.To.TheVariants.{Emptied, Replaced}
use Rattle.krb_file_commands.specs.declared.fault.AddFault.{AddFault}
use Rattle.krb_file_commands.specs.declared.fault.AddFault.TheVariants.{Keytab, Added}
use Rattle.krb_file_commands.specs.declared.task.Addition.{Addition}
use Rattle.krb_file_commands.specs.declared.task.UnreadPick.{UnreadPick}
use Rattle.krb_file_commands.specs.declared.task.UnreadPick.TheVariants as unread
use Rattle.krb_file_commands.specs.Words.{Asks, IsEtype, IsNumber}

-- the option's file, or else the one that is read
abbrev pub out_of : Option (Bor (List ℕ)) → Bor (List ℕ) → Out
out_of (Some name) file = Named name
out_of None file = Input file

abbrev pub name_of : Out → Bor (List ℕ)
name_of (Named name) = name
name_of (Input name) = name

-- where a copy goes
abbrev pub to_of : Bor (List ℕ) → Bool → To
to_of out true = Replaced (Named out)
to_of out false = Emptied out

-- the key of this name, a service's; of this type; and of this version number, if one is asked for
pub record AsksPick (words : PickWords) (wanted : PickKey) : Type 0 where
  pub name : IsReadAs words.name.now (Ok wanted.name)
  pub name_type : wanted.name.name_type ≡ pos 3
  pub etype : IsEtype words.etype.now wanted.etype
  pub kvno : Asks IsNumber words.kvno wanted.kvno

abbrev pub HasEtype : PickWords → Type 0
HasEtype words = (etype : ℤ) × IsEtype words.etype.now etype

abbrev pub HasVersion : PickWords → Type 0
HasVersion words = (version : Option ℕ) × Asks IsNumber words.kvno version

-- why no key is asked for: the first that holds
abbrev pub IsUnreadPick : PickWords → UnreadPick → Type 0
IsUnreadPick words unread.Etype = (etype : ℤ) → FitsSigned w32 etype → ¬ IsEtype words.etype.now etype
IsUnreadPick words unread.Version = HasEtype words × ((version : ℕ) → version < 2 ^ 32 → ¬ Asks IsNumber words.kvno (Some version))
IsUnreadPick words (unread.Name fault) = HasEtype words × HasVersion words × IsReadAs words.name.now (Err fault)

-- the file that a fault of add-keys is of
abbrev pub faulty_file : Addition → AddFault → Bor (List ℕ)
faulty_file files (Keytab _) = files.keytab
faulty_file files (Added _) = files.from
