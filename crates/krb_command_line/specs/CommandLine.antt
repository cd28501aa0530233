-- The command line of krbtool, in the words of clap's own definition of a simple command: which
-- command the words of a command line give.
use Rattle.std.specs.Prelude.{◌≡◌, Bool, List, [], ◌∷◌, Option, Some, None, true, false, codes, fold, map, option_map}
use Rattle.clap.specs.Words.{App, Row, Rule, Text, first_of, one_of, new_app, with_subcommand}
use Rattle.krb_command_line.specs.Arguments.{Value, word, optional, given, app_of_entry}
use Rattle.krb_command_line.specs.Commands.{asked, file_commands, message_commands}
use Rattle.krb_command_line.specs.declared.command_line.Command.{Command}

-- krbtool COMMAND ..: one of its commands has to be there; it has a version, which --version asks for
abbrev pub bare : App
bare = let top = new_app (codes "krbtool") in record top { top = record top.top { has_version = true; subcommand_required = true } }

-- an app with one more command
abbrev pub with_command : App → App → App
with_command app one = with_subcommand app one.top

-- an app with the commands of files, or of messages
unfoldable pub with_file_commands : App → App
with_file_commands app = fold with_command app (map app_of_entry file_commands)

unfoldable pub with_message_commands : App → App
with_message_commands app = fold with_command app (map app_of_entry message_commands)

-- krbtool with all its commands
unfoldable pub krbtool : App
krbtool = with_message_commands (with_file_commands bare)

-- a flag is given, or not, as what clap found of it says
pub record IsFlag (found : Option Text) (value : Bool) : Type 0 where
  pub said : found ≡ Some (codes "true") → value ≡ true
  pub denied : found ≡ Some (codes "false") → value ≡ false
  pub absent : found ≡ None → value ≡ false

-- clap found this of the operand or option of this name
abbrev pub HasValue : List Row → Text → Value → Type 0
HasValue rows id (word value) = first_of id rows ≡ Some value.now
HasValue rows id (optional value) = first_of id rows ≡ option_map (λ s. s.now) value
HasValue rows id (given value) = IsFlag (one_of id rows) value

-- clap found these of a command's operands and options: one of each, in order
abbrev pub HasValues : List Row → List Rule → List Value → Type 0
HasValues rows [] [] = Unit {0}
HasValues rows [] (value ∷ values) = ⊥
HasValues rows (rule ∷ rules) [] = ⊥
HasValues rows (rule ∷ rules) (value ∷ values) = HasValue rows rule.id value × HasValues rows rules values

-- the command is the subcommand that clap found, with what it found of its operands and options
abbrev pub IsCommand : Command → Option (Text × List Row) → Type 0
IsCommand one None = ⊥
IsCommand one (Some (name, rows)) =
    (name ≡ (asked one).0.name) × HasValues rows (asked one).0.arguments (asked one).1
