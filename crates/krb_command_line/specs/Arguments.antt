-- The operands and options of a command, in the words of clap's own definition of a simple command,
-- and what a command has of each.
use Rattle.std.specs.Prelude.{ℕ, Bool, List, [], ◌∷◌, Option, Some, fold, true, false}
use Rattle.std.specs.Borrow.{Bor}
use Rattle.clap.specs.Words.{App, Rule, Text, new_app, new_rule, with_rule}
use Rattle.clap.specs.declared.builder.action.ArgAction.TheVariants.{SetTrue}
use Rattle.clap.specs.declared.builder.value_parser.ValueParser.TheVariants.{Unsigned}

-- an operand, which has to be there
abbrev pub operand : Text → Rule
operand id = record (new_rule id) { required = true }

-- an operand that may be left out
abbrev pub optional_operand : Text → Rule
optional_operand id = new_rule id

-- an option with a value, which may be left out
abbrev pub option : Text → Rule
option id = record (new_rule id) { long = Some id }

-- an option without a value
abbrev pub flag : Text → Rule
flag id = record (option id) { action = Some SetTrue }

-- an option that has to be there
abbrev pub needed : Rule → Rule
needed rule = record rule { required = true }

-- one with a whole number from 0 to some greatest one
abbrev pub number : ℕ → Rule → Rule
number greatest rule = record rule { parser = Some (Unsigned 0 greatest) }

-- one that has a value if it is left out
abbrev pub with_default : Text → Rule → Rule
with_default value rule = record rule { defaults = value ∷ [] }

-- one that is refused unless another is given
abbrev pub needing_another : Rule → Rule
needing_another rule = record rule { is_free = false }

-- one that is refused if another is given
abbrev pub excluding_another : Rule → Rule
excluding_another rule = record rule { is_free = false }

-- a command: its name, and its operands and options in order
pub record Entry : Type 0 where
  pub name : Text
  pub arguments : List Rule

-- it, as clap knows it
abbrev pub app_of_entry : Entry → App
app_of_entry entry = fold with_rule (new_app entry.name) entry.arguments

-- what a command has of an operand or an option: a value, a value that may be left out, or whether it is given
pub data Value : Type 0 where
  word : Bor Text → Value
  optional : Option (Bor Text) → Value
  given : Bool → Value
