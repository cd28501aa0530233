-- What clap's definition makes of the rows of src/table.rt.
use Rattle.std.specs.Prelude.{ℕ, Option, Some, None, map}
use Rattle.clap.specs.Words.{App, Rule, Text}
use Rattle.krb_command_line.specs.Arguments.{app_of_entry, excluding_another, flag, needed, needing_another, number, operand, option, optional_operand, with_default}
use Rattle.krb_command_line.specs.declared.arguments.Argument.{Argument}
use Rattle.krb_command_line.specs.declared.arguments.Kind.{Kind}
use Rattle.krb_command_line.specs.declared.arguments.Kind.TheVariants as kind
use Rattle.krb_command_line.specs.declared.commands.Row.{Row}

abbrev pub ranged : Option ℕ → Rule → Rule
ranged None rule = rule
ranged (Some greatest) rule = number greatest rule

abbrev pub rule_of_kind : Text → Kind → Rule
rule_of_kind name kind.Operand = operand name
rule_of_kind name kind.Optional = optional_operand name
rule_of_kind name kind.Flag = flag name
rule_of_kind name kind.Needed = needed (option name)
rule_of_kind name kind.Free = option name
rule_of_kind name (kind.With other) = needing_another (option name)
rule_of_kind name (kind.Without other) = excluding_another (option name)
rule_of_kind name (kind.Defaulted value) = with_default value.now (option name)

abbrev pub rule_for : Argument → Rule
rule_for argument = ranged argument.greatest (rule_of_kind argument.name.now argument.kind)

abbrev pub app_for : Row → App
app_for row = app_of_entry (record { name = row.name.now; arguments = map rule_for row.arguments.now })
