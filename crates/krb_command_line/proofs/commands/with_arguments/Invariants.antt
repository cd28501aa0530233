use Rattle.std.proofs.Common.{◌≡◌, drop, false, fold, map}
use Rattle.clap.specs.Words.{app_of, with_rule}
use Rattle.clap.specs.declared.builder.command.Command.TheViews.{out-Command}
use Rattle.krb_command_line.specs.Inner.Commands.{rule_for}
use Rattle.krb_command_line.proofs.commands.with_arguments.Given as goal

abbrev pub invariant-loop-argument : goal.invariant-loop-argument
invariant-loop-argument l =
    (fold with_rule (app_of l.command) (map rule_for (drop l.argument-index l.arguments))
    ≡ fold with_rule (app_of l.initial.command) (map rule_for l.arguments))
    × ((out-Command l.command).has_globals ≡ false)
