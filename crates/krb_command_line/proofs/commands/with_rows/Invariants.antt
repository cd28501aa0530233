use Rattle.std.proofs.Common.{◌≡◌, drop, fold, map}
use Rattle.clap.specs.Words.{app_of}
use Rattle.krb_command_line.specs.CommandLine.{with_command}
use Rattle.krb_command_line.specs.Inner.Commands.{app_for}
use Rattle.krb_command_line.proofs.commands.with_rows.Given as goal

abbrev pub invariant-loop-row : goal.invariant-loop-row
invariant-loop-row l = fold with_command (app_of l.command) (map app_for (drop l.row-index l.rows))
    ≡ fold with_command (app_of l.initial.command) (map app_for l.rows)
