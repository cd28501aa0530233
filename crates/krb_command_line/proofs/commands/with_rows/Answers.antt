use Rattle.std.proofs.Common.{◌∙◌}
use Rattle.clap.specs.Words.{app_of}
use Rattle.krb_command_line.specs.CommandLine.{with_command}
use Rattle.krb_command_line.specs.Inner.Commands.{app_for}
use Rattle.krb_command_line.proofs.CommandLaws.{one_more}
use Rattle.krb_command_line.proofs.commands.with_rows.Goals as goal

pub loop-row-preserved : goal.loop-row-preserved
loop-row-preserved c =
    one_more with_command app_for c.args.rows.now c.loop-row.row-index _ (app_of c.loop-row.command) (app_of c.in_ok-command.command)
    c.loop-row-test.true c.in_ok-command.ensures
    ∙ c.loop-row.invariant
