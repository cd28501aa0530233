use Rattle.krb_command_line.proofs.CommandLaws.{subcommand_added}
use Rattle.krb_command_line.proofs.commands.with_row.Goals as goal

pub returns : goal.returns
returns c = subcommand_added c.subcommand.result c.args.command c.in_ok-added.added c.subcommand.ensures
    c.in_ok-added.ensures.local c.in_ok-added.ensures.app
