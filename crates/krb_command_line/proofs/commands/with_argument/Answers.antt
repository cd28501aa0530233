use Rattle.krb_command_line.proofs.CommandLaws.{argument_added, argument_is_local}
use Rattle.krb_command_line.proofs.commands.with_argument.Goals as goal

pub returns-clause-app : goal.returns-clause-app
returns-clause-app c = argument_added c.arg.result c.args.command c.in_ok-added.added c.arg.ensures
    c.in_ok-added.ensures.local c.in_ok-added.ensures.rule

pub returns-clause-local : goal.returns-clause-local
returns-clause-local c = argument_is_local c.arg.result c.args.command c.in_ok-added.added c.arg.ensures
    c.requires.local c.in_ok-added.ensures.local
