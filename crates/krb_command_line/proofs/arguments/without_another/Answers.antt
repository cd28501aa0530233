use Rattle.krb_command_line.proofs.CommandLaws.{is_excluding}
use Rattle.krb_command_line.proofs.arguments.without_another.Goals as goal

pub returns-clause-rule : goal.returns-clause-rule
returns-clause-rule c = is_excluding c.conflicts_with.result c.args.arg c.args.other c.conflicts_with.ensures
