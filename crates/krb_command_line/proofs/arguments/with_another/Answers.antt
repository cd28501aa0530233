use Rattle.clap.specs.declared.builder.arg.ArgPredicate.TheVariants.{IsPresent}
use Rattle.krb_command_line.proofs.CommandLaws.{is_needing}
use Rattle.krb_command_line.proofs.arguments.with_another.Goals as goal

pub returns-clause-rule : goal.returns-clause-rule
returns-clause-rule c = is_needing c.requires_arg.result c.args.arg (IsPresent, c.args.other) c.requires_arg.ensures
