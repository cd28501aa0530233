use Rattle.std.proofs.Common.{◌∙◌}
use Rattle.clap.specs.Words.{app_of, with_rule}
use Rattle.krb_command_line.specs.Inner.Commands.{rule_for}
use Rattle.krb_command_line.proofs.CommandLaws.{one_more}
use Rattle.krb_command_line.proofs.commands.with_arguments.Goals as goal

pub loop-argument-preserved : goal.loop-argument-preserved
loop-argument-preserved c = (
  one_more with_rule rule_for c.args.arguments.now c.loop-argument.argument-index _ (app_of c.loop-argument.command)
      (app_of c.in_ok-command.command) c.loop-argument-test.true c.in_ok-command.ensures.app
      ∙ c.loop-argument.invariant.0,
  c.in_ok-command.ensures.local,
)
