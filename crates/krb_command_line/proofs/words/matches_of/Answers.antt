use Rattle.krb_command_line.proofs.CommandLaws.{matches_of_krbtool}
use Rattle.krb_command_line.proofs.words.matches_of.Goals as goal

pub returns : goal.returns
returns c = matches_of_krbtool c.try_get_matches_from.result _ _ c.in_ok-krbtool_command.ensures c.try_get_matches_from.ensures.matches
