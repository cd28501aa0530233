use Rattle.krb_file_commands.proofs.AddLaws.{not_refused}
use Rattle.krb_file_commands.proofs.add.adder_of.Goals as goal

pub returns-clause-memory : goal.returns-clause-memory
returns-clause-memory c =
    not_refused c.new.result c.args.file.items c.each_file_has_one_answer.ensures.one c.requires c.new.ensures.fault
