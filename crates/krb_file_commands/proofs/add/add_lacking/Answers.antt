use Rattle.std.proofs.Common.{◌++◌, take}
use Rattle.krb_keytab.proofs.KeyLaws.{denied}
use Rattle.krb_file_commands.proofs.AddLaws.{not_added_if, taken}
use Rattle.krb_file_commands.proofs.add.add_lacking.Goals as goal

pub returns-clause-taken : goal.returns-clause-taken
returns-clause-taken c =
    let lacks = denied c.is_known.result c.is_known.ensures c.if-is_known.false in
    taken c.add.result (c.args.held.now ++ take c.args.at c.args.others.now) c.args.adder.now c.args.entry.now c.add.new.self
    lacks c.add.ensures.ok c.add.ensures.list

pub returns-clause-fault : goal.returns-clause-fault
returns-clause-fault c =
    let lacks = denied c.is_known.result c.is_known.ensures c.if-is_known.false in
    not_added_if c.add.result (c.args.held.now ++ take c.args.at c.args.others.now) c.args.adder.now c.args.entry.now lacks c.add.ensures.unadded
