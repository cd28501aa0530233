use Rattle.krb_replay.proofs.NamesLaws.{compared}
use Rattle.krb_replay.proofs.names.Names.compare_servers.Goals as goal

pub returns : goal.returns
returns c =
    compared c.args.self.now.0 c.args.other.now.0 c.cmp.ensures c.server.ensures.bytes c.server-2.ensures.bytes c.server.ensures.lengths c.server-2.ensures.lengths
