use Rattle.krb_replay.proofs.NamesLaws.{compared}
use Rattle.krb_replay.proofs.names.Names.compare_client_bytes.Goals as goal

pub returns : goal.returns
returns c =
    compared c.args.self.now.1 c.args.other.now.1 c.cmp.ensures c.client.ensures.bytes c.client-2.ensures.bytes c.client.ensures.lengths c.client-2.ensures.lengths
