use Rattle.krb_name.proofs.NamedLaws.{by_hash}
use Rattle.krb_name.proofs.named_list.NamedList.candidate.Goals as goal

pub returns-in-Some : goal.returns-in-Some
returns-in-Some g c =
    rw (← c.self.view_is)
    (by_hash g.T.Named.name_of c.self.inside.items.items c.args.name.now c.args.from c.in-Some.index c.find.result (rw c.in-Some.is at c.self.invariant) (rw c.hash.ensures at c.find.ensures.first))
