use Rattle.std.proofs.Common.{arith, subst}
use Rattle.krb_name.specs.Name.{SameName}
use Rattle.krb_name.specs.declared.principal.Principal.{Principal}
use Rattle.krb_name.proofs.NamedLaws.{is_first, others_on}
use Rattle.krb_name.proofs.named_list.NamedList.find.Goals as goal

pub returns-then-same_name-clause-found : goal.returns-then-same_name-clause-found
returns-then-same_name-clause-found g c =
    let name_of = g.T.Named.name_of in
    let xs = c.self.inside.items.items in
    let name = c.args.name.now in
    let from = c.args.from in
    let at = c.in-Some.at in
    let found = rw (← c.self.view_is) at c.in-Some.ensures in
    let others = others_on name_of xs name from c.loop-at.next at c.loop-at.invariant.others found.2 in
    let sought = subst (λ (n : Principal). SameName c.name.result.now n) c.principal-wanted.ensures (c.same_name.ensures.0 c.if-same_name.true) in
    let same = subst (λ (n : Principal). SameName n name) c.name.ensures sought in
    rw (← c.self.view_is) (is_first name_of xs name from at (omega (arith, c.loop-at.invariant.forward, found.0)) c.index.result.now found.1 c.index.ensures others same)
