use Rattle.std.proofs.Common.{◌≤◌, List, Option, Some, Bor, ap, arith, length, subst, sym}
use Rattle.std.specs.Option.{option_map}
use Rattle.krb_replay.specs.Stamp.{Stamp}
use Rattle.krb_replay.specs.Inner.Held.{number_of}
use Rattle.krb_replay.proofs.HeldLaws.{all_of_none}
use Rattle.krb_replay.proofs.MostLaws.{most_of_client}
use Rattle.krb_replay.proofs.held.Held.most_of.Goals as goal

pub returns-in-Some-clause-number : goal.returns-in-Some-clause-number
returns-in-Some-clause-number c =
    subst (λ (of : Option (Bor Stamp)). number_of (option_map (λ tuple. tuple.now.client) of) c.args.self.now ≤ c.self.inside.most) (sym c.in-Some.is)
    (subst (λ (stamps : List Stamp). number_of (Some c.in-Some.field-0.now.client) stamps ≤ c.self.inside.most) c.self.view_is
    (most_of_client c.in-Some.field-0.now.client c.self.inside.tuples c.self.inside.clients.times c.self.inside.most c.self.invariant.1.0 c.self.invariant.1.1.1))

pub returns-in-None-clause-number : goal.returns-in-None-clause-number
returns-in-None-clause-number c =
    let len = c.len.ensures.len in
    let same = ap (λ (stamps : List Stamp). length stamps) c.self.view_is in
    let all = all_of_none c.args.self.now in
    subst (λ (of : Option (Bor Stamp)). number_of (option_map (λ tuple. tuple.now.client) of) c.args.self.now ≤ c.len.result) (sym c.in-None.is) (omega arith)
