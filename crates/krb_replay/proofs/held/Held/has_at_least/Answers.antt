use Rattle.std.proofs.Common.{Option, arith}
use Rattle.std.specs.Option.{option_map}
use Rattle.krb_replay.specs.Stamp.{RealmAndName}
use Rattle.krb_replay.proofs.HeldLaws.{two_sides}
use Rattle.krb_replay.proofs.held.Held.has_at_least.Goals as goal

pub returns-then-most_of-count-clause-enough : goal.returns-then-most_of-count-clause-enough
returns-then-most_of-count-clause-enough c =
    let client : Option RealmAndName = option_map (λ tuple. tuple.now.client) c.args.client_of in
    let sides = two_sides client c.args.oldest c.args.self.now in
    let most = c.most_of.ensures.number in
    let less = c.if-most_of-count.true in
    ((λ no. absurd (cc)), (λ enough. absurd (omega arith)))

pub returns-then-number-count-clause-enough : goal.returns-then-number-count-clause-enough
returns-then-number-count-clause-enough c =
    let client : Option RealmAndName = option_map (λ tuple. tuple.now.client) c.args.client_of in
    let sides = two_sides client c.args.oldest c.args.self.now in
    let held = c.number.ensures.number in
    let less = c.if-number-count.true in
    ((λ no. absurd (cc)), (λ enough. absurd (omega arith)))
