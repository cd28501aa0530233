use Rattle.std.proofs.Common.{◌≡◌, ◌∙◌, ℤ, Option, Some, List, Bor, ap, arith, of_z, sym, to_z, length}
use Rattle.std.specs.Int.{w64}
use Rattle.std.specs.Option.{option_map}
use Rattle.std.proofs.lemmas.Int.{ints}
use Rattle.krb_replay.specs.Stamp.{Stamp}
use Rattle.krb_replay.specs.Inner.Order.{TwoNames}
use Rattle.krb_replay.specs.Inner.Held.{number_of, since}
use Rattle.krb_replay.proofs.HeldLaws.{all_of_none}
use Rattle.krb_replay.proofs.TimesLaws.{number_since_of}
use Rattle.krb_replay.proofs.held.Held.number_since.Goals as goal

pub returns-in-Some-clause-number : goal.returns-in-Some-clause-number
returns-in-Some-clause-number c =
    let o : to_z w64 (of_z w64 c.args.oldest) ≡ c.args.oldest = omega (arith, ints) in
    c.since.ensures ∙ (number_since_of c.in-Some.tuple.now.client c.names.result.now (to_z w64 (of_z w64 c.args.oldest)) c.self.inside.tuples c.self.inside.clients.times (ap (λ (names : TwoNames). names.1) c.names.ensures) c.self.invariant.1.0
    ∙ (ap (λ (oldest : ℤ). number_of (Some c.in-Some.tuple.now.client) (since oldest c.self.inside.tuples)) o
    ∙ (ap (λ (stamps : List Stamp). number_of (Some c.in-Some.tuple.now.client) (since c.args.oldest stamps)) c.self.view_is
    ∙ ap (λ (of : Option (Bor Stamp)). number_of (option_map (λ tuple. tuple.now.client) of) (since c.args.oldest c.args.self.now)) (sym c.in-Some.is))))

pub returns-in-None-clause-number : goal.returns-in-None-clause-number
returns-in-None-clause-number c =
    let o : to_z w64 (of_z w64 c.args.oldest) ≡ c.args.oldest = omega (arith, ints) in
    c.since-in-None.ensures ∙ (ap (λ (oldest : ℤ). length (since oldest c.self.inside.tuples)) o
    ∙ (ap (λ (stamps : List Stamp). length (since c.args.oldest stamps)) c.self.view_is
    ∙ (sym (all_of_none (since c.args.oldest c.args.self.now))
    ∙ ap (λ (of : Option (Bor Stamp)). number_of (option_map (λ tuple. tuple.now.client) of) (since c.args.oldest c.args.self.now)) (sym c.in-None.is))))
