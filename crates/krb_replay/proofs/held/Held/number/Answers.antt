use Rattle.std.proofs.Common.{◌∙◌, Option, Some, List, Bor, ap, sym, length}
use Rattle.std.specs.Option.{option_map}
use Rattle.krb_replay.specs.Stamp.{Stamp}
use Rattle.krb_replay.specs.Inner.Order.{TwoNames}
use Rattle.krb_replay.specs.Inner.Held.{number_of}
use Rattle.krb_replay.proofs.HeldLaws.{all_of_none}
use Rattle.krb_replay.proofs.TimesLaws.{number_of_client}
use Rattle.krb_replay.proofs.held.Held.number.Goals as goal

pub returns-in-Some-clause-number : goal.returns-in-Some-clause-number
returns-in-Some-clause-number c =
    c.of.ensures ∙ (number_of_client c.in-Some.tuple.now.client c.names.result.now c.self.inside.tuples c.self.inside.clients.times (ap (λ (names : TwoNames). names.1) c.names.ensures) c.self.invariant.1.0
    ∙ (ap (λ (stamps : List Stamp). number_of (Some c.in-Some.tuple.now.client) stamps) c.self.view_is
    ∙ ap (λ (of : Option (Bor Stamp)). number_of (option_map (λ tuple. tuple.now.client) of) c.args.self.now) (sym c.in-Some.is)))

pub returns-in-None-clause-number : goal.returns-in-None-clause-number
returns-in-None-clause-number c =
    c.len.ensures.len ∙ (ap (λ (stamps : List Stamp). length stamps) c.self.view_is
    ∙ (sym (all_of_none c.args.self.now) ∙ ap (λ (of : Option (Bor Stamp)). number_of (option_map (λ tuple. tuple.now.client) of) c.args.self.now) (sym c.in-None.is)))
