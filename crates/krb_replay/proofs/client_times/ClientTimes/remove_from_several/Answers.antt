use Rattle.std.proofs.Common.{◌≡◌, ◌∙◌, ℤ, Option, Some, List, [], ◌∷◌, Contains, IsSome, ap, length, arith, of_z, refl, subst, sym, to_z}
use Rattle.std.specs.Int.{w64}
use Rattle.std.specs.Option.{unwrap_or}
use Rattle.std.specs.List.Sorted.{IsPermutation}
use Rattle.std.proofs.lemmas.List.Sorted.{length_permutation}
use Rattle.std.proofs.lemmas.Int.{ints}
use Rattle.krb_replay.specs.Inner.Order.{client_cmp, client_total}
use Rattle.krb_replay.specs.Inner.Times.{KeepsKeys, times_by}
use Rattle.krb_replay.proofs.TimesLaws.{keys_stay, less_times, only_one, own_times, some_are_not_empty, still_times}
use Rattle.krb_replay.proofs.client_times.ClientTimes.remove_from_several.Goals as goal

pub returns-in-Some : goal.returns-in-Some
returns-in-Some c =
    let t : to_z w64 (of_z w64 c.args.time) ≡ c.args.time = omega (arith, ints) in
    let was : times_by client_cmp c.args.self.now.times c.args.client.now ≡ c.in-Some.times.now = ap (λ (found : Option (List ℤ)). unwrap_or found []) (sym c.in-Some.ensures.value) in
    let there : Contains c.in-Some.times.now c.args.time = subst (λ (times : List ℤ). Contains times c.args.time) was c.requires in
    let updates = (c.get_mut.follows.holds c.remove.new.self).3 (subst (λ (found : Option (List ℤ)). IsSome found) c.in-Some.ensures.value refl) in
    let keeps : KeepsKeys client_cmp c.args.self.now.times (c.get_mut.follows.lender c.remove.new.self) = λ key had has.
    keys_stay client_cmp client_total c.args.self.now.times (c.get_mut.follows.lender c.remove.new.self) (c.get_mut.follows.holds c.remove.new.self).1 key in
    record {
      removed = λ yes.
          let moved : IsPermutation (times_by client_cmp c.args.self.now.times c.args.client.now) (c.args.time ∷ c.remove.new.self) =
          subst (λ (times : List ℤ). IsPermutation times (c.args.time ∷ c.remove.new.self)) (sym was)
          (subst (λ (time : ℤ). IsPermutation c.in-Some.times.now (time ∷ c.remove.new.self)) t (c.remove.ensures.removed yes)) in
          let others = (c.remove.ensures.exactly.0 yes).1 in
          let long = ap (λ (times : List ℤ). length times) was in
          let longer = length_permutation (times_by client_cmp c.args.self.now.times c.args.client.now) (c.args.time ∷ c.remove.new.self) moved in
          less_times client_cmp client_total c.args.self.now.times (c.get_mut.follows.lender c.remove.new.self) c.args.client.now (Some c.remove.new.self) c.args.time updates moved
          (some_are_not_empty c.remove.new.self (omega arith)) keeps;
      kept = λ stays.
          still_times client_cmp client_total c.args.self.now.times (c.get_mut.follows.lender c.remove.new.self) c.args.client.now c.remove.new.self updates
          (was ∙ sym (c.remove.ensures.kept stays))
          (λ none empty. none c.args.client.now (sym c.in-Some.ensures.value ∙ (ap (λ (times : List ℤ). Some times) (sym (c.remove.ensures.kept stays)) ∙ empty))) keeps;
      only = λ stays.
          own_times client_cmp client_total c.args.self.now.times (c.get_mut.follows.lender c.remove.new.self) c.args.client.now c.remove.new.self updates
          ∙ (c.remove.ensures.kept stays
          ∙ only_one c.remove.result c.in-Some.times.now c.args.time stays there
          (λ others. c.remove.ensures.exactly.1 (subst (λ (time : ℤ). Contains c.in-Some.times.now time) (sym t) there, others)));
    }
