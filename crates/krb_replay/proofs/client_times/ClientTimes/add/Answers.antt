use Rattle.std.proofs.Common.{◌≡◌, ◌∙◌, ℤ, Option, Some, None, List, [], ◌∷◌, IsSome, ap, arith, length, of_z, true, refl, subst, sym, to_z}
use Rattle.std.specs.BTreeMap.{BTreeMap, get}
use Rattle.std.specs.Int.{w64}
use Rattle.std.specs.List.{filter}
use Rattle.std.specs.Option.{unwrap_or}
use Rattle.std.specs.List.Sorted.{IsPermutation}
use Rattle.std.proofs.lemmas.Int.{ints}
use Rattle.std.proofs.lemmas.List.Sorted.{IsPermutation-refl}
use Rattle.krb_replay.specs.Inner.Order.{TwoNames, client_cmp, client_total}
use Rattle.krb_replay.specs.Inner.Times.{AddsTime, times_by}
use Rattle.krb_replay.proofs.TimesLaws.{all_pass, inserted_is, inserted_keeps, keys_stay, more_times, on_err, own_times, still_times}
use Rattle.krb_replay.proofs.client_times.ClientTimes.add.Goals as goal

pub returns-in-Some-clause-ok : goal.returns-in-Some-clause-ok
returns-in-Some-clause-ok c =
    let t : to_z w64 (of_z w64 c.args.time) ≡ c.args.time = omega (arith, ints) in
    let was : times_by client_cmp c.args.self.now.times c.args.client ≡ c.in-Some.times.now = ap (λ (found : Option (List ℤ)). unwrap_or found []) (sym c.in-Some.ensures.value) in
    let moved : IsPermutation (to_z w64 (of_z w64 c.args.time) ∷ c.in-Some.times.now) c.add.new.self = c.in_ok-add.ensures.ok in
    more_times client_cmp client_total c.args.self.now.times (c.get_mut.follows.lender c.add.new.self) c.args.client c.add.new.self c.args.time
    ((c.get_mut.follows.holds c.add.new.self).3 (subst (λ (found : Option (List ℤ)). IsSome found) c.in-Some.ensures.value refl))
    (subst (λ (times : List ℤ). IsPermutation (c.args.time ∷ times) c.add.new.self) (sym was)
    (subst (λ (time : ℤ). IsPermutation (time ∷ c.in-Some.times.now) c.add.new.self) t moved))
    (λ key had has. keys_stay client_cmp client_total c.args.self.now.times (c.get_mut.follows.lender c.add.new.self) (c.get_mut.follows.holds c.add.new.self).1 key)
    (keys_stay client_cmp client_total c.args.self.now.times (c.get_mut.follows.lender c.add.new.self) (c.get_mut.follows.holds c.add.new.self).1 c.args.client)

pub returns-in-Some-clause-number : goal.returns-in-Some-clause-number
returns-in-Some-clause-number c =
    let now = own_times client_cmp client_total c.args.self.now.times (c.get_mut.follows.lender c.add.new.self) c.args.client c.add.new.self
    ((c.get_mut.follows.holds c.add.new.self).3 (subst (λ (found : Option (List ℤ)). IsSome found) c.in-Some.ensures.value refl)) in
    c.len.ensures.len ∙ (sym (all_pass c.add.new.self) ∙ sym (ap (λ (times : List ℤ). length (filter (λ (time : ℤ). true) times)) now))

pub returns-in_err-add-clause-err : goal.returns-in_err-add-clause-err
returns-in_err-add-clause-err c =
    let was : times_by client_cmp c.args.self.now.times c.args.client ≡ c.in-Some.times.now = ap (λ (found : Option (List ℤ)). unwrap_or found []) (sym c.in-Some.ensures.value) in
    let same : c.add.new.self ≡ c.in-Some.times.now = c.in_err-add.ensures.err in
    on_err c.from_residual.result
    (still_times client_cmp client_total c.args.self.now.times (c.get_mut.follows.lender c.add.new.self) c.args.client c.add.new.self
    ((c.get_mut.follows.holds c.add.new.self).3 (subst (λ (found : Option (List ℤ)). IsSome found) c.in-Some.ensures.value refl))
    (was ∙ sym same) (λ none empty. none c.args.client (sym c.in-Some.ensures.value ∙ (ap (λ (times : List ℤ). Some times) (sym same) ∙ empty)))
    (λ key had has. keys_stay client_cmp client_total c.args.self.now.times (c.get_mut.follows.lender c.add.new.self) (c.get_mut.follows.holds c.add.new.self).1 key))

pub returns-clause-ok : goal.returns-clause-ok
returns-clause-ok c =
    let t : to_z w64 (of_z w64 c.args.time) ≡ c.args.time = omega (arith, ints) in
    let mid = c.get_mut.follows.lender-at-none in
    let same : mid ≡ c.args.self.now.times = c.get_mut.follows.holds-at-none in
    let absent : get client_cmp mid c.args.client ≡ None = subst (λ (times : BTreeMap TwoNames (List ℤ)). get client_cmp times c.args.client ≡ None) (sym same) (sym c.in_default.ensures.value) in
    let none : times_by client_cmp mid c.args.client ≡ [] = ap (λ (found : Option (List ℤ)). unwrap_or found []) absent in
    subst (λ (times : BTreeMap TwoNames (List ℤ)). AddsTime client_cmp times c.insert.new.self c.args.client c.args.time) same
    (more_times client_cmp client_total mid c.insert.new.self c.args.client c.new.result c.args.time c.in_ok-insert.ensures.updates
    (subst (λ (times : List ℤ). IsPermutation (c.args.time ∷ times) c.new.result) (sym none)
    (subst (λ (times : List ℤ). IsPermutation (c.args.time ∷ []) times) (sym (c.new.ensures ∙ ap (λ (time : ℤ). time ∷ []) t)) (IsPermutation-refl (c.args.time ∷ []))))
    (inserted_keeps client_cmp client_total mid c.insert.new.self c.args.client c.new.result none c.in_ok-insert.ensures.entries)
    (inserted_is client_cmp client_total mid c.insert.new.self c.args.client c.new.result absent c.in_ok-insert.ensures.entries))

pub returns-clause-number : goal.returns-clause-number
returns-clause-number c =
    let now = own_times client_cmp client_total c.get_mut.follows.lender-at-none c.insert.new.self c.args.client c.new.result c.in_ok-insert.ensures.updates in
    let one = ap (λ (times : List ℤ). length times) c.new.ensures in
    let all = all_pass c.new.result in
    let is = ap (λ (times : List ℤ). length (filter (λ (time : ℤ). true) times)) now in
    omega arith
