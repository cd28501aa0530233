-- How many tuples a client has at most.
use Rattle.std.proofs.Common.{◌≡◌, ◌≤◌, ◌+◌, ◌&&◌, ℕ, ℤ, Bool, true, false, cond, List, [], Some, length, ap, arith, refl}
use Rattle.std.specs.List.{filter}
use Rattle.std.specs.BTreeMap.{BTreeMap, is_at}
use Rattle.krb_replay.specs.Stamp.{RealmAndName, Stamp}
use Rattle.krb_replay.specs.Inner.Held.{AreTimed, IsMost, number_of}
use Rattle.krb_replay.specs.Inner.Order.{TwoNames, client_cmp, client_total}
use Rattle.krb_replay.specs.Inner.Times.{AddsTime, SameTimes, TakesTime, all_by, times_by}
use Rattle.krb_replay.proofs.TimesLaws.{all_pass, number_of_client, same_key}

pub most_none : (times : BTreeMap TwoNames (List ℤ)) → ((names : TwoNames) → times_by client_cmp times names ≡ []) → IsMost times 0
most_none times none names = let is = ap (λ (list : List ℤ). length (filter (λ (time : ℤ). true) list)) (none names) in omega arith

pub most_still : (old new : BTreeMap TwoNames (List ℤ)) (most : ℕ) → SameTimes client_cmp old new → IsMost old most → IsMost new most
most_still old new most same is names = let still = same.times names (λ (time : ℤ). true) in let few = is names in omega arith

pub most_less : (old new : BTreeMap TwoNames (List ℤ)) (names : TwoNames) (time : ℤ) (most : ℕ) → TakesTime client_cmp old new names time → IsMost old most → IsMost new most
most_less old new names time most takes is other = let less = takes.times other (λ (time : ℤ). true) in let few = is other in omega arith

more_at : (at : Bool) (old new : BTreeMap TwoNames (List ℤ)) (names other : TwoNames) (number most now : ℕ) → is_at (client_cmp names) other ≡ at → number ≡ all_by client_cmp new names
    → all_by client_cmp new other ≡ all_by client_cmp old other + cond (at && true) 1 0 → all_by client_cmp old other ≤ most → most ≤ now → number ≤ now → all_by client_cmp new other ≤ now
more_at true old new names other number most now at is more few above one =
    let same = ap (λ (list : List ℤ). length (filter (λ (time : ℤ). true) list)) (same_key client_cmp client_total new names other at) in omega arith
more_at false old new names other number most now at is more few above one = omega arith

pub most_more : (old new : BTreeMap TwoNames (List ℤ)) (names : TwoNames) (time : ℤ) (number most now : ℕ) → AddsTime client_cmp old new names time → number ≡ all_by client_cmp new names
    → most ≤ now → number ≤ now → IsMost old most → IsMost new now
most_more old new names time number most now adds is above one few other =
    more_at (is_at (client_cmp names) other) old new names other number most now refl is (adds.times other (λ (time : ℤ). true)) (few other) above one

pub most_of_client : (client : RealmAndName) (stamps : List Stamp) (times : BTreeMap TwoNames (List ℤ)) (most : ℕ) → AreTimed client_cmp stamps times → IsMost times most
    → number_of (Some client) stamps ≤ most
most_of_client client stamps times most timed few =
    let names : TwoNames = (client, client) in
    let is = number_of_client client names stamps times refl timed in
    let all = all_pass (times_by client_cmp times names) in
    let one = few names in
    omega arith
