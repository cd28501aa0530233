-- What is counted of names that aren't kept with their client.
use Rattle.std.proofs.Common.{◌≡◌, ℕ, ℤ, zero, ◌+◌, ◌<◌, ◌&&◌, Bool, true, false, not, cond, Option, Some, None, List, [], ◌∷◌, length, unwrap_or, Contains, refl, sym, ap, subst, ◌∙◌, arith}
use Rattle.std.specs.List.{filter}
use Rattle.std.specs.List.Sorted.{IsPermutation}
use Rattle.std.specs.Ordering.{eq_by_cmp, is_eq}
use Rattle.std.specs.declared.cmp.Ordering.{Ordering}
use Rattle.std.specs.declared.cmp.Ordering.TheVariants.{Less, Equal, Greater}
use Rattle.std.specs.BTreeMap.{BTreeMap, is_at}
use Rattle.std.proofs.lemmas.Cmp.{tied_itself}
use Rattle.krb_replay.specs.Stamp.{Stamp}
use Rattle.krb_replay.specs.Inner.Counts.{AddsIf, HasNoZero, SameCounts, TakesIf, count_by}
use Rattle.krb_replay.specs.Inner.Held.{AreCounted, AreTimed, differs, is_other, others}
use Rattle.krb_replay.specs.Inner.Order.{TwoNames, client_cmp, client_total, names_of, pair_cmp, pair_total}
use Rattle.krb_replay.specs.Inner.Times.{AddsTime, SameTimes, TakesTime, all_by, kept_by}
use Rattle.krb_replay.proofs.CountLaws.{more_and_less, some_counted}
use Rattle.krb_replay.proofs.DropLaws.{among_rest}
use Rattle.krb_replay.proofs.HeldLaws.{both_kept, counted_less, counted_still, first_counts, into_filter, weighed}
use Rattle.krb_replay.proofs.TimesLaws.{one_more}

-- names differ from no others if none are kept
pub own_names : (kept : Option TwoNames) (names : TwoNames) → kept ≡ None → false ≡ differs (unwrap_or kept names) names
own_names None names is = sym (ap (λ (o : Ordering). not (is_eq o)) (tied_itself pair_total names))
own_names (Some kept) names is = absurd (cc)

is_tie : (o : Ordering) → is_eq o ≡ true → o ≡ Equal
is_tie Less e = absurd (cc)
is_tie Equal e = refl
is_tie Greater e = absurd (cc)

-- what a comparison says
pub equal_by : (pair kept same : TwoNames) (answer : Bool) → answer ≡ eq_by_cmp pair_cmp pair kept → answer ≡ true → same ≡ kept → pair_cmp pair same ≡ Equal
equal_by pair kept same answer is holds again =
    ap (λ (names : TwoNames). pair_cmp pair names) again ∙ is_tie (pair_cmp pair kept) (sym is ∙ holds)

same_filter : (p q : Stamp → Bool) (xs : List Stamp) → ((x : Stamp) → Contains xs x → p x ≡ q x) → filter p xs ≡ filter q xs
same_filter p q [] same = refl
same_filter p q (x ∷ xs) same =
    ap (λ (passes : Bool). cond passes (x ∷ filter p xs) (filter p xs)) (same x (zero, omega arith, refl))
    ∙ ap (λ (list : List Stamp). cond (q x) (x ∷ list) list) (same_filter p q xs (λ y there. same y (among_rest x xs y there)))

-- the client of a held stamp has times
has_times : (stamps : List Stamp) (times : BTreeMap TwoNames (List ℤ)) (stamp : Stamp) → AreTimed client_cmp stamps times → Contains stamps stamp → 0 < all_by client_cmp times (names_of stamp)
has_times stamps times stamp timed there =
    let is = timed.each (names_of stamp) (λ (time : ℤ). true) in
    let found = into_filter (λ (one : Stamp). true && is_at (client_cmp (names_of one)) (names_of stamp)) stamps stamp there (ap is_eq (tied_itself client_total (names_of stamp))) in
    let within = found.1 in
    omega arith

others_kept : (stamps : List Stamp) (old new : BTreeMap TwoNames (List ℤ)) → ((stamp : Stamp) → Contains stamps stamp → kept_by client_cmp new (names_of stamp) ≡ kept_by client_cmp old (names_of stamp))
    → others new stamps ≡ others old stamps
others_kept stamps old new same =
    same_filter (λ stamp. is_other new (names_of stamp)) (λ stamp. is_other old (names_of stamp)) stamps
    (λ stamp there. ap (λ (kept : TwoNames). differs kept (names_of stamp)) (same stamp there))

-- the same stamps are others after one more time, or one less, or as many
pub others_added : (stamps : List Stamp) (old new : BTreeMap TwoNames (List ℤ)) (names : TwoNames) (time : ℤ) → AreTimed client_cmp stamps old → AddsTime client_cmp old new names time
    → others new stamps ≡ others old stamps
others_added stamps old new names time timed adds =
    others_kept stamps old new
    (λ stamp there.
    let had = has_times stamps old stamp timed there in
    let more = adds.times (names_of stamp) (λ (time : ℤ). true) in
    adds.keys (names_of stamp) had (omega arith))

pub others_taken : (stamps : List Stamp) (old new : BTreeMap TwoNames (List ℤ)) (names : TwoNames) (time : ℤ) → AreTimed client_cmp stamps new → TakesTime client_cmp old new names time
    → others new stamps ≡ others old stamps
others_taken stamps old new names time timed takes =
    others_kept stamps old new
    (λ stamp there.
    let has = has_times stamps new stamp timed there in
    let less = takes.times (names_of stamp) (λ (time : ℤ). true) in
    takes.keys (names_of stamp) (omega arith) has)

pub others_still : (stamps : List Stamp) (old new : BTreeMap TwoNames (List ℤ)) → AreTimed client_cmp stamps old → SameTimes client_cmp old new → others new stamps ≡ others old stamps
others_still stamps old new timed same =
    others_kept stamps old new
    (λ stamp there.
    let had = has_times stamps old stamp timed there in
    let still = same.times (names_of stamp) (λ (time : ℤ). true) in
    same.keys (names_of stamp) had (omega arith))

-- ---- the counts

counted_if : (other : Bool) (were now : BTreeMap TwoNames ℕ) (key names : TwoNames) → AddsIf pair_cmp other were now key
    → count_by pair_cmp now names ≡ count_by pair_cmp were names + weighed (other && is_at (pair_cmp key) names)
counted_if true were now key names adds = adds.counts names
counted_if false were now key names same = let is = same.counts names in omega arith

no_zero_if : (other : Bool) (were now : BTreeMap TwoNames ℕ) (key : TwoNames) (stamps : List Stamp) → AddsIf pair_cmp other were now key → AreCounted pair_cmp stamps were → HasNoZero pair_cmp now
no_zero_if true were now key stamps adds counted = adds.no_zero counted.no_zero
no_zero_if false were now key stamps same counted = same.no_zero counted.no_zero

-- after one more stamp
pub others_more : (other : Bool) (old new : List Stamp) (before after : BTreeMap TwoNames (List ℤ)) (were now : BTreeMap TwoNames ℕ) (added : Stamp)
    → AreCounted pair_cmp (others before old) were → IsPermutation (added ∷ old) new → others after old ≡ others before old → is_other after (names_of added) ≡ other
    → AddsIf pair_cmp other were now (names_of added) → AreCounted pair_cmp (others after new) now
others_more other old new before after were now added counted moved same is adds = record {
  each = λ names.
      let all = one_more (λ (stamp : Stamp). is_other after (names_of stamp) && is_at (pair_cmp (names_of stamp)) names) added old new moved in
      let here = ap (λ (list : List Stamp). length list)
      (both_kept (λ (stamp : Stamp). is_at (pair_cmp (names_of stamp)) names) (λ (stamp : Stamp). is_other after (names_of stamp))
      (λ (stamp : Stamp). is_other after (names_of stamp) && is_at (pair_cmp (names_of stamp)) names) (λ stamp. refl) new) in
      let there = ap (λ (list : List Stamp). length list)
      (both_kept (λ (stamp : Stamp). is_at (pair_cmp (names_of stamp)) names) (λ (stamp : Stamp). is_other after (names_of stamp))
      (λ (stamp : Stamp). is_other after (names_of stamp) && is_at (pair_cmp (names_of stamp)) names) (λ stamp. refl) old) in
      let still = ap (λ (list : List Stamp). length (filter (λ (stamp : Stamp). is_at (pair_cmp (names_of stamp)) names) list)) same in
      let one = ap (λ (b : Bool). weighed (b && is_at (pair_cmp (names_of added)) names)) is in
      let was = counted.each names in
      let more = counted_if other were now (names_of added) names adds in
      omega arith;
  no_zero = no_zero_if other were now (names_of added) (others before old) adds counted;
}

in_front : (other : Bool) (first : Stamp) (rest : List Stamp) (before : BTreeMap TwoNames (List ℤ)) → is_other before (names_of first) ≡ other
    → others before (first ∷ rest) ≡ cond other (first ∷ others before rest) (others before rest)
in_front other first rest before is = ap (λ (b : Bool). cond b (first ∷ others before rest) (others before rest)) is

less_by : (other : Bool) (first : Stamp) (kept : List Stamp) (were now : BTreeMap TwoNames ℕ) → AreCounted pair_cmp (cond other (first ∷ kept) kept) were
    → TakesIf pair_cmp other were now (names_of first) → AreCounted pair_cmp kept now
less_by true first kept were now counted takes = counted_less pair_cmp first kept were now counted takes
less_by false first kept were now counted same = counted_still pair_cmp kept were now counted same

-- after one less
pub others_less : (other : Bool) (first : Stamp) (rest : List Stamp) (before after : BTreeMap TwoNames (List ℤ)) (were now : BTreeMap TwoNames ℕ)
    → AreCounted pair_cmp (others before (first ∷ rest)) were → is_other before (names_of first) ≡ other → TakesIf pair_cmp other were now (names_of first)
    → others after rest ≡ others before rest → AreCounted pair_cmp (others after rest) now
others_less other first rest before after were now counted is takes same =
    subst (λ (list : List Stamp). AreCounted pair_cmp list now) (sym same)
    (less_by other first (others before rest) were now (subst (λ (list : List Stamp). AreCounted pair_cmp list were) (in_front other first rest before is) counted) takes)

-- the first stamp is counted, if it is another
pub first_counted : (first : Stamp) (rest : List Stamp) (before : BTreeMap TwoNames (List ℤ)) (counts : BTreeMap TwoNames ℕ) → is_other before (names_of first) ≡ true
    → AreCounted pair_cmp (others before (first ∷ rest)) counts → 0 < count_by pair_cmp counts (names_of first)
first_counted first rest before counts is counted =
    first_counts pair_cmp pair_total first (others before rest) counts (subst (λ (list : List Stamp). AreCounted pair_cmp list counts) (in_front true first rest before is) counted)

-- one more, and one less
pub more_then_less_if : (other : Bool) (old mid new : BTreeMap TwoNames ℕ) (key : TwoNames) → AddsIf pair_cmp other old mid key → TakesIf pair_cmp other mid new key → SameCounts pair_cmp old new
more_then_less_if true old mid new key more less = more_and_less pair_cmp old mid new key more less
more_then_less_if false old mid new key one other = record {
  counts = λ names. other.counts names ∙ one.counts names;
  no_zero = λ none. other.no_zero (one.no_zero none);
}

pub some_counted_if : (other : Bool) (old new : BTreeMap TwoNames ℕ) (key : TwoNames) → AddsIf pair_cmp other old new key → other ≡ true → 0 < count_by pair_cmp new key
some_counted_if true old new key more holds = some_counted pair_cmp pair_total old new key more
some_counted_if false old new key same holds = absurd (cc)
