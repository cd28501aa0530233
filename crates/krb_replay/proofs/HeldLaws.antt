-- What is held, and what of it isn't too old.
use Rattle.std.proofs.Common.{◌≡◌, ◌⊎◌, inl, inr, ℕ, ℤ, zero, ◌+◌, ◌<◌, ◌≤ℤ◌, ◌<ℤ◌, ◌&&◌, Bool, true, false, not, cond, Option, Some, None, List, [], ◌∷◌, length, drop, get_or, slice_get, unwrap_or, Contains, refl, sym, subst, ap, ◌∙◌, arith}
use Rattle.std.specs.List.{All, filter}
use Rattle.std.proofs.lemmas.List.Elements.{All-head, All-tail, filter_passes}
use Rattle.std.specs.declared.cmp.Ordering.{Ordering}
use Rattle.std.specs.BTreeMap.{BTreeMap, is_at}
use Rattle.std.proofs.lemmas.Int.{ints}
use Rattle.krb_replay.specs.Stamp.{RealmAndName, Stamp}
use Rattle.std.specs.Cmp.{IsTotalOrder}
use Rattle.krb_replay.specs.Inner.Counts.{HasNoZero, SameCounts, TakesOne, count_by, one_by}
use Rattle.krb_replay.specs.Inner.Order.{TwoNames, names_of}
use Rattle.krb_replay.specs.Inner.Held.{AreCounted, is_before, is_of, number_before, number_of, since}
use Rattle.krb_replay.proofs.CountLaws.{own}
use Rattle.krb_replay.proofs.DropLaws.{first_or_rest, among_rest}

-- one more, if it passes
abbrev pub weighed : Bool → ℕ
weighed passes = cond passes 1 0

longer : {X : Type 0} (passes : Bool) (x : X) (xs : List X) → length (cond passes (x ∷ xs) xs) ≡ weighed passes + length xs
longer true x xs = omega arith
longer false x xs = omega arith

pub filter_longer : {X : Type 0} (p : X → Bool) (x : X) (xs : List X) → length (filter p (x ∷ xs)) ≡ weighed (p x) + length (filter p xs)
filter_longer p x xs = longer (p x) x (filter p xs)

from_cond : (b : Bool) (p : Stamp → Bool) (y : Stamp) (ys : List Stamp) (x : Stamp) → p y ≡ b
    → Contains (cond b (y ∷ filter p ys) (filter p ys)) x → (Contains (filter p ys) x → Contains ys x × (p x ≡ true))
    → Contains (y ∷ ys) x × (p x ≡ true)
from_cond true p y ys x is there rest = elim (first_or_rest y (filter p ys) x there) [
  | inl same ↦ ((zero, omega arith, same), ap p (sym same) ∙ is)
  | inr among ↦ (let h = rest among in (among_rest y ys x h.0, h.1))
]
from_cond false p y ys x is there rest = let h = rest there in (among_rest y ys x h.0, h.1)

-- what a filter keeps is in the list, and passes
pub from_filter : (p : Stamp → Bool) (xs : List Stamp) (x : Stamp) → Contains (filter p xs) x → Contains xs x × (p x ≡ true)
from_filter p [] x (k, within, is) = absurd (omega arith)
from_filter p (y ∷ ys) x there = from_cond (p y) p y ys x refl there (from_filter p ys x)

into_cond : (b : Bool) (p : Stamp → Bool) (y : Stamp) (ys : List Stamp) (x : Stamp) → p y ≡ b → (y ≡ x) ⊎ Contains ys x → p x ≡ true
    → (Contains ys x → Contains (filter p ys) x) → Contains (cond b (y ∷ filter p ys) (filter p ys)) x
into_cond true p y ys x is either passes rest = elim either [
  | inl same ↦ (zero, omega arith, same)
  | inr among ↦ among_rest y (filter p ys) x (rest among)
]
into_cond false p y ys x is either passes rest = elim either [
  | inl same ↦ absurd (let other : p x ≡ false = ap p (sym same) ∙ is in cc)
  | inr among ↦ rest among
]

pub into_filter : (p : Stamp → Bool) (xs : List Stamp) (x : Stamp) → Contains xs x → p x ≡ true → Contains (filter p xs) x
into_filter p [] x (k, within, is) passes = absurd (omega arith)
into_filter p (y ∷ ys) x there passes = into_cond (p y) p y ys x refl (first_or_rest y ys x there) passes (λ rest. into_filter p ys x rest passes)

-- a stamp that isn't before a moment
pub recent_from : (oldest : ℤ) (stamp : Stamp) → not (is_before oldest stamp) ≡ true → oldest ≤ℤ stamp.time
recent_from oldest stamp e = grind (arith, ints)

pub recent_is : (oldest : ℤ) (stamp : Stamp) → oldest ≤ℤ stamp.time → not (is_before oldest stamp) ≡ true
recent_is oldest stamp h = grind (arith, ints)

early_is : (oldest : ℤ) (stamp : Stamp) → stamp.time <ℤ oldest → is_before oldest stamp ≡ true
early_is oldest stamp h = grind (arith, ints)

pub late_is : (oldest : ℤ) (stamp : Stamp) → oldest ≤ℤ stamp.time → is_before oldest stamp ≡ false
late_is oldest stamp h = grind (arith, ints)

by_side : (before : Bool) (client : Option RealmAndName) (x : Stamp) (later earlier xs : List Stamp)
    → number_of client later + number_of client earlier ≡ number_of client xs
    → number_of client (cond (not before) (x ∷ later) later) + number_of client (cond before (x ∷ earlier) earlier) ≡ number_of client (x ∷ xs)
by_side true client x later earlier xs same =
    let one = filter_longer (is_of client) x earlier in
    let all = filter_longer (is_of client) x xs in
    omega arith
by_side false client x later earlier xs same =
    let one = filter_longer (is_of client) x later in
    let all = filter_longer (is_of client) x xs in
    omega arith

-- those before a moment and the others are all
pub two_sides : (client : Option RealmAndName) (oldest : ℤ) (xs : List Stamp)
    → number_of client (since oldest xs) + number_before client oldest xs ≡ number_of client xs
two_sides client oldest [] = refl
two_sides client oldest (x ∷ xs) =
    by_side (is_before oldest x) client x (since oldest xs) (filter (is_before oldest) xs) xs (two_sides client oldest xs)

pub all_of_none : (xs : List Stamp) → number_of None xs ≡ length xs
all_of_none [] = refl
all_of_none (x ∷ xs) = let rest = all_of_none xs in omega arith

pub counted_still : (cmp : TwoNames → TwoNames → Ordering) (stamps : List Stamp) (before after : BTreeMap TwoNames ℕ) → AreCounted cmp stamps before
    → SameCounts cmp before after → AreCounted cmp stamps after
counted_still cmp stamps before after counted same = record {
  each = λ names. same.counts names ∙ counted.each names;
  no_zero = same.no_zero counted.no_zero;
}

pub counted_none : (cmp : TwoNames → TwoNames → Ordering) (stamps : List Stamp) (counts : BTreeMap TwoNames ℕ) → stamps ≡ []
    → ((names : TwoNames) → count_by cmp counts names ≡ 0) → HasNoZero cmp counts → AreCounted cmp stamps counts
counted_none cmp stamps counts is none no_zero = record {
  each = λ names. none names ∙ ap (λ (list : List Stamp). length (filter (λ stamp. is_at (cmp (names_of stamp)) names) list)) (sym is);
  no_zero = no_zero;
}

-- and after one less
pub counted_less : (cmp : TwoNames → TwoNames → Ordering) (first : Stamp) (rest : List Stamp) (before after : BTreeMap TwoNames ℕ)
    → AreCounted cmp (first ∷ rest) before → TakesOne cmp before after (names_of first) → AreCounted cmp rest after
counted_less cmp first rest before after counted less = record {
  each = λ names.
      let all = filter_longer (λ stamp. is_at (cmp (names_of stamp)) names) first rest in
      let same : one_by cmp (names_of first) names ≡ weighed (is_at (cmp (names_of first)) names) = refl in
      let was = counted.each names in
      let now = less.counts names in
      omega arith;
  no_zero = less.no_zero counted.no_zero;
}

pub first_counts : (cmp : TwoNames → TwoNames → Ordering) → IsTotalOrder cmp → (first : Stamp) (rest : List Stamp) (counts : BTreeMap TwoNames ℕ)
    → AreCounted cmp (first ∷ rest) counts → 0 < count_by cmp counts (names_of first)
first_counts cmp total first rest counts counted =
    let all = filter_longer (λ stamp. is_at (cmp (names_of stamp)) (names_of first)) first rest in
    let same : one_by cmp (names_of first) (names_of first) ≡ weighed (is_at (cmp (names_of first)) (names_of first)) = refl in
    let one = own cmp total (names_of first) in
    let was = counted.each (names_of first) in
    omega arith

keep_all : (p : Stamp → Bool) (xs : List Stamp) → All (λ x. p x ≡ true) xs → filter p xs ≡ xs
keep_all p [] all = refl
keep_all p (x ∷ xs) all =
    ap (λ (passes : Bool). cond passes (x ∷ filter p xs) (filter p xs)) (All-head (λ y. p y ≡ true) x xs all)
    ∙ ap (λ (ys : List Stamp). x ∷ ys) (keep_all p xs (All-tail (λ y. p y ≡ true) x xs all))

-- none is before a moment if the least isn't
pub all_recent : (oldest : ℤ) (first : Stamp) (stamps : List Stamp) → All (λ stamp. first.time ≤ℤ stamp.time) stamps → oldest ≤ℤ first.time
    → since oldest stamps ≡ stamps
all_recent oldest first stamps all recent =
    keep_all (λ stamp. not (is_before oldest stamp)) stamps
    (λ k d within. recent_is oldest (get_or stamps k d) (let later = all k d within in omega (arith, ints)))

pub none_there : (oldest : ℤ) (stamps : List Stamp) → (0 < length stamps → ⊥) → since oldest stamps ≡ stamps
none_there oldest [] none = refl
none_there oldest (x ∷ xs) none = absurd (none (omega arith))

pub drop_all : (p : Stamp → Bool) (xs : List Stamp) → All (λ x. p x ≡ false) xs → filter p xs ≡ []
drop_all p [] all = refl
drop_all p (x ∷ xs) all =
    ap (λ (passes : Bool). cond passes (x ∷ filter p xs) (filter p xs)) (All-head (λ y. p y ≡ false) x xs all)
    ∙ drop_all p xs (All-tail (λ y. p y ≡ false) x xs all)

first_dropped : (oldest : ℤ) (x : Stamp) (xs : List Stamp) → x.time <ℤ oldest → since oldest (x ∷ xs) ≡ since oldest xs
first_dropped oldest x xs early =
    ap (λ (before : Bool). cond (not before) (x ∷ since oldest xs) (since oldest xs)) (early_is oldest x early)

-- the first is dropped if it is before the moment
pub first_gone : (oldest : ℤ) (first : Stamp) (old new : List Stamp) → slice_get old 0 ≡ Some first → first.time <ℤ oldest → new ≡ drop 1 old
    → since oldest new ≡ since oldest old
first_gone oldest first [] new is early rest = ap (λ (stamps : List Stamp). since oldest stamps) rest
first_gone oldest first (x ∷ xs) new is early rest =
    let same : x ≡ first = ap (λ (one : Option Stamp). unwrap_or one x) is in
    ap (λ (stamps : List Stamp). since oldest stamps) rest ∙ sym (first_dropped oldest x xs (subst (λ (s : Stamp). s.time <ℤ oldest) (sym same) early))

-- what isn't before a moment isn't before an earlier one
pub recent_before : (oldest earlier : ℤ) (stamps : List Stamp) → since oldest stamps ≡ stamps → earlier ≤ℤ oldest → since earlier stamps ≡ stamps
recent_before oldest earlier stamps all less =
    keep_all (λ stamp. not (is_before earlier stamp)) stamps
    (λ k d within. recent_is earlier (get_or stamps k d)
    (let recent = recent_from oldest (get_or stamps k d)
    (subst (λ (kept : List Stamp). All (λ stamp. not (is_before oldest stamp) ≡ true) kept) all (filter_passes (λ stamp. not (is_before oldest stamp)) stamps) k d within) in
    omega (arith, ints)))

cond_both : (q p : Bool) (x : Stamp) (kept both : List Stamp) (P : Stamp → Bool) → P x ≡ p → filter P kept ≡ both
    → filter P (cond q (x ∷ kept) kept) ≡ cond (q && p) (x ∷ both) both
cond_both true true x kept both P is same = ap (λ (passes : Bool). cond passes (x ∷ filter P kept) (filter P kept)) is ∙ ap (λ (list : List Stamp). x ∷ list) same
cond_both true false x kept both P is same = ap (λ (passes : Bool). cond passes (x ∷ filter P kept) (filter P kept)) is ∙ same
cond_both false p x kept both P is same = same

-- what passes two tests
pub both_kept : (P Q R : Stamp → Bool) → ((x : Stamp) → (Q x && P x) ≡ R x) → (xs : List Stamp) → filter P (filter Q xs) ≡ filter R xs
both_kept P Q R is [] = refl
both_kept P Q R is (x ∷ xs) =
    cond_both (Q x) (P x) x (filter Q xs) (filter R xs) P refl (both_kept P Q R is xs)
    ∙ ap (λ (passes : Bool). cond passes (x ∷ filter R xs) (filter R xs)) (is x)
