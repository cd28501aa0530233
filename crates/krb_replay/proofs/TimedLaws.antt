-- The set of a timed memory: what is held and isn't before a moment.
use Rattle.std.proofs.Common.{◌≡◌, ◌⊎◌, inl, inr, ℕ, ℤ, zero, suc, ◌+◌, ◌-◌, ◌≤◌, ◌≤ℤ◌, ◌<ℤ◌, Bool, true, false, not, cond, ◌&&◌, Option, Some, None, List, [], ◌∷◌, length, Contains, refl, sym, subst, ap, ◌∙◌, arith}
use Rattle.std.specs.List.{filter}
use Rattle.std.specs.Prelude.{Result, Ok, Err, OnOk, OnErr}
use Rattle.std.specs.Ordering.{is_eq}
use Rattle.std.proofs.lemmas.Cmp.{tied_itself}
use Rattle.std.proofs.lemmas.Int.{ints}
use Rattle.std.proofs.lemmas.Map.Views.{tells_apart}
use Rattle.krb_replay.specs.Stamp.{RealmAndName, Stamp}
use Rattle.krb_replay.specs.Limit.{HasAtLeast, IsOf, Since}
use Rattle.krb_replay.specs.Memory.{AddsStamp, FreesSome, IsSizeOf, SameStamps, earlier_of, later_of}
use Rattle.krb_replay.specs.Inner.Order.{name_cmp, name_total}
use Rattle.krb_replay.specs.Inner.Held.{FreesAtMost, IsLater, IsOnce, is_before, is_of, number_before, number_of, since}
use Rattle.krb_replay.proofs.HeldLaws.{all_of_none, both_kept, from_filter, into_filter, recent_from, recent_is, two_sides}
use Rattle.krb_replay.proofs.OrderLaws.{exact_names}
use Rattle.krb_replay.proofs.OnceLaws.{once_cons, once_from_counts}
use Rattle.krb_replay.proofs.SizeLaws.{AreOnce, first_apart, no_longer, once_rest, one_size}

-- what is in the set
pub in_set : (oldest : ℤ) (held : List Stamp) (stamp : Stamp) → Contains (since oldest held) stamp → Contains held stamp × (oldest ≤ℤ stamp.time)
in_set oldest held stamp there =
    let h = from_filter (λ one. not (is_before oldest one)) held stamp there in (h.0, recent_from oldest stamp h.1)

pub into_set : (oldest : ℤ) (held : List Stamp) (stamp : Stamp) → Contains held stamp → oldest ≤ℤ stamp.time → Contains (since oldest held) stamp
into_set oldest held stamp there recent = into_filter (λ one. not (is_before oldest one)) held stamp there (recent_is oldest stamp recent)

-- what a look-up answers for a stamp that isn't too old, and for one that is
pub recent_found : (oldest : ℤ) (held stamps : List Stamp) (stamp : Stamp) (answer : Bool) → since oldest held ≡ stamps → oldest ≤ℤ stamp.time
    → (answer ≡ true → Contains held stamp) × (Contains held stamp → answer ≡ true)
    → (answer ≡ true → Contains stamps stamp) × (Contains stamps stamp → answer ≡ true)
recent_found oldest held stamps stamp answer same recent decides = (
  λ yes. subst (λ (list : List Stamp). Contains list stamp) same (into_set oldest held stamp (decides.0 yes) recent),
  λ there. decides.1 (in_set oldest held stamp (subst (λ (list : List Stamp). Contains list stamp) (sym same) there)).0,
)

pub old_lacks : (oldest : ℤ) (held stamps : List Stamp) (stamp : Stamp) → since oldest held ≡ stamps → stamp.time <ℤ oldest → Contains stamps stamp → ⊥
old_lacks oldest held stamps stamp same old there =
    let h = (in_set oldest held stamp (subst (λ (list : List Stamp). Contains list stamp) (sym same) there)).1 in omega (arith, ints)

-- a new stamp, after the set was brought to reach it
pub reached_adds : (oldest reached : ℤ) (old between new : List Stamp) (stamps : List Stamp) (added : Stamp) → since reached between ≡ since oldest old
    → since oldest old ≡ stamps → reached ≤ℤ added.time → AddsStamp (Contains between) (Contains new) added
    → AddsStamp (Contains stamps) (Contains (since reached new)) added
reached_adds oldest reached old between new stamps added same is recent adds stamp = (
  λ there. let h = in_set reached new stamp there in
      elim ((adds stamp).0 h.0) [
        | inl one ↦ inl one
        | inr before ↦ inr (subst (λ (list : List Stamp). Contains list stamp) (same ∙ is) (into_set reached between stamp before h.1))
      ],
  λ either. elim either [
    | inl one ↦ into_set reached new stamp ((adds stamp).1 (inl one)) (subst (λ (s : Stamp). reached ≤ℤ s.time) (sym one) recent)
    | inr before ↦ (let h = in_set reached between stamp (subst (λ (list : List Stamp). Contains list stamp) (sym (same ∙ is)) before) in
        into_set reached new stamp ((adds stamp).1 (inr h.0)) h.1)
  ],
)

pub reached_same : (oldest reached : ℤ) (old between new : List Stamp) (stamps : List Stamp) → since reached between ≡ since oldest old
    → since oldest old ≡ stamps → new ≡ between → SameStamps (Contains stamps) (Contains (since reached new))
reached_same oldest reached old between new stamps same is unchanged stamp =
    let all : since reached new ≡ stamps = ap (λ (list : List Stamp). since reached list) unchanged ∙ (same ∙ is) in (
      λ there. subst (λ (list : List Stamp). Contains list stamp) all there,
      λ there. subst (λ (list : List Stamp). Contains list stamp) (sym all) there,
    )

-- each once
once_cond : (keep : Bool) (first : Stamp) (rest kept : List Stamp) → AreOnce (first ∷ rest) → ((stamp : Stamp) → Contains kept stamp → Contains rest stamp)
    → AreOnce kept → AreOnce (cond keep (first ∷ kept) kept)
once_cond true first rest kept once among still = once_cons first kept (λ stamp there. first_apart first rest stamp once (among stamp there)) still
once_cond false first rest kept once among still = still

pub once_kept : (p : Stamp → Bool) (stamps : List Stamp) → AreOnce stamps → AreOnce (filter p stamps)
once_kept p [] once = once
once_kept p (first ∷ rest) once =
    once_cond (p first) first rest (filter p rest) once (λ stamp there. (from_filter p rest stamp there).0) (once_kept p rest (once_rest first rest once))

-- the size of the set
pub live_size : (oldest : ℤ) (held stamps : List Stamp) (number : ℕ) → IsOnce held → since oldest held ≡ stamps
    → number ≡ number_of None (since oldest held) → IsSizeOf (Contains stamps) number
live_size oldest held stamps number once same is =
    let live = all_of_none (since oldest held) in
    subst (λ (list : List Stamp). IsSizeOf (Contains list) number) same
    (record {
      stamps = since oldest held;
      once = once_kept (λ one. not (is_before oldest one)) held (once_from_counts held once);
      members = λ stamp. (λ h. h, λ h. h);
      size_is = omega arith;
    })

-- a client, by the name
pub is_from : (client : Option RealmAndName) (stamp : Stamp) → is_of client stamp ≡ true → IsOf client stamp
is_from None stamp e = tt
is_from (Some client) stamp e = tells_apart exact_names stamp.client client e

pub is_of_it : (client : Option RealmAndName) (stamp : Stamp) → IsOf client stamp → is_of client stamp ≡ true
is_of_it None stamp h = refl
is_of_it (Some client) stamp h = ap (λ (name : RealmAndName). is_eq (name_cmp name client)) h ∙ ap is_eq (tied_itself name_total client)

-- how many there are since a moment, as a number and as a list
pub at_least : (client : Option RealmAndName) (oldest : ℤ) (stamps : List Stamp) (count : ℕ) → AreOnce stamps
    → (count ≤ number_of client (since oldest stamps) → HasAtLeast (Since (Contains stamps) client oldest) count)
    × (HasAtLeast (Since (Contains stamps) client oldest) count → count ≤ number_of client (since oldest stamps))
at_least client oldest stamps count once = (
  λ enough. record {
    stamps = filter (is_of client) (since oldest stamps);
    once = once_kept (is_of client) (since oldest stamps) (once_kept (λ one. not (is_before oldest one)) stamps once);
    among = λ stamp there. let h = from_filter (is_of client) (since oldest stamps) stamp there in
        let live = in_set oldest stamps stamp h.0 in (live.0, (live.1, is_from client stamp h.1));
    enough = enough;
  },
  λ has. let fewer = no_longer has.stamps (filter (is_of client) (since oldest stamps)) has.once
      (λ stamp there. let h = has.among stamp there in
      into_filter (is_of client) (since oldest stamps) stamp (into_set oldest stamps stamp h.0 h.1.0) (is_of_it client stamp h.1.1)) in
      let enough = has.enough in
      omega arith,
)

both_recent : (one other later : ℤ) (stamp : Stamp) → one ≤ℤ later → other ≤ℤ later → (later ≡ one) ⊎ (later ≡ other)
    → (not (is_before one stamp) && not (is_before other stamp)) ≡ not (is_before later stamp)
both_recent one other later stamp below also (inl is) = grind (arith, ints)
both_recent one other later stamp below also (inr is) = grind (arith, ints)

-- since the later of two moments
pub since_later : (one other later : ℤ) (held : List Stamp) → IsLater one other later → since other (since one held) ≡ since later held
since_later one other later held is =
    both_kept (λ stamp. not (is_before other stamp)) (λ stamp. not (is_before one stamp)) (λ stamp. not (is_before later stamp))
    (λ stamp. both_recent one other later stamp is.above_one is.above_other is.either) held

-- what is left after the set forgot what is before a moment
pub record Forgets (stamps new : List Stamp) (cut : ℤ) : Type 0 where
  pub none_added : (stamp : Stamp) → Contains new stamp → Contains stamps stamp
  pub kept : (stamp : Stamp) → Contains stamps stamp → cut ≤ℤ stamp.time → Contains new stamp
  pub forgets : (stamp : Stamp) → Contains new stamp → cut ≤ℤ stamp.time

pub forgotten : (oldest cut later : ℤ) (old new stamps : List Stamp) → IsLater oldest cut later → since later new ≡ since later old
    → since oldest old ≡ stamps → Forgets stamps (since later new) cut
forgotten oldest cut later old new stamps choice same is =
    let below = choice.above_one in
    let also = choice.above_other in
    record {
      none_added = λ stamp there.
          let h = in_set later old stamp (subst (λ (list : List Stamp). Contains list stamp) same there) in
          subst (λ (list : List Stamp). Contains list stamp) is (into_set oldest old stamp h.0 (let recent = h.1 in omega (arith, ints)));
      kept = λ stamp there recent.
          let h = in_set oldest old stamp (subst (λ (list : List Stamp). Contains list stamp) (sym is) there) in
          let here = h.1 in
          subst (λ (list : List Stamp). Contains list stamp) (sym same)
          (into_set later old stamp h.0 (elim choice.either [ inl e ↦ omega (arith, ints) | inr e ↦ omega (arith, ints) ]));
      forgets = λ stamp there. let h = (in_set later new stamp there).1 in omega (arith, ints);
    }

-- whatever the addition answered
pub added_reached : {E : Type 0} (oldest reached : ℤ) (old between new stamps : List Stamp) (added : Stamp) (answer : Result (Unit {0}) E)
    → since reached between ≡ since oldest old → since oldest old ≡ stamps → reached ≤ℤ added.time
    → OnOk answer (AddsStamp (Contains between) (Contains new) added)
    → OnOk answer (AddsStamp (Contains stamps) (Contains (since reached new)) added)
added_reached oldest reached old between new stamps added (Ok x) same is recent adds = reached_adds oldest reached old between new stamps added same is recent adds
added_reached oldest reached old between new stamps added (Err e) same is recent adds = adds

pub same_reached : {E : Type 0} (oldest reached : ℤ) (old between new stamps : List Stamp) (answer : Result (Unit {0}) E)
    → since reached between ≡ since oldest old → since oldest old ≡ stamps → OnErr answer (new ≡ between)
    → OnErr answer (SameStamps (Contains stamps) (Contains (since reached new)))
same_reached oldest reached old between new stamps (Ok x) same is unchanged = unchanged
same_reached oldest reached old between new stamps (Err e) same is unchanged = reached_same oldest reached old between new stamps same is unchanged

pub same_list : {E : Type 0} (oldest reached : ℤ) (old between new stamps : List Stamp) (answer : Result (Unit {0}) E)
    → since reached between ≡ since oldest old → since oldest old ≡ stamps → OnErr answer (new ≡ between)
    → OnErr answer (since reached new ≡ stamps)
same_list oldest reached old between new stamps (Ok x) same is unchanged = unchanged
same_list oldest reached old between new stamps (Err e) same is unchanged = ap (λ (list : List Stamp). since reached list) unchanged ∙ (same ∙ is)

-- the test of a number of stamps
pub decided : (client : Option RealmAndName) (since_when : ℤ) (stamps : List Stamp) (count : ℕ) (answer : Bool) → AreOnce stamps
    → (answer ≡ true → count ≤ number_of client (since since_when stamps)) × (count ≤ number_of client (since since_when stamps) → answer ≡ true)
    → (answer ≡ true → HasAtLeast (Since (Contains stamps) client since_when) count)
    × (HasAtLeast (Since (Contains stamps) client since_when) count → answer ≡ true)
decided client since_when stamps count answer once decides =
    let both = at_least client since_when stamps count once in
    (λ yes. both.0 (decides.0 yes), λ has. decides.1 (both.1 has))

-- the set is as large as its list
pub set_size : (oldest : ℤ) (held : List Stamp) (size : ℕ) → IsOnce held → IsSizeOf (Contains (since oldest held)) size
    → length (since oldest held) ≡ size
set_size oldest held size once is =
    one_size (since oldest held) (length (since oldest held)) size
    (record {
      stamps = since oldest held;
      once = once_kept (λ one. not (is_before oldest one)) held (once_from_counts held once);
      members = λ stamp. (λ h. h, λ h. h);
      size_is = refl;
    }) is

-- ---- what takes room

pub all_held : (oldest : ℤ) (held : List Stamp) → length (since oldest held) + number_before None oldest held ≡ length held
all_held oldest held =
    let sides = two_sides None oldest held in
    let all = all_of_none held in
    let live = all_of_none (since oldest held) in
    omega arith

some_or_none : (back old new : ℕ) → new ≡ back - 16 → back ≤ old → FreesSome 16 old new
some_or_none back old zero is less = inl refl
some_or_none back old (suc new) is less = inr (omega arith)

-- nothing is left to free
none_unfreed : (oldest : ℤ) (held : List Stamp) → since oldest held ≡ held → number_before None oldest held ≡ 0
none_unfreed oldest held live =
    let all = all_held oldest held in
    let kept : length (since oldest held) ≡ length held = ap (λ (stamps : List Stamp). length stamps) live in
    omega arith

-- no more is held
pub fewer_left : (oldest : ℤ) (old new : List Stamp) → FreesAtMost 16 oldest old new → length new ≤ length old
fewer_left oldest old new either = elim either [
  | inl some ↦ omega arith
  | inr live ↦ live.1.0
]

-- so many fewer are left to free
pub frees_16 : (oldest : ℤ) (old new : List Stamp) → since oldest new ≡ since oldest old → FreesAtMost 16 oldest old new
    → number_before None oldest new ≡ number_before None oldest old - 16
frees_16 oldest old new same either =
    let before = all_held oldest old in
    let after = all_held oldest new in
    let kept : length (since oldest new) ≡ length (since oldest old) = ap (λ (stamps : List Stamp). length stamps) same in
    elim either [
      | inl some ↦ omega arith
      | inr live ↦ (let none = none_unfreed oldest new live.0 in let less = live.1.1 in omega arith)
    ]

-- what a new stamp frees: the set may reach back, some are freed, and the stamp is added
pub frees_some : (oldest reached : ℤ) (old back between new : List Stamp) → since reached back ≡ since oldest old → length back ≤ length old
    → since reached between ≡ since reached back → FreesAtMost 16 reached back between → number_before None reached new ≡ number_before None reached between
    → FreesSome 16 (number_before None oldest old) (number_before None reached new)
frees_some oldest reached old back between new same fewer still either is =
    let frees = frees_16 reached back between still either in
    let before = all_held oldest old in
    let after = all_held reached back in
    let kept : length (since reached back) ≡ length (since oldest old) = ap (λ (stamps : List Stamp). length stamps) same in
    some_or_none (number_before None reached back) (number_before None oldest old) (number_before None reached new) (omega arith) (omega arith)

-- and if the set reaches the stamp already
pub frees_16_for : (oldest : ℤ) (old between new : List Stamp) → since oldest between ≡ since oldest old
    → FreesAtMost 16 oldest old between → number_before None oldest new ≡ number_before None oldest between
    → number_before None oldest new ≡ number_before None oldest old - 16
frees_16_for oldest old between new still either is =
    let frees = frees_16 oldest old between still either in
    omega arith

-- and if it has to reach back
pub frees_all : (reached : ℤ) (back between new : List Stamp) → since reached back ≡ back → since reached between ≡ since reached back
    → FreesAtMost 16 reached back between → number_before None reached new ≡ number_before None reached between → number_before None reached new ≡ 0
frees_all reached back between new live still either is =
    let frees = frees_16 reached back between still either in
    let none = none_unfreed reached back live in
    omega arith

pub grows_by_one : (oldest reached : ℤ) (old back between new : List Stamp) → length back ≤ length old
    → FreesAtMost 16 reached back between → length new ≤ length between + 1
    → length (since reached new) + number_before None reached new ≤ length (since oldest old) + number_before None oldest old + 1
grows_by_one oldest reached old back between new fewer either one =
    let less = fewer_left reached back between either in
    let before = all_held oldest old in
    let after = all_held reached new in
    omega arith

-- what a moment frees
pub frees_dropped : (oldest later : ℤ) (old new : List Stamp) → since later new ≡ since later old → FreesAtMost 16 later old new
    → number_before None later new ≡ length (since oldest old) + number_before None oldest old - length (since later new) - 16
frees_dropped oldest later old new same either =
    let frees = frees_16 later old new same either in
    let kept : length (since later new) ≡ length (since later old) = ap (λ (stamps : List Stamp). length stamps) same in
    let before = all_held oldest old in
    let after = all_held later old in
    omega arith

pub shrinks : (oldest later : ℤ) (old new : List Stamp) → FreesAtMost 16 later old new
    → length (since later new) + number_before None later new ≤ length (since oldest old) + number_before None oldest old
shrinks oldest later old new either =
    let less = fewer_left later old new either in
    let before = all_held oldest old in
    let after = all_held later new in
    omega arith

-- ---- the moment before which stamps are dropped

pub is_later_of : (one other later : ℤ) → IsLater one other later → later ≡ later_of (Some one) other
is_later_of one other later is =
    let below = is.above_one in
    let also = is.above_other in
    elim is.either [
      | inl e ↦ grind (arith, ints)
      | inr e ↦ grind (arith, ints)
    ]

pub stays_early : (one other : ℤ) → one ≤ℤ other → one ≡ earlier_of one other
stays_early one other h = grind (arith, ints)

pub goes_early : (one other : ℤ) → other <ℤ one → other ≡ earlier_of one other
goes_early one other h = grind (arith, ints)
