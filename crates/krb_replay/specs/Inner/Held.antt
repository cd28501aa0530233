-- What a timed memory holds: its tuples in the order of their times, the times of each client's, and
-- how many of them each pair of names has, if other names are kept of the client. Tuples that are too
-- old are dropped at once, and freed later.
use Rattle.std.specs.Prelude.{◌≡◌, ◌⊎◌, ◌&&◌, ◌+◌, ◌≤◌, ◌≤ℤ◌, ℕ, ℤ, Bool, true, not, int_lt, Option, Some, None, List, length}
use Rattle.std.specs.List.{filter}
use Rattle.std.specs.BTreeMap.{BTreeMap, is_at}
use Rattle.std.specs.declared.cmp.Ordering.{Ordering}
use Rattle.std.specs.Ordering.{eq_by_cmp, is_eq}
use Rattle.krb_replay.specs.Stamp.{RealmAndName, Stamp}
use Rattle.krb_replay.specs.Inner.Counts.{HasNoZero, count_by}
use Rattle.krb_replay.specs.Inner.Times.{HasNoEmpty, all_by, kept_by, number_by}
use Rattle.krb_replay.specs.Inner.Order.{TwoNames, client_cmp, name_cmp, names_of, pair_cmp, stamp_cmp}

abbrev pub is_before : ℤ → Stamp → Bool
is_before oldest stamp = int_lt stamp.time oldest

-- the time isn't before a moment
abbrev pub is_recent : ℤ → ℤ → Bool
is_recent oldest time = not (int_lt time oldest)

-- the stamps whose time isn't before a moment
abbrev pub since : ℤ → List Stamp → List Stamp
since oldest stamps = filter (λ stamp. not (is_before oldest stamp)) stamps

-- whether the stamp is of the client, or of any if none is named
abbrev pub is_of : Option RealmAndName → Stamp → Bool
is_of None stamp = true
is_of (Some client) stamp = is_eq (name_cmp stamp.client client)

-- how many stamps are of the client
abbrev pub number_of : Option RealmAndName → List Stamp → ℕ
number_of client stamps = length (filter (is_of client) stamps)

-- how many of them are before a moment
abbrev pub number_before : Option RealmAndName → ℤ → List Stamp → ℕ
number_before client oldest stamps = number_of client (filter (is_before oldest) stamps)

-- so many fewer are held, or nothing is left to free and fewer are gone
abbrev pub FreesAtMost : ℕ → ℤ → List Stamp → List Stamp → Type 0
FreesAtMost some oldest old new = (length new + some ≡ length old)
    ⊎ ((since oldest new ≡ new) × ((length new ≤ length old) × (length old ≤ length new + some)))

-- no stamp is there twice
abbrev pub IsOnce : List Stamp → Type 0
IsOnce stamps = (stamp : Stamp) → length (filter (λ one. eq_by_cmp stamp_cmp one stamp) stamps) ≤ 1

-- The times of each key's stamps are kept, each as often as a stamp has it. No key is kept that no
-- stamp has.
pub record AreTimed (cmp : TwoNames → TwoNames → Ordering) (stamps : List Stamp) (times : BTreeMap TwoNames (List ℤ)) : Type 0 where
  pub each : (names : TwoNames) (passes : ℤ → Bool) → number_by cmp times names passes ≡ length (filter (λ stamp. passes stamp.time && is_at (cmp (names_of stamp)) names) stamps)
  pub no_empty : HasNoEmpty cmp times

-- no client has more times
abbrev pub IsMost : BTreeMap TwoNames (List ℤ) → ℕ → Type 0
IsMost times most = (client : TwoNames) → all_by client_cmp times client ≤ most

-- whether the names aren't those that are kept of a client
abbrev pub differs : TwoNames → TwoNames → Bool
differs kept names = not (is_at (pair_cmp kept) names)

-- whether other names than these are kept of their client
abbrev pub is_other : BTreeMap TwoNames (List ℤ) → TwoNames → Bool
is_other times names = differs (kept_by client_cmp times names) names

-- the stamps whose client other names are kept of
abbrev pub others : BTreeMap TwoNames (List ℤ) → List Stamp → List Stamp
others times stamps = filter (λ stamp. is_other times (names_of stamp)) stamps

-- The stamps of each key are counted. No key is kept that no stamp has.
pub record AreCounted (cmp : TwoNames → TwoNames → Ordering) (stamps : List Stamp) (counts : BTreeMap TwoNames ℕ) : Type 0 where
  pub each : (names : TwoNames) → count_by cmp counts names ≡ length (filter (λ stamp. is_at (cmp (names_of stamp)) names) stamps)
  pub no_zero : HasNoZero cmp counts

-- the later of two moments
pub record IsLater (one other later : ℤ) : Type 0 where
  pub above_one : one ≤ℤ later
  pub above_other : other ≤ℤ later
  pub either : (later ≡ one) ⊎ (later ≡ other)
