-- A service that starts with its store accepts nothing of the time before.
use Rattle.std.proofs.Common.{ℕ, ℤ, pos, ◌+ℤ◌, ◌≤◌, sym, ap, subst, arith, Option}
use Rattle.std.specs.Prelude.{◌≢◌, ◌≤ℤ◌, ◌<ℤ◌, IfSome, List}
use Rattle.std.proofs.lemmas.Int.{ints}
use Rattle.krb_replay.specs.Stamp.{Stamp}
use Rattle.krb_ap.specs.History.{effective}
use Rattle.krb_ap.specs.Quiet.{IsPast}
use Rattle.krb_ap.specs.Setup.{Setup, Arrival}
use Rattle.krb_ap.specs.Sharing.{Asked, asked_stamp}
use Rattle.krb_ap.specs.Taken.{Accept, Taken, taken_stamp}
use Rattle.krb_login.specs.Remembering.{IsFromBefore, StartsWith}

-- the request's time isn't later than what the service decided by, by more than its skew
no_later_than : (setup : Setup) (history : List Arrival) (call : Arrival) (taken : Taken) → Accept setup history call taken
    → (taken_stamp taken).time ≤ℤ (effective history call.moment +ℤ pos setup.skew)
no_later_than setup history call taken a =
    subst (λ (s : Stamp). s.time ≤ℤ (effective history call.moment +ℤ pos setup.skew)) (sym (ap taken_stamp a.taken_is.told)) a.near.not_after

-- it is later than the start by more than the skew
past_the_start : (setup : Setup) (history : List Arrival) (call : Arrival) (taken : Taken) → Accept setup history call taken
    → IsPast setup (taken_stamp taken).time
past_the_start setup history call taken a =
    subst (λ (s : Stamp). IsPast setup s.time) (sym (ap taken_stamp a.taken_is.told)) a.settled.sent_is

apart : (from start time moment : ℤ) (own other largest : ℕ) → (from +ℤ pos largest) ≤ℤ (start +ℤ pos own) → (start +ℤ pos own) <ℤ time
    → time ≤ℤ (moment +ℤ pos other) → moment ≤ℤ from → other ≤ largest → ⊥
apart from start time moment own other largest covers past near before le = omega (arith, ints)

pub not_from_before : (from : ℤ) (largest : ℕ) (old : Asked) (setup : Setup) (history : List Arrival) (call : Arrival) (taken : Taken)
    → IsFromBefore from largest old → StartsWith from largest setup → Accept setup history call taken → taken_stamp taken ≢ asked_stamp old
not_from_before from largest old setup history call taken before starts accept same =
    apart from starts.start (taken_stamp taken).time (effective old.history old.call.moment) setup.skew old.setup.skew largest
    starts.covers
    (subst (λ (o : Option ℤ). IfSome o (λ start. (start +ℤ pos setup.skew) <ℤ (taken_stamp taken).time)) starts.start_is
    (past_the_start setup history call taken accept))
    (subst (λ (s : Stamp). s.time ≤ℤ (effective old.history old.call.moment +ℤ pos old.setup.skew)) (sym same)
    (no_later_than old.setup old.history old.call old.taken before.accepted))
    before.before before.skew_is
