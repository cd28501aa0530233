-- What is accepted is remembered by what is said of it.
use Rattle.std.proofs.Common.{◌≡◌, ℕ, ℤ, pos, ◌+ℤ◌, List, ◌∷◌, Option, ap, refl, subst, sym, inl, arith}
use Rattle.std.specs.Prelude.{◌≤ℤ◌, ◌-ℤ◌, Result, Ok, Err, IfOk, IfSome}
use Rattle.std.proofs.lemmas.Int.{ints}
use Rattle.krb_time.specs.Moments.{micros_of}
use Rattle.krb_replay.specs.Stamp.{Stamp}
use Rattle.krb_ap.specs.Setup.{Arrival, Setup, decided_now}
use Rattle.krb_ap.specs.Opened.{stamp_at, stamp_of}
use Rattle.krb_ap.specs.History.{StandsFor, effective}
use Rattle.krb_ap.specs.Answer.{Answers, after, taken_of}
use Rattle.krb_ap.specs.Taken.{Taken, Accept}
use Rattle.krb_ap.specs.declared.accepted.Accepted.{Accepted}
use Rattle.krb_ap.specs.declared.refusal.Refusal.{Refusal}
use Rattle.krb_c.specs.Service.{accepted_by, stamp_told}

recent : (now sent : ℤ) (skew : ℕ) → now ≤ℤ (sent +ℤ pos skew) → (now -ℤ pos skew) ≤ℤ sent
recent now sent skew g = omega (arith, ints)

is_kept : (setup next : Setup) (Has : Stamp → Type 0) (latest : Option ℤ) (history : List Arrival) (call : Arrival) (accepted : Accepted)
    → Accept setup history call (taken_of accepted) → next ≡ setup → StandsFor next Has latest (decided_now call ∷ history) → Has (stamp_told accepted)
is_kept setup next Has latest history call accepted a stays later =
    let is : stamp_told accepted ≡ stamp_of a.request a.part a.auth =
    ap (λ (t : Taken). stamp_at t.service t.client (micros_of t.ctime t.cusec)) a.taken_is.told in
    let stands = subst (λ (s : Setup). StandsFor s Has latest (decided_now call ∷ history)) stays later in
    subst Has (sym is) (stands.all (stamp_of a.request a.part a.auth)
    (inl (record { request = a.request; part = a.part; auth = a.auth; opened = a.opened; near = a.near; stamp_is = refl }))
    (recent (effective history call.moment) (stamp_of a.request a.part a.auth).time setup.skew a.near.not_before))

-- whatever the outcome is
pub is_remembered : (setup next : Setup) (Has : Stamp → Type 0) (latest : Option ℤ) (history : List Arrival) (call : Arrival) (outcome : Result Accepted Refusal)
    → Answers setup history call outcome → next ≡ setup → StandsFor next Has latest (after history call outcome)
    → IfSome (accepted_by outcome) (λ accepted. Has (stamp_told accepted))
is_remembered setup next Has latest history call (Ok accepted) answers stays later = is_kept setup next Has latest history call accepted answers stays later
is_remembered setup next Has latest history call (Err refusal) answers stays later = tt

pub of_accepted : (P : Accepted → Type 0) (outcome : Result Accepted Refusal) → IfOk outcome P → IfSome (accepted_by outcome) P
of_accepted P (Ok accepted) holds = holds
of_accepted P (Err refusal) holds = tt
