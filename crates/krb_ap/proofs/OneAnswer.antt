-- A call has one answer: accepted with what is then known, or one cause.
use Rattle.std.proofs.Common.{◌≡◌, ◌≢◌, ◌<◌, List, ap, sym, subst, ◌∙◌, inl, inr, ◌⊎◌, arith, Ok, Err, Result}
use Rattle.std.specs.Prelude.{MatchResult, IsErrAnd}
use Rattle.krb_ap.specs.Setup.{Setup, Arrival}
use Rattle.krb_ap.specs.Taken.{Taken, taken_from, Accept, IsMutual, IsTakenFrom}
use Rattle.krb_ap.specs.Causes.{Holds, place, Cause}
use Rattle.krb_ap.specs.Answer.{Answers, taken_of}
use Rattle.krb_ap.specs.Inner.Facts.{Facts}
use Rattle.krb_ap.proofs.OneOpening.{of_same, one_authenticated, SameOpening}
use Rattle.krb_ap.proofs.Decided.{one_first}
use Rattle.krb_ap.proofs.OfOpened.{accepted_is_clear}
use Rattle.krb_ap.proofs.Afterwards.{memory_or_not}
use Rattle.krb_ap.proofs.Truth.{same_truth}
use Rattle.krb_ap.specs.declared.accepted.Accepted.{Accepted}
use Rattle.krb_ap.specs.declared.refusal.Refusal.{Refusal}
use Rattle.krb_ap.specs.declared.refusal.Refusal.TheVariants.{OutOfMemory}

module _ (facts : Facts) (setup : Setup) (history : List Arrival) (call : Arrival) where
  -- what is accepted has no cause
  below : (r : Refusal) → r ≢ OutOfMemory → place r < place OutOfMemory
  below r named = grind arith

  pub not_both : (taken : Taken) (r : Refusal) → Accept setup history call taken → Cause setup history call r → ⊥
  not_both taken r a cause = elim (memory_or_not r) [
    | inl memory ↦ subst (λ (x : Refusal). Holds setup history call x) memory cause.holds
    | inr named ↦ accepted_is_clear facts setup history call taken a r (below r named) cause.holds
  ]

  -- what is known of it is one
  pub one_taken : (one other : Taken) → Accept setup history call one → Accept setup history call other → other ≡ one
  one_taken one other a b =
      let same : SameOpening a.request b.request a.part b.part a.auth b.auth =
      one_authenticated facts setup call.bytes a.request b.request a.part b.part a.auth b.auth a.opened.authenticated b.opened.authenticated in
      let known : IsTakenFrom a.request a.part a.auth other =
      of_same a.request b.request a.part b.part a.auth b.auth (λ r p x. IsTakenFrom r p x other) same b.taken_is in
      known.told
      ∙ (ap (taken_from a.request a.part a.auth) (same_truth other.wants_reply one.wants_reply (IsMutual a.request) known.wants_reply a.taken_is.wants_reply)
      ∙ sym a.taken_is.told)

  -- and its cause has one place
  pub one_place : (r s : Refusal) → Cause setup history call r → Cause setup history call s → place r ≡ place s
  one_place r s one other = one_first place (Holds setup history call) r s one.holds one.first other.holds other.first

  pub taken_by : (answer : Result Accepted Refusal) (taken : Taken) → Answers setup history call answer → Accept setup history call taken
      → MatchResult answer (λ x. taken_of x ≡ taken) (λ r. r ≡ OutOfMemory)
  taken_by (Ok x) taken answers a = one_taken taken (taken_of x) a answers
  taken_by (Err r) taken answers a = elim (memory_or_not r) [
    | inl memory ↦ memory
    | inr named ↦ absurd (not_both taken r a (answers named))
  ]

  pub refused_for : (answer : Result Accepted Refusal) (r : Refusal) → Answers setup history call answer → Cause setup history call r
      → IsErrAnd answer (λ s. (place s ≡ place r) ⊎ (s ≡ OutOfMemory))
  refused_for (Ok x) r answers cause = not_both (taken_of x) r answers cause
  refused_for (Err s) r answers cause = elim (memory_or_not s) [
    | inl memory ↦ inr memory
    | inr named ↦ inl (one_place s r (answers named) cause)
  ]
