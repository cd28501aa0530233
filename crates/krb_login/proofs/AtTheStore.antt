-- What follows from what a store says that several services share.
use Rattle.std.proofs.Common.{◌≡◌, ◌≤ℤ◌, ◌+ℤ◌, ℕ, ℤ, pos, Bool, List, ◌∷◌, length, Some, refl, sym, ap, ◌∙◌, subst, arith}
use Rattle.std.proofs.lemmas.Int.{ints}
use Rattle.std.specs.Prelude.{IsTrue}
use Rattle.krb_replay.specs.Memory.{later_of}
use Rattle.krb_replay.specs.Stamp.{Stamp}
use Rattle.krb_ap.specs.Answer.{taken_of}
use Rattle.krb_ap.specs.Once.{HasStamp}
use Rattle.krb_ap.specs.Setup.{Setup, Arrival, arrival}
use Rattle.krb_ap.specs.Sharing.{Asked as Question, ClocksAgree, InTime, LetsIn, LetsInAmong, LetsInOnce, MayHappen, Outcome, SaysNew, Share, StoreEvent, asked_stamp, asks, forgets}
use Rattle.krb_ap.specs.Taken.{Accept, Taken, taken_stamp}
use Rattle.krb_ap.specs.World.{IsOf}
use Rattle.krb_ap.specs.declared.accepted.Accepted.{Accepted}
use Rattle.krb_ap.specs.declared.reply.ReplyOptions.{ReplyOptions}
use Rattle.krb_login.specs.Login.{Call, Decides, HoldsRequest, IsAnswered}
use Rattle.krb_login.specs.Happening.{Happens, IsKnownOf, KeepsPromise, LetsInLast, came, never_came, question_of}
use Rattle.krb_login.specs.Store.{IsInTime, IsWaiting, Settles, is_new, is_late, is_known, has_failed}
use Rattle.krb_login.specs.Terms.{Meets}
use Rattle.krb_login.specs.Waiting.{Waiting}
use Rattle.krb_login.specs.declared.carrier.Carrier.{Carrier}
use Rattle.krb_login.specs.declared.decision.Decision.TheVariants as decisions
use Rattle.krb_login.specs.declared.decision.LetIn.{LetIn}
use Rattle.krb_login.specs.declared.store.StoreSays.{StoreSays}
use Rattle.krb_login.specs.declared.store.StoreSays.TheVariants.{New, Failed}

-- who is let in, is by a new stamp, in time
record IsSettledIn (waiting : Waiting) (said : StoreSays) (looked : ℤ) (confounder : List ℕ) (choice : ReplyOptions) (login : LetIn) : Type 0 where
  said_is : said ≡ New
  in_time : IsInTime waiting looked
  same : login.accepted ≡ waiting.accepted
  answered : IsAnswered waiting.carrier (taken_of waiting.accepted) confounder choice login.answer

settled_in : (waiting : Waiting) (said : StoreSays) (looked : ℤ) (confounder : List ℕ) (choice : ReplyOptions) (login : LetIn)
    → Settles waiting said looked confounder choice (decisions.LetIn login) → IsSettledIn waiting said looked confounder choice login
settled_in waiting said looked confounder choice login (is_new e t s) = record { said_is = e; in_time = t; same = s.0; answered = s.1 }
settled_in waiting said looked confounder choice login (is_late e t r) = absurd r
settled_in waiting said looked confounder choice login (is_known e r) = absurd r
settled_in waiting said looked confounder choice login (has_failed e r) = absurd r

pub right_in : (call : Call) (waiting : Waiting) (said : StoreSays) (looked : ℤ) (login : LetIn) → IsWaiting call waiting
    → Settles waiting said looked call.confounder call.choice (decisions.LetIn login) → Decides call (decisions.LetIn login)
right_in call waiting said looked login is settles =
    let h = settled_in waiting said looked call.confounder call.choice login settles in
    let same = h.same ∙ is.held.accepted_is in
    record {
      carrier = waiting.carrier;
      request = is.request;
      holds = subst (λ (carrier : Carrier). HoldsRequest call carrier is.request) (sym is.held.carrier_is) is.holds;
      accepted = subst (λ (it : Accepted). Accept call.setup call.history (arrival is.request call.now) (taken_of it)) (sym same) is.accepted;
      meets = subst (λ (it : Accepted). Meets call.terms (taken_of it)) (sym same) is.meets;
      answered = subst (λ (it : Accepted). IsAnswered waiting.carrier (taken_of it) call.confounder call.choice login.answer) (sym h.same) h.answered;
    }

in_time_so : (call : Call) (waiting : Waiting) (is : IsWaiting call waiting) (looked : ℤ) → IsInTime waiting looked → InTime (question_of call waiting is) looked
in_time_so call waiting is looked in_time =
    subst (λ (skew : ℕ). looked ≤ℤ ((taken_stamp (taken_of is.known)).time +ℤ pos skew)) is.held.skew_is
    (subst (λ (stamp : Stamp). looked ≤ℤ (stamp.time +ℤ pos waiting.skew)) is.held.stamp_is in_time)

-- a store that says new hasn't failed
apart : (said : StoreSays) → said ≡ New → said ≡ Failed → ⊥
apart said one other = cc

-- ---- the event is that a request of this stamp is let in (krb_ap's law: what is accepted has its stamp)
module _ (its_stamp : (setup : Setup) (history : List Arrival) (call : Arrival) (taken : Taken)
    → Accept setup history call taken → HasStamp setup call.bytes (taken_stamp taken)) where
  pub lets_in : (call : Call) (waiting : Waiting) (said : StoreSays) (looked : ℤ) (confounder : List ℕ) (choice : ReplyOptions) (login : LetIn)
      (is : IsWaiting call waiting) (outcome : Outcome) → Settles waiting said looked confounder choice (decisions.LetIn login)
      → IsKnownOf (question_of call waiting is) said looked outcome → LetsIn (asks (question_of call waiting is) outcome) waiting.stamp
  lets_in call waiting said looked confounder choice login is outcome settles known =
      let h = settled_in waiting said looked confounder choice login settles in
      let new = subst (λ (it : StoreSays). IsKnownOf (question_of call waiting is) it looked outcome) h.said_is known in (
        (
          subst (λ (it : Outcome). IsTrue it.is_new) (sym new) refl,
          subst (λ (it : Outcome). InTime (question_of call waiting is) it.looked) (sym new) (in_time_so call waiting is looked h.in_time),
        ),
        subst (λ (stamp : Stamp). HasStamp call.setup is.request stamp) (sym is.held.stamp_is)
            (its_stamp call.setup call.history (arrival is.request call.now) (taken_of is.known) is.accepted),
      )

  pub lets_in_last : (before after : List StoreEvent) (call : Call) (waiting : Waiting) (said : StoreSays) (looked : ℤ) (confounder : List ℕ)
      (choice : ReplyOptions) (login : LetIn) (is : IsWaiting call waiting) → Settles waiting said looked confounder choice (decisions.LetIn login)
      → Happens (question_of call waiting is) said looked before after → LetsInLast before after waiting.stamp
  lets_in_last before after call waiting said looked confounder choice login is settles (came outcome known e) =
      (asks (question_of call waiting is) outcome, (e, lets_in call waiting said looked confounder choice login is outcome settles known))
  lets_in_last before after call waiting said looked confounder choice login is settles (never_came failed e) =
      absurd (apart said (settled_in waiting said looked confounder choice login settles).said_is failed)

-- ---- a store that failed lets nobody in
same_event : (one other : StoreEvent) (before after : List StoreEvent) → after ≡ one ∷ before → after ≡ other ∷ before → one ≡ other
same_event one other before after e f = cc

no_event : (event : StoreEvent) (before after : List StoreEvent) → after ≡ before → after ≡ event ∷ before → ⊥
no_event event before after e f = omega (arith, ap (λ (it : List StoreEvent). length it) e, ap (λ (it : List StoreEvent). length it) f)

pub nobody_in : (before after : List StoreEvent) (call : Call) (waiting : Waiting) (looked : ℤ) (stamp : Stamp) (is : IsWaiting call waiting)
    → Happens (question_of call waiting is) Failed looked before after → LetsInLast before after stamp → ⊥
nobody_in before after call waiting looked stamp is (came outcome known e) last =
    let same = subst (λ (it : StoreEvent). LetsIn it stamp) (same_event last.0 (asks (question_of call waiting is) outcome) before after last.1.0 e) last.1.1 in
    known same.0.0 same.0.1
nobody_in before after call waiting looked stamp is (never_came failed e) last = no_event last.0 before after e last.1.0

-- ---- it may happen after what happened before
may_happen : (skew : ℕ) (store : List Stamp) (before after : List StoreEvent) (call : Call) (waiting : Waiting) (is : IsWaiting call waiting) (outcome : Outcome)
    → KeepsPromise skew store (question_of call waiting is) before after → after ≡ asks (question_of call waiting is) outcome ∷ before
    → MayHappen skew store before (asks (question_of call waiting is) outcome)
may_happen skew store before after call waiting is outcome keeps e =
    record { accepted = is.accepted; answer = keeps.answer outcome e; clocks = keeps.clocks outcome e }

pub shares_on : (skew : ℕ) (store : List Stamp) (before after : List StoreEvent) (call : Call) (waiting : Waiting) (said : StoreSays) (looked : ℤ)
    (is : IsWaiting call waiting) → Happens (question_of call waiting is) said looked before after
    → KeepsPromise skew store (question_of call waiting is) before after → Share skew store before → Share skew store after
shares_on skew store before after call waiting said looked is (came outcome known e) keeps share =
    subst (Share skew store) (sym e) (may_happen skew store before after call waiting is outcome keeps e, share)
shares_on skew store before after call waiting said looked is (never_came failed e) keeps share = subst (Share skew store) (sym e) share

-- ---- and no request of the stamp was let in before (krb_ap's law: a store lets in once)
module _ (its_stamp : (setup : Setup) (history : List Arrival) (call : Arrival) (taken : Taken)
    → Accept setup history call taken → HasStamp setup call.bytes (taken_stamp taken))
    (only_once : (skew : ℕ) (store : List Stamp) (events : List StoreEvent) → Share skew store events → LetsInOnce events) where
  pub once : (skew : ℕ) (store : List Stamp) (before after : List StoreEvent) (call : Call) (waiting : Waiting) (said : StoreSays) (looked : ℤ)
      (confounder : List ℕ) (choice : ReplyOptions) (login : LetIn) (is : IsWaiting call waiting)
      → Settles waiting said looked confounder choice (decisions.LetIn login) → Happens (question_of call waiting is) said looked before after
      → KeepsPromise skew store (question_of call waiting is) before after → Share skew store before → LetsInAmong before waiting.stamp → ⊥
  once skew store before after call waiting said looked confounder choice login is settles (came outcome known e) keeps share =
      (only_once skew store (asks (question_of call waiting is) outcome ∷ before) (may_happen skew store before after call waiting is outcome keeps e, share)).0
      waiting.stamp (lets_in its_stamp call waiting said looked confounder choice login is outcome settles known)
  once skew store before after call waiting said looked confounder choice login is settles (never_came failed e) keeps share =
      absurd (apart said (settled_in waiting said looked confounder choice login settles).said_is failed)

-- ---- what a store did that failed, if its answer came too late
abbrev too_late : Question → ℤ → ℤ
too_late question looked = later_of (Some looked) (((asked_stamp question).time +ℤ pos question.setup.skew) +ℤ pos 1)

is_later : (latest moment : ℤ) → (latest ≤ℤ later_of (Some latest) moment) × (moment ≤ℤ later_of (Some latest) moment)
is_later latest moment = (grind (arith, ints), grind (arith, ints))

past : (last late : ℤ) → (last +ℤ pos 1) ≤ℤ late → late ≤ℤ last → ⊥
past last late h g = omega (arith, ints)

still : (at looked late : ℤ) (skew : ℕ) → looked ≤ℤ late → at ≤ℤ (looked +ℤ pos skew) → at ≤ℤ (late +ℤ pos skew)
still at looked late skew h g = omega (arith, ints)

pub lost : (skew : ℕ) (store : List Stamp) (before : List StoreEvent) (call : Call) (waiting : Waiting) (says_new : Bool) (looked : ℤ) (is : IsWaiting call waiting)
    → SaysNew store before (asked_stamp (question_of call waiting is)) says_new
    → ((at : ℤ) → IsOf before (forgets (asked_stamp (question_of call waiting is)) at) → ClocksAgree skew (question_of call waiting is) looked at)
    → (outcome : Outcome) × ((outcome.is_new ≡ says_new)
    × (IsKnownOf (question_of call waiting is) Failed looked outcome × MayHappen skew store before (asks (question_of call waiting is) outcome)))
lost skew store before call waiting says_new looked is says clocks =
    let question = question_of call waiting is in
    let last = (asked_stamp question).time +ℤ pos question.setup.skew in
    let late = too_late question looked in
    let later = is_later looked (last +ℤ pos 1) in (
      record { is_new = says_new; looked = late },
      (
        refl,
        (
          (λ new in_time. past last late later.1 in_time),
          record {
            accepted = is.accepted;
            answer = says;
            clocks = λ at of. let agree = clocks at of in record { skew_is = agree.skew_is; clock_is = still at looked late skew later.0 agree.clock_is };
          },
        ),
      ),
    )
