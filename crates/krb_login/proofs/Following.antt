-- What follows from a decision.
use Rattle.std.proofs.Common.{◌≡◌, true, ℕ, ℤ, List, Vec, Option, Some, None, refl, sym, ap, ◌∙◌, subst}
use Rattle.std.specs.Prelude.{IfSome, IsSomeAnd}
use Rattle.std.specs.declared.alloc.Global.{Global}
use Rattle.krb_time.specs.Moments.{micros_of}
use Rattle.krb_gss.specs.declared.opening.Wrapping.TheVariants.{Bare, Negotiated}
use Rattle.krb_gss.specs.declared.verdict.Verdict.TheVariants.{Rejected}
use Rattle.krb_gss.specs.Answer.{reply, WritesVerdict}
use Rattle.krb_ap.specs.Answer.{taken_of}
use Rattle.krb_ap.specs.Finish.{Agreement, IsAgreed, repeated_at}
use Rattle.krb_ap.specs.Inner.Facts.{Facts}
use Rattle.krb_ap.specs.Reply.{IsReply}
use Rattle.krb_ap.specs.Request.{Awaited}
use Rattle.krb_ap.specs.Taken.{Taken}
use Rattle.krb_ap.specs.declared.accepted.Accepted.{Accepted}
use Rattle.krb_ap.specs.declared.refusal.Refusal.{Refusal}
use Rattle.krb_ap.specs.declared.reply.ReplyOptions.{ReplyOptions}
use Rattle.krb_ap.proofs.Sending.{reply_opens}
use Rattle.krb_login.specs.Asked.{Asks}
use Rattle.krb_login.specs.Carrying.{GoesBack, rejected}
use Rattle.krb_login.specs.Laws.{AnswersThat, AsksSo, Gives, IsOpen, IsRightlyIn, ShowsWhatIsOpen, at_moment, reject, by_error as open_error}
use Rattle.krb_login.specs.Login.{Call, Decides, HasCause, HoldsRequest, IsLetIn, IsRefusalOf, IsRefusedSo, by_error, by_reject, unread}
use Rattle.krb_login.specs.Store.{IsRefusedFor, IsWaiting, Settles, is_new, is_late, is_known, has_failed}
use Rattle.krb_login.specs.Waiting.{Waiting}
use Rattle.krb_login.specs.declared.asked.Asked.{Asked}
use Rattle.krb_login.specs.declared.carrier.Carrier.{Carrier}
use Rattle.krb_login.specs.declared.carrier.Carrier.TheVariants.{Alone, First, Later}
use Rattle.krb_login.specs.declared.cause.Cause.{Cause}
use Rattle.krb_login.specs.declared.cause.Cause.TheVariants.{Token, Request, Breached, OutOfMemory, StoreFailed}
use Rattle.krb_login.specs.declared.decision.Decision.{Decision}
use Rattle.krb_login.specs.declared.decision.Decision.TheVariants as decisions
use Rattle.krb_login.specs.declared.decision.LetIn.{LetIn}
use Rattle.krb_login.specs.declared.decision.Refused.{Refused}
use Rattle.krb_login.specs.declared.store.StoreSays.{StoreSays}

-- ---- who is let in
by_right : (call : Call) (login : LetIn) → IsLetIn call login → IsRightlyIn call login.accepted
by_right call login is =
    let a = is.accepted in
    record {
      carrier = is.carrier;
      request = is.request;
      holds = is.holds;
      is_accepted = a;
      meets = is.meets;
      message = a.request;
      part = a.part;
      opens = a.opened.authenticated.ticketed;
      client = ap (λ (t : Taken). t.client) a.taken_is.told;
      key = ap (λ (t : Taken). t.session_key) a.taken_is.told;
    }

pub given_by_right : (call : Call) (decision : Decision) (accepted : Accepted) → Decides call decision → Gives decision accepted → IsRightlyIn call accepted
given_by_right call (decisions.LetIn login) accepted is gives = subst (IsRightlyIn call) gives (by_right call login is)
given_by_right call (decisions.GoOn bytes) accepted is gives = absurd gives
given_by_right call (decisions.Refused refused) accepted is gives = absurd gives

-- ---- the reply
no_other : Facts → (taken : Taken) (confounder : List ℕ) (choice : ReplyOptions) (message : List ℕ) → IsReply taken confounder choice message
    → (awaited : Awaited) (agreement : Agreement) → awaited.key ≡ taken.session_key → IsAgreed awaited message agreement
    → awaited.at ≡ micros_of taken.ctime taken.cusec
no_other facts taken confounder choice message is awaited agreement key agreed =
    sym agreed.same ∙ ap repeated_at (reply_opens facts awaited.key taken confounder choice message agreed.opened.reply agreed.part (sym key) is agreed.opened.message agreed.opened.opens)

answered : Facts → (call : Call) (login : LetIn) (is : IsLetIn call login) (sent : Option (Vec ℕ Global)) → login.answer ≡ sent
    → IsSomeAnd sent (λ bytes. (message : List ℕ) × (IsReply (taken_of login.accepted) call.confounder call.choice message × GoesBack is.carrier (reply message) bytes.items))
    → AnswersThat call login
answered facts call login is None e h = absurd h
answered facts call login is (Some bytes) e h =
    record {
      carrier = is.carrier;
      request = is.request;
      message = h.0;
      sent = bytes;
      holds = is.holds;
      is_accepted = is.accepted;
      answer = e;
      back = h.1.1;
      no_other = no_other facts (taken_of login.accepted) call.confounder call.choice h.0 h.1.0;
    }

pub answers_that : Facts → (call : Call) (login : LetIn) → IsLetIn call login → login.accepted.mutual ≡ true → AnswersThat call login
answers_that facts call login is wants = answered facts call login is login.answer refl (is.answered.awaited wants)

-- ---- a refusal
asks_so : (call : Call) (carrier : Carrier) (request : List ℕ) → HoldsRequest call carrier request → (asked : Option Asked) → IfSome asked (Asks request) → IfSome asked (AsksSo call)
asks_so call carrier request holds None asks = tt
asks_so call carrier request holds (Some asked) asks = record { carrier = carrier; request = request; holds = holds; asks = asks }

is_reject : (carrier : Carrier) (bytes : List ℕ) → IsSomeAnd (rejected carrier) (λ verdict. WritesVerdict verdict bytes) → WritesVerdict Rejected bytes
is_reject Alone bytes h = absurd h
is_reject (First Bare mechanism) bytes h = absurd h
is_reject (First (Negotiated first) mechanism) bytes h = h
is_reject (Later mechanism) bytes h = h

module _ (call : Call) (carrier : Carrier) (request : List ℕ) (refusal : Refusal) (holds : HoldsRequest call carrier request) where
  open_refusal : (bytes : List ℕ) → IsRefusalOf call.now carrier request refusal bytes → IsOpen call bytes
  open_refusal bytes (by_error asked message asks wants is back) = open_error carrier request asked refusal message holds asks is back
  open_refusal bytes (by_reject asked asks silent is) = reject (is_reject carrier bytes is)
  open_refusal bytes (unread nothing is) = reject (is_reject carrier bytes is)

  open_answer : (sent : Option (Vec ℕ Global)) → IfSome sent (λ bytes. IsRefusalOf call.now carrier request refusal bytes.items) → IfSome sent (λ bytes. IsOpen call bytes.items)
  open_answer None is = tt
  open_answer (Some bytes) is = open_refusal bytes.items is

  of_request : (refused : Refused) → IsRefusedSo call.now carrier request refusal refused → ShowsWhatIsOpen call refused
  of_request refused so = record { asked = asks_so call carrier request holds refused.asked so.asked; answer = open_answer refused.answer so.answer }

open_reject : (call : Call) (N : Type 0) (sent : Option (Vec ℕ Global)) → IfSome sent (λ bytes. N × WritesVerdict Rejected bytes.items) → IfSome sent (λ bytes. IsOpen call bytes.items)
open_reject call N None is = tt
open_reject call N (Some bytes) is = reject is.1

nothing : {V : Type 0} (P : V → Type 0) (o : Option V) → o ≡ None → IfSome o P
nothing P o e = subst (λ x. IfSome x P) (sym e) tt

by_cause : (call : Call) (refused : Refused) (cause : Cause) → HasCause call refused cause → ShowsWhatIsOpen call refused
by_cause call refused (Token fault) h = record { asked = nothing _ refused.asked h.asked; answer = open_reject call _ refused.answer h.answer }
by_cause call refused (Request refusal) h = of_request call h.0 h.1.0 refusal h.1.1.0 refused h.1.1.1.1.1
by_cause call refused (Breached breach) h = of_request call h.0 h.1.0 _ h.1.1.1.0 refused h.1.1.1.1.1.1.0
by_cause call refused OutOfMemory h = record { asked = nothing _ refused.asked h.1.asked; answer = nothing _ refused.answer h.1.answer }
by_cause call refused StoreFailed h = absurd h

pub shows : (call : Call) (refused : Refused) → Decides call (decisions.Refused refused) → ShowsWhatIsOpen call refused
shows call refused is = by_cause call refused refused.cause is

-- ---- a refusal after a store has spoken
module _ (call : Call) (waiting : Waiting) (is : IsWaiting call waiting) (looked : ℤ) where
  for_cause : (cause : Cause) (refusal : Refusal) (refused : Refused) → IsRefusedFor waiting looked cause refusal refused → ShowsWhatIsOpen (at_moment call looked) refused
  for_cause cause refusal refused h =
      of_request (at_moment call looked) waiting.carrier is.request refusal
      (subst (λ (carrier : Carrier). HoldsRequest call carrier is.request) (sym is.held.carrier_is) is.holds)
      refused (h.so is.request is.held.asks)

  pub settled_shows : (said : StoreSays) (confounder : List ℕ) (choice : ReplyOptions) (refused : Refused)
      → Settles waiting said looked confounder choice (decisions.Refused refused) → ShowsWhatIsOpen (at_moment call looked) refused
  settled_shows said confounder choice refused (is_new e t s) =
      record { asked = nothing _ refused.asked s.1.0.asked; answer = nothing _ refused.answer s.1.0.answer }
  settled_shows said confounder choice refused (is_late e t r) = for_cause _ _ refused r
  settled_shows said confounder choice refused (is_known e r) = for_cause _ _ refused r
  settled_shows said confounder choice refused (has_failed e r) = for_cause _ _ refused r
