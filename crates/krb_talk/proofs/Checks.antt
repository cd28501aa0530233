-- What a check leads to.
use Rattle.std.proofs.Common.{◌≡◌, ℕ, List, Bool, Option, Some, None, Result, Ok, Bor, ap, refl, subst, sym, ◌∙◌}
use Rattle.std.specs.Option.{MatchOption}
use Rattle.std.specs.Prelude.{IfSome, is_some}
use Rattle.krb_ap.specs.Answer.{taken_of}
use Rattle.krb_ap.specs.declared.reply.ReplyOptions.{ReplyOptions}
use Rattle.krb_context.specs.Context.{State}
use Rattle.krb_context.specs.declared.agreed.Options.{Options}
use Rattle.krb_gss.specs.Checksum.{bytes_if}
use Rattle.krb_gss.specs.declared.mechanism.Mechanism.{Mechanism}
use Rattle.krb_gss.specs.declared.negotiating.Negotiation.{Negotiation}
use Rattle.krb_login.specs.declared.decision.Decision.{Decision as LoginDecision}
use Rattle.krb_login.specs.declared.decision.Decision.TheVariants as decisions
use Rattle.krb_talk.specs.Beginning.{IsContextFor, IsNoContextFor}
use Rattle.krb_talk.specs.Checking.{Check, Checks, IsCheckFault, MayRunOut, may_ask, may_show}
use Rattle.krb_talk.specs.Inner.{ConcludesUnlisted, HasNext, LeadsBy, Prepares, PreparesBy, checking_by, checking_of}
use Rattle.krb_talk.specs.ListMic.{HoldsBoth, MarksIn, RepliesIf}
use Rattle.krb_talk.specs.States.{Listing}
use Rattle.krb_talk.specs.Talk.{ConcludesBy}
use Rattle.krb_talk.specs.Turns.{ConcludesAt}
use Rattle.krb_talk.specs.declared.checking.ListFault.{ListFault}
use Rattle.krb_talk.specs.declared.checking.ListFault.TheVariants.{Token, OtherKey, Missing, Wrong, OutOfMemory}
use Rattle.krb_talk.specs.declared.checking.Prepared.{Prepared}
use Rattle.krb_talk.specs.declared.decision.Decision.{Decision}
use Rattle.krb_talk.specs.declared.stage.Stage.{Stage}
use Rattle.krb_talk.specs.declared.stage.Stage.TheVariants.{Listed}

pub is_there : (mic : Option (Bor (List ℕ))) → is_some mic ≡ is_some (bytes_if mic)
is_there None = refl
is_there (Some mic) = refl

module _ (check : Check) (mechanism : Mechanism) where
  abbrev pub AnswersWith : Bool → State → State → List ℕ → Type 0
  AnswersWith is_completed = MarksIn check.list is_completed (RepliesIf check.accepted.mutual (taken_of check.accepted) mechanism check.confounder check.choice)

  abbrev pub IsBegunAs : Option (List ℕ) → State → Type 0
  IsBegunAs = IsContextFor check.accepted check.choice check.options check.list

  -- a context has a number for its next token
  pub next_of : (mic : Option (List ℕ)) (state : State) → IsBegunAs mic state → HasNext state
  next_of (Some mic) state it = record { number = _; next = ap (λ (s : State). s.next) it.shows.takes.rest ∙ it.begun_for.begun.next_is }
  next_of None state it = record { number = _; next = it.begun_for.begun.next_is }

  -- why there is no context
  pub not_begun : (mic : Option (List ℕ)) → HoldsBoth mechanism mic check.bytes → (fault : ListFault)
      → IsNoContextFor check.accepted check.choice check.options check.list mic fault → IsCheckFault check fault
  not_begun (Some mic) holds (Token fault) it = absurd it
  not_begun (Some mic) holds OtherKey it = (mechanism, Some mic, holds, it)
  not_begun (Some mic) holds Missing it = absurd it
  not_begun (Some mic) holds (Wrong fault) it = (mechanism, mic, it.0, holds, it.1, it.2)
  not_begun (Some mic) holds OutOfMemory it = may_show mechanism mic it.1.begun it.0 holds it.1.begun_for it.1.shows
  not_begun None holds (Token fault) it = absurd it
  not_begun None holds OtherKey it = (mechanism, None, holds, it)
  not_begun None holds Missing it = (mechanism, it.0, holds, it.1, it.2)
  not_begun None holds (Wrong fault) it = absurd it
  not_begun None holds OutOfMemory it = may_ask mechanism it.0 holds it.1.begun_for it.1.wants_reply

  -- there is one, but no memory for what goes back
  pub without_room : (mic : Option (List ℕ)) → HoldsBoth mechanism mic check.bytes → (state : State) → IsBegunAs mic state → MayRunOut check
  without_room (Some mic) holds state it = may_show mechanism mic it.begun state holds it.begun_for it.shows
  without_room None holds state it = may_ask mechanism state holds it.begun_for it.wants_reply

  -- and what goes back is made
  pub prepared : (mic : Option (List ℕ)) → HoldsBoth mechanism mic check.bytes → (state : State) → IsBegunAs mic state → (made : Prepared)
      → made.is_shown ≡ is_some mic → AnswersWith (is_some mic) state made.context.value made.sent.items → Prepares check (Ok made)
  prepared (Some mic) holds state it made shown answer =
      subst (λ (b : Bool). Checks check (checking_by check.list check.accepted made b)) (sym shown) (record {
        mechanism = mechanism;
        mic = mic;
        begun = it.begun;
        holds = holds;
        begun_for = it.begun_for;
        let_in = record { taken = state; shows = it.shows; answer = answer; accepted_is = refl };
      })
  prepared None holds state it made shown answer =
      subst (λ (b : Bool). Checks check (checking_by check.list check.accepted made b)) (sym shown) (record {
        mechanism = mechanism;
        begun = state;
        holds = holds;
        begun_for = it.begun_for;
        asked_for = record { wants_reply = it.wants_reply; answer = answer; accepted_is = refl; list_is = refl };
      })

-- what follows of a service's decision, by what was prepared
pub concluded_by : (listing : Listing) (bytes confounder : List ℕ) (choice : ReplyOptions) (options : Options) (decided : LoginDecision)
    (made : Result Prepared ListFault) (decision : Decision) (new : Stage) → PreparesBy listing bytes confounder choice options decided made
    → LeadsBy listing made decided decision new → ConcludesBy listing bytes confounder choice options decided decision new
concluded_by listing bytes confounder choice options (decisions.LetIn login) made decision new prepares leads =
    (checking_of listing.list login.accepted made, prepares, leads)
concluded_by listing bytes confounder choice options (decisions.GoOn sent) made decision new prepares leads = leads
concluded_by listing bytes confounder choice options (decisions.Refused refused) made decision new prepares leads = leads

-- and at any stage, if its list was taken off
pub concluded_at : (listed : Option Listing) (old taken : Stage) (bytes confounder : List ℕ) (choice : ReplyOptions) (options : Options) (after : Negotiation)
    (decided : LoginDecision) (made : Result Prepared ListFault) (decision : Decision) (new : Stage)
    → MatchOption listed ((taken ≡ old) × ((listing : Listing) → old ≡ Listed listing → ⊥)) (λ listing. old ≡ Listed listing)
    → IfSome listed (λ listing. PreparesBy listing bytes confounder choice options decided made)
    → IfSome listed (λ listing. LeadsBy listing made decided decision new)
    → (listed ≡ None → ConcludesUnlisted taken after decided decision new)
    → ConcludesAt old bytes confounder choice options after decided decision new
concluded_at None old taken bytes confounder choice options after decided made decision new takes prepares leads other =
    let none : (listing : Listing) → taken ≡ Listed listing → ⊥ = λ listing is. takes.1 listing (sym takes.0 ∙ is) in
    subst (λ (stage : Stage). ConcludesAt stage bytes confounder choice options after decided decision new) takes.0 (other refl none bytes confounder choice options)
concluded_at (Some listing) old taken bytes confounder choice options after decided made decision new takes prepares leads other =
    subst (λ (stage : Stage). ConcludesAt stage bytes confounder choice options after decided decision new) (sym takes)
    (concluded_by listing bytes confounder choice options decided made decision new prepares leads)
