-- A client whose request is accepted and whose list of mechanisms is to be checked (RFC 4178, section 5): it is let in only if it has sent the
-- MIC of the very list that the service saw, under the key of their context.
use Rattle.std.specs.Prelude.{◌≡◌, ℕ, List, Option, true, false, Some, None, Result, Ok, Err, IsSomeAnd}
use Rattle.krb_ap.specs.Answer.{taken_of}
use Rattle.krb_ap.specs.declared.reply.ReplyOptions.{ReplyOptions}
use Rattle.krb_context.specs.Context.{State, IsMicRefusal}
use Rattle.krb_gss.specs.ListMic.{HoldsMic, IsMicFault}
use Rattle.krb_gss.specs.declared.list_mic.Reply.{Reply}
use Rattle.krb_gss.specs.declared.mechanism.Mechanism.{Mechanism}
use Rattle.krb_talk.specs.ListMic.{MarksIn, RepliesIf, Shows}
use Rattle.krb_talk.specs.States.{Pending}
use Rattle.krb_talk.specs.declared.checking.Admitted.{Admitted}
use Rattle.krb_talk.specs.declared.checking.ListFault.{ListFault}
use Rattle.krb_talk.specs.declared.checking.ListFault.TheVariants.{Token, Missing, Wrong}

abbrev pub RepliesTo : Pending → Mechanism → List ℕ → ReplyOptions → Option Reply → Type 0
RepliesTo pending mechanism confounder choice = RepliesIf pending.accepted.mutual (taken_of pending.accepted) mechanism confounder choice

-- It is let in by a MIC that came with its token. What goes back has the service's own: accept-completed.
pub record IsLetInNow (pending : Pending) (mechanism : Mechanism) (mic confounder : List ℕ) (choice : ReplyOptions) (login : Admitted) : Type 0 where
  pub taken : State
  pub shows : Shows pending.list mic pending.context taken
  pub answer : IsSomeAnd login.answer (λ sent. MarksIn pending.list true (RepliesTo pending mechanism confounder choice) taken login.context.value sent.items)
  pub accepted_is : login.accepted ≡ pending.accepted

-- It awaits a reply, which it may need for its MIC. It is asked for it, with the service's own: accept-incomplete.
pub record IsAskedFor (pending : Pending) (mechanism : Mechanism) (confounder : List ℕ) (choice : ReplyOptions) (after : Pending) (sent : List ℕ)
    : Type 0 where
  pub wants_reply : pending.accepted.mutual ≡ true
  pub answer : MarksIn pending.list false (RepliesTo pending mechanism confounder choice) pending.context after.context sent
  pub accepted_is : after.accepted ≡ pending.accepted
  pub list_is : after.list ≡ pending.list

-- ---- the last message
-- It has the client's MIC, and that is right. Nothing goes back, since the service has sent its own.
pub record IsFinished (pending : Pending) (bytes : List ℕ) (login : Admitted) : Type 0 where
  pub mic : List ℕ
  pub holds : HoldsMic (Some mic) bytes
  pub shows : Shows pending.list mic pending.context login.context.value
  pub accepted_is : login.accepted ≡ pending.accepted
  pub answer_is : login.answer ≡ None

abbrev pub IsLastFault : Pending → List ℕ → ListFault → Type 0
IsLastFault pending bytes (Token fault) = IsMicFault bytes fault
IsLastFault pending bytes Missing = HoldsMic None bytes
IsLastFault pending bytes (Wrong fault) =
    (mic : List ℕ) × HoldsMic (Some mic) bytes × IsMicRefusal pending.context pending.list mic fault
IsLastFault pending bytes _ = ⊥

abbrev pub Finishes : Pending → List ℕ → Result Admitted ListFault → Type 0
Finishes pending bytes (Ok login) = IsFinished pending bytes login
Finishes pending bytes (Err fault) = IsLastFault pending bytes fault
