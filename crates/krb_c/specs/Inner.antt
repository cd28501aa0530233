-- What private contracts say.
use Rattle.std.specs.Prelude.{◌≡◌, ℕ, ℤ, Bool, true, false, List, Option, Some, None, IsSomeAnd, Vec}
use Rattle.std.specs.declared.alloc.Global.{Global}
use Rattle.krb_login.specs.declared.store.StoreSays.{StoreSays}
use Rattle.krb_ap.specs.declared.reply.ReplyOptions.{ReplyOptions}
use Rattle.krb_c.specs.Answer.{plain}
use Rattle.krb_c.specs.Codes.{not_waiting, out_of_memory}
use Rattle.krb_c.specs.Login.{IsDrawn, IsKept, IsNotDrawn, IsTaken, Judges, TellsProgress, talk_of}
use Rattle.krb_c.specs.Store.{IsSettled, Waits}
use Rattle.krb_talk.specs.Talks.{Talk}
use Rattle.krb_talk.specs.declared.decision.Decision.{Decision}
use Rattle.krb_talk.specs.declared.talk.Turn.TheVariants as turns
use Rattle.krb_c.specs.declared.accepted_state.AcceptedState.{AcceptedState}
use Rattle.krb_c.specs.declared.login_state.Awaited.{Awaited}
use Rattle.krb_c.specs.declared.login_state.LoginState.{LoginState}
use Rattle.krb_c.specs.declared.login_state.Progress.TheVariants.{Waiting}
use Rattle.krb_c.specs.declared.question.Question.{Question}
use Rattle.krb_c.specs.declared.service_state.ServiceState.{ServiceState}
use Rattle.krb_c.specs.declared.structs.Answer.{Answer}

-- a copy of the bytes is there for a service that shares a store, and for no other
abbrev pub IsCopyIf : Bool → List ℕ → Option (Vec ℕ Global) → Type 0
IsCopyIf false bytes copy = copy ≡ None
IsCopyIf true bytes copy = IsSomeAnd copy (λ it. it.items ≡ bytes)

-- a message is decided on without the service
pub record IsSettledAlone (bytes : List ℕ) (before : Talk) (after : LoginState) (kept : AcceptedState) : Type 0 where
  pub decision : Decision
  pub taken : IsTaken bytes before (turns.Decided decision) after.talk
  pub is_kept : IsKept false decision after kept

-- what a login waits with, but for how far it is
abbrev pub awaited_of : Question → Awaited
awaited_of question = record {
  asking = question.asking;
  drawn = record { confounder = question.confounder; choice = question.choice };
  message = question.message;
  negotiation = question.negotiation;
}

-- a service decides at a moment, or memory or random bytes are lacking
pub data AnswersMoment (state next : ServiceState) (before after : Option LoginState) (had kept : Option AcceptedState) (bytes : List ℕ) (now : ℤ)
    (random was is : List ℕ) (answer : Answer) : Type 0 where
  undrawn : IsNotDrawn state.subkey_type random answer → next ≡ state → after ≡ before → kept ≡ had → is ≡ was
      → AnswersMoment state next before after had kept bytes now random was is answer
  no_room : (confounder : List ℕ) (choice : ReplyOptions) → IsDrawn state.subkey_type random confounder choice → answer ≡ plain out_of_memory
      → next ≡ state → after ≡ before → kept ≡ had → is ≡ was
      → AnswersMoment state next before after had kept bytes now random was is answer
  decided_on : (login : LoginState) (held : AcceptedState) (confounder : List ℕ) (choice : ReplyOptions)
      → after ≡ Some login → kept ≡ Some held → IsDrawn state.subkey_type random confounder choice
      → Judges state.is_shared state next (talk_of before) login held bytes now confounder choice → TellsProgress login.progress was is answer
      → AnswersMoment state next before after had kept bytes now random was is answer

-- a login is settled at a moment, or it doesn't wait, or memory is lacking
pub data SettlesAt (state next : LoginState) (had kept : Option AcceptedState) (said : StoreSays) (now : ℤ) (was is : List ℕ) (answer : Answer) : Type 0 where
  idle : ¬ Waits state.progress → answer ≡ plain not_waiting → next ≡ state → kept ≡ had → is ≡ was → SettlesAt state next had kept said now was is answer
  no_room : Waits state.progress → answer ≡ plain out_of_memory → next ≡ state → kept ≡ had → is ≡ was
      → SettlesAt state next had kept said now was is answer
  settled_at : (question : Question) (held : AcceptedState) → state.progress ≡ Waiting question → kept ≡ Some held
      → IsSettled question said now next held → TellsProgress next.progress was is answer → SettlesAt state next had kept said now was is answer
