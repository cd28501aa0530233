-- The check of a client's list of mechanisms, after its request is accepted (RFC 4178, section 5).
use Rattle.std.specs.Prelude.{◌≡◌, ◌⊎◌, ℕ, List, true, false, Option, Some, None, Result, Ok, Err}
use Rattle.krb_ap.specs.declared.accepted.Accepted.{Accepted}
use Rattle.krb_ap.specs.declared.reply.ReplyOptions.{ReplyOptions}
use Rattle.krb_context.specs.Context.{State, IsMicRefusal}
use Rattle.krb_context.specs.declared.agreed.Options.{Options}
use Rattle.krb_gss.specs.Later.{IsLaterFault}
use Rattle.krb_gss.specs.ListMic.{IsMicFault}
use Rattle.krb_gss.specs.declared.mechanism.Mechanism.{Mechanism}
use Rattle.krb_talk.specs.Agreeing.{IsContextOf, HasOtherKey}
use Rattle.krb_talk.specs.ListMic.{HoldsBoth, Shows}
use Rattle.krb_talk.specs.Pending.{IsAskedFor, IsLetInNow}
use Rattle.krb_talk.specs.States.{Pending}
use Rattle.krb_talk.specs.declared.checking.Admitted.{Admitted}
use Rattle.krb_talk.specs.declared.checking.Checking.{Checking}
use Rattle.krb_talk.specs.declared.checking.Checking.TheVariants.{Shown, Waits}
use Rattle.krb_talk.specs.declared.checking.ListFault.{ListFault}
use Rattle.krb_talk.specs.declared.checking.ListFault.TheVariants.{Token, OtherKey, Missing, Wrong, OutOfMemory}
use Rattle.krb_talk.specs.declared.listed.Chosen.{Chosen}

-- The list that the client sent, its next message, what is known of its request in that message, what the service chose for a reply, and
-- how its context takes tokens.
pub record Check : Type 0 where
  pub list : List ℕ
  pub bytes : List ℕ
  pub accepted : Accepted
  pub confounder : List ℕ
  pub choice : ReplyOptions
  pub options : Options

-- of a list, a message and a request, by what the service chose
abbrev pub check_of : List ℕ → List ℕ → Accepted → Chosen → Check
check_of list bytes accepted chosen = record {
  list = list;
  bytes = bytes;
  accepted = accepted;
  confounder = chosen.confounder.now;
  choice = chosen.choice.now;
  options = chosen.options;
}

-- the service's side of the context, which has sent and taken nothing
abbrev pub IsBegunFor : Check → State → Type 0
IsBegunFor check = IsContextOf check.accepted check.choice check.options

abbrev pub pending_of : Check → State → Pending
pending_of check begun = record { accepted = check.accepted; list = check.list; context = begun }

-- the client's MIC came with its token, and is right
pub record IsShown (check : Check) (login : Admitted) : Type 0 where
  pub mechanism : Mechanism
  pub mic : List ℕ
  pub begun : State
  pub holds : HoldsBoth mechanism (Some mic) check.bytes
  pub begun_for : IsBegunFor check begun
  pub let_in : IsLetInNow (pending_of check begun) mechanism mic check.confounder check.choice login

-- it didn't, and the client awaits a reply
pub record IsAwaited (check : Check) (pending : Pending) (sent : List ℕ) : Type 0 where
  pub mechanism : Mechanism
  pub begun : State
  pub holds : HoldsBoth mechanism None check.bytes
  pub begun_for : IsBegunFor check begun
  pub asked_for : IsAskedFor (pending_of check begun) mechanism check.confounder check.choice pending sent

-- Memory runs out only for the answer to a client that is let in or asked: its MIC came with its token, and is right; or it didn't, and the
-- client awaits a reply.
pub data MayRunOut (check : Check) : Type 0 where
  may_show : (mechanism : Mechanism) (mic : List ℕ) (begun taken : State) → HoldsBoth mechanism (Some mic) check.bytes → IsBegunFor check begun
      → Shows check.list mic begun taken → MayRunOut check
  may_ask : (mechanism : Mechanism) (begun : State) → HoldsBoth mechanism None check.bytes → IsBegunFor check begun → check.accepted.mutual ≡ true
      → MayRunOut check

-- why the client isn't let in: the first that applies
abbrev pub IsCheckFault : Check → ListFault → Type 0
IsCheckFault check (Token fault) = IsLaterFault check.bytes fault ⊎ IsMicFault check.bytes fault
IsCheckFault check OtherKey =
    (mechanism : Mechanism) × (mic : Option (List ℕ)) × HoldsBoth mechanism mic check.bytes × HasOtherKey check.accepted.subkey
IsCheckFault check Missing =
    (mechanism : Mechanism) × (begun : State) × HoldsBoth mechanism None check.bytes × IsBegunFor check begun × (check.accepted.mutual ≡ false)
IsCheckFault check (Wrong fault) =
    (mechanism : Mechanism) × (mic : List ℕ) × (begun : State) × HoldsBoth mechanism (Some mic) check.bytes × IsBegunFor check begun
    × IsMicRefusal begun check.list mic fault
IsCheckFault check OutOfMemory = MayRunOut check

abbrev pub Checks : Check → Result Checking ListFault → Type 0
Checks check (Ok (Shown login)) = IsShown check login
Checks check (Ok (Waits pending sent)) = IsAwaited check pending sent.items
Checks check (Err fault) = IsCheckFault check fault
