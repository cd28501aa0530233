-- Words of private contracts.
use Rattle.std.specs.Prelude.{◌≡◌, ℕ, List, Bool, true, false, Option, Some, None, Result, Ok, Err, Vec, IsSomeAnd}
use Rattle.std.specs.Option.{MatchOption}
use Rattle.std.specs.declared.alloc.Global.{Global}
use Rattle.krb_ap.specs.declared.accepted.Accepted.{Accepted}
use Rattle.krb_ap.specs.declared.reply.ReplyOptions.{ReplyOptions}
use Rattle.krb_context.specs.Context.{State}
use Rattle.krb_context.specs.declared.agreed.Options.{Options}
use Rattle.krb_gss.specs.declared.list_mic.Reply.{Reply}
use Rattle.krb_gss.specs.declared.mechanism.Mechanism.{Mechanism}
use Rattle.krb_gss.specs.declared.negotiating.Negotiation.{Negotiation}
use Rattle.krb_gss.specs.declared.negotiating.Negotiation.TheVariants.{Ended}
use Rattle.krb_gss.specs.ListMic.{WritesRequestMic}
use Rattle.krb_login.specs.declared.decision.Decision.{Decision as LoginDecision}
use Rattle.krb_login.specs.declared.decision.Decision.TheVariants as decisions
use Rattle.krb_talk.specs.Checking.{Check, Checks}
use Rattle.krb_talk.specs.States.{Listing}
use Rattle.krb_talk.specs.Talk.{IsUnshown, Leads, as_decided}
use Rattle.krb_talk.specs.Turns.{ConcludesAt}
use Rattle.krb_talk.specs.declared.checking.Checking.{Checking}
use Rattle.krb_talk.specs.declared.checking.Checking.TheVariants.{Shown, Waits}
use Rattle.krb_talk.specs.declared.checking.ListFault.{ListFault}
use Rattle.krb_talk.specs.declared.checking.ListFault.TheVariants.{OutOfMemory}
use Rattle.krb_talk.specs.declared.checking.Prepared.{Prepared}
use Rattle.krb_talk.specs.declared.decision.Decision.{Decision}
use Rattle.krb_talk.specs.declared.decision.Decision.TheVariants.{GoOn}
use Rattle.krb_talk.specs.declared.stage.Stage.{Stage}
use Rattle.krb_talk.specs.declared.stage.Stage.TheVariants.{Login, Listed}

-- a client that has sent a list is asked, or there is no memory for that
abbrev pub AsksFor : Listing → Decision → Stage → Type 0
AsksFor listing (GoOn sent) new = WritesRequestMic listing.mechanism sent.items × (new ≡ Listed listing)
AsksFor listing decision new = IsUnshown OutOfMemory decision × (new ≡ Login Ended)

-- what a service decides, as it is
pub record Passes (Serves : Negotiation → Negotiation → LoginDecision → Type 0) (negotiation : Negotiation) (decision : Decision) (new : Stage) : Type 0 where
  pub after : Negotiation
  pub decided : LoginDecision
  pub serves : Serves negotiation after decided
  pub decision_is : decision ≡ as_decided decided
  pub new_is : new ≡ Login after

-- the context has a number for its next token
pub record HasNext (context : State) : Type 0 where
  pub number : ℕ
  pub next : context.next ≡ Some number

-- what was made, if anything, in a token of this name of Kerberos
abbrev pub IsInToken : Mechanism → Option (Vec ℕ Global) → Option Reply → Type 0
IsInToken mechanism made reply =
    MatchOption made (reply ≡ None) (λ message. IsSomeAnd reply (λ it. (it.mechanism ≡ mechanism) × (it.message.now ≡ message.items)))

-- what a check leads to, by what was prepared for its client, and whether the client's MIC came
abbrev pub checking_by : List ℕ → Accepted → Prepared → Bool → Result Checking ListFault
checking_by list accepted made true = Ok (Shown (record { accepted = accepted; context = made.context; answer = Some made.sent }))
checking_by list accepted made false = Ok (Waits (record { accepted = accepted; list = list; context = made.context.value }) made.sent)

abbrev pub checking_of : List ℕ → Accepted → Result Prepared ListFault → Result Checking ListFault
checking_of list accepted (Ok made) = checking_by list accepted made made.is_shown
checking_of list accepted (Err fault) = Err fault

abbrev pub Prepares : Check → Result Prepared ListFault → Type 0
Prepares check made = Checks check (checking_of check.list check.accepted made)

-- what is prepared for a client that the service would let in
abbrev pub PreparesBy : Listing → List ℕ → List ℕ → ReplyOptions → Options → LoginDecision → Result Prepared ListFault → Type 0
PreparesBy listing bytes confounder choice options (decisions.LetIn login) made = Prepares (record {
  list = listing.list;
  bytes = bytes;
  accepted = login.accepted;
  confounder = confounder;
  choice = choice;
  options = options;
}) made
PreparesBy listing bytes confounder choice options decided made = Unit {0}

-- what follows of a service's decision on the message after a list, and of what was prepared if that lets the client in
abbrev pub LeadsBy : Listing → Result Prepared ListFault → LoginDecision → Decision → Stage → Type 0
LeadsBy listing made (decisions.LetIn login) decision new = Leads (checking_of listing.list login.accepted made) decision new
LeadsBy listing made decided decision new = (decision ≡ as_decided decided) × (new ≡ Login Ended)

-- what follows of a service's decision at a stage without a list, whatever the message is
abbrev pub ConcludesUnlisted : Stage → Negotiation → LoginDecision → Decision → Stage → Type 0
ConcludesUnlisted old after decided decision new =
    ((listing : Listing) → old ≡ Listed listing → ⊥) → (bytes confounder : List ℕ) (choice : ReplyOptions) (options : Options)
    → ConcludesAt old bytes confounder choice options after decided decision new
