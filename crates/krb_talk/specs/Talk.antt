-- A client's login, one message after another: with a negotiation that names Kerberos first, or without one, as a service decides; and with
-- one that names Kerberos later, by the check of its list (RFC 4178, sections 3.2 and 5).
use Rattle.std.specs.Prelude.{◌≡◌, ℕ, List, Some, None, Result, Ok, Err, IfSome, Vec}
use Rattle.std.specs.declared.alloc.Global.{Global}
use Rattle.krb_ap.specs.Setup.{Setup, Arrival}
use Rattle.krb_ap.specs.declared.reply.ReplyOptions.{ReplyOptions}
use Rattle.krb_login.specs.Login.{Decides, GoesTo, call_of}
use Rattle.krb_login.specs.declared.terms.Terms.{Terms}
use Rattle.krb_context.specs.declared.agreed.Options.{Options}
use Rattle.krb_gss.specs.Answer.{WritesVerdict}
use Rattle.krb_gss.specs.Listing.{IsListing}
use Rattle.krb_gss.specs.ListMic.{WritesRequestMic}
use Rattle.krb_gss.specs.declared.negotiating.Negotiation.{Negotiation}
use Rattle.krb_gss.specs.declared.negotiating.Negotiation.TheVariants.{Begun, Asked, Ended}
use Rattle.krb_gss.specs.declared.verdict.Verdict.TheVariants.{Rejected}
use Rattle.krb_login.specs.declared.decision.Decision.{Decision as LoginDecision}
use Rattle.krb_login.specs.declared.decision.Decision.TheVariants as decisions
use Rattle.krb_login.specs.declared.decision.Unsent.TheVariants as unsent
use Rattle.krb_login.specs.declared.service.Given.{Given}
use Rattle.krb_talk.specs.Checking.{Checks}
use Rattle.krb_talk.specs.Pending.{Finishes}
use Rattle.krb_talk.specs.States.{Listing, Pending}
use Rattle.krb_talk.specs.declared.checking.Admitted.{Admitted}
use Rattle.krb_talk.specs.declared.checking.Checking.{Checking}
use Rattle.krb_talk.specs.declared.checking.Checking.TheVariants as checked
use Rattle.krb_talk.specs.declared.checking.ListFault.{ListFault}
use Rattle.krb_talk.specs.declared.checking.ListFault.TheVariants.{OutOfMemory}
use Rattle.krb_talk.specs.declared.decision.Decision.{Decision}
use Rattle.krb_talk.specs.declared.decision.Decision.TheVariants.{LetIn, Shown, GoOn, Refused, Unshown}
use Rattle.krb_talk.specs.declared.decision.Unshown.{Unshown as UnshownValue}
use Rattle.krb_talk.specs.declared.stage.Stage.{Stage}
use Rattle.krb_talk.specs.declared.stage.Stage.TheVariants.{Login, Listed, Waiting}

-- a service's decision, as it is
abbrev pub as_decided : LoginDecision → Decision
as_decided (decisions.LetIn login) = LetIn login
as_decided (decisions.GoOn bytes) = GoOn bytes
as_decided (decisions.Refused refused) = Refused refused

-- A reject goes back for a fault, unless memory runs out. In this case, and only then, `unsent` says so.
pub record IsUnshownFor (fault : ListFault) (unshown : UnshownValue) : Type 0 where
  pub fault_is : unshown.fault ≡ fault
  pub answer : IfSome unshown.answer (λ sent. WritesVerdict Rejected sent.items)
  pub due : unshown.answer ≡ None → unshown.unsent ≡ Some unsent.OutOfMemory
  pub unsent : IfSome unshown.unsent (λ why. (why ≡ unsent.OutOfMemory) × (unshown.answer ≡ None))

-- The client isn't let in, for a fault of its list.
abbrev pub IsUnshown : ListFault → Decision → Type 0
IsUnshown fault (Unshown unshown) = IsUnshownFor fault unshown
IsUnshown fault _ = ⊥

-- ---- after a check
abbrev pub Leads : Result Checking ListFault → Decision → Stage → Type 0
Leads (Ok (checked.Shown login)) decision new = (decision ≡ Shown login) × (new ≡ Login Ended)
Leads (Ok (checked.Waits pending sent)) decision new = (decision ≡ GoOn sent) × (new ≡ Waiting pending)
Leads (Err fault) decision new = IsUnshown fault decision × (new ≡ Login Ended)

abbrev pub Ends : Result Admitted ListFault → Decision → Type 0
Ends (Ok login) decision = decision ≡ Shown login
Ends (Err fault) decision = IsUnshown fault decision

-- A service has decided on the message that follows a list. Whom it would let in is checked; all else is as it decides, and ends the login.
abbrev pub ConcludesBy : Listing → List ℕ → List ℕ → ReplyOptions → Options → LoginDecision → Decision → Stage → Type 0
ConcludesBy listing bytes confounder choice options (decisions.LetIn login) decision new =
    (made : Result Checking ListFault)
    × Checks (record {
      list = listing.list;
      bytes = bytes;
      accepted = login.accepted;
      confounder = confounder;
      choice = choice;
      options = options;
    }) made
    × Leads made decision new
ConcludesBy listing bytes confounder choice options decided decision new = (decision ≡ as_decided decided) × (new ≡ Login Ended)

abbrev pub Concludes : Listing → Options → Given → LoginDecision → Decision → Stage → Type 0
Concludes listing options given decided decision new =
    ConcludesBy listing given.bytes.now given.confounder.now given.choice options decided decision new

-- ---- one message
abbrev pub IsListed : Listing → List ℕ → Type 0
IsListed listing bytes = IsListing listing.mechanism listing.list bytes

-- What a service did, from a negotiation to the one after, and decided; and that it did nothing.
pub data Talks (Serves : Negotiation → Negotiation → LoginDecision → Type 0) (Rests : Type 0) (options : Options) (given : Given)
    (old : Stage) (decision : Decision) (new : Stage) : Type 0 where
  -- a list that names Kerberos later: the client is asked for its token and its MIC
  lists : (listing : Listing) (sent : Vec ℕ Global) → old ≡ Login Begun → IsListed listing given.bytes.now → Rests
      → decision ≡ GoOn sent → WritesRequestMic listing.mechanism sent.items → new ≡ Listed listing → Talks Serves Rests options given old decision new
  -- there was no memory for that
  fails : (listing : Listing) → old ≡ Login Begun → IsListed listing given.bytes.now → Rests → IsUnshown OutOfMemory decision → new ≡ Login Ended
      → Talks Serves Rests options given old decision new
  -- any other message of a client that has sent no list
  passes : (negotiation after : Negotiation) (decided : LoginDecision) → old ≡ Login negotiation
      → (negotiation ≡ Begun → (listing : Listing) → IsListed listing given.bytes.now → ⊥)
      → Serves negotiation after decided → decision ≡ as_decided decided → new ≡ Login after → Talks Serves Rests options given old decision new
  -- the message that follows a list
  checks : (listing : Listing) (after : Negotiation) (decided : LoginDecision) → old ≡ Listed listing → Serves (Asked listing.mechanism) after decided
      → Concludes listing options given decided decision new → Talks Serves Rests options given old decision new
  -- the last message, with the client's MIC
  finishes : (pending : Pending) (made : Result Admitted ListFault) → old ≡ Waiting pending → Rests → Finishes pending given.bytes.now made
      → Ends made decision → new ≡ Login Ended → Talks Serves Rests options given old decision new

-- ---- by one history
-- a message, and what a service decides by
pub record Point : Type 0 where
  pub terms : Terms
  pub setup : Setup
  pub history : List Arrival
  pub given : Given

-- what a service decides then, from a negotiation to the one after
abbrev pub DecidesAt : Point → Negotiation → Negotiation → LoginDecision → Type 0
DecidesAt at negotiation after decided =
    Decides (call_of at.terms at.setup at.history negotiation at.given) decided × GoesTo at.given.bytes.now decided after

abbrev pub TalksAt : Point → Options → Stage → Decision → Stage → Type 0
TalksAt at options old decision new = Talks (DecidesAt at) (Unit {0}) options at.given old decision new

-- how many messages a login takes at most from here on
abbrev pub messages_left : Stage → ℕ
messages_left (Login Begun) = 3
messages_left (Login (Asked first)) = 1
messages_left (Login Ended) = 0
messages_left (Listed listing) = 2
messages_left (Waiting pending) = 1
