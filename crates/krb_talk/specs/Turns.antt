-- A message of a login in two steps: what it is for, and what follows of what a service decided on it.
use Rattle.std.specs.Prelude.{◌≡◌, ℕ, List, Result, Vec}
use Rattle.std.specs.declared.alloc.Global.{Global}
use Rattle.krb_ap.specs.declared.reply.ReplyOptions.{ReplyOptions}
use Rattle.krb_context.specs.declared.agreed.Options.{Options}
use Rattle.krb_gss.specs.ListMic.{WritesRequestMic}
use Rattle.krb_gss.specs.declared.fault.TokenFault.TheVariants as fault
use Rattle.krb_gss.specs.declared.negotiating.Negotiation.{Negotiation}
use Rattle.krb_gss.specs.declared.negotiating.Negotiation.TheVariants.{Begun, Asked, Ended}
use Rattle.krb_login.specs.declared.decision.Decision.{Decision as LoginDecision}
use Rattle.krb_login.specs.declared.decision.Decision.TheVariants as decisions
use Rattle.krb_talk.specs.Pending.{Finishes}
use Rattle.krb_talk.specs.States.{Listing, Pending}
use Rattle.krb_talk.specs.Talk.{ConcludesBy, Ends, IsListed, IsUnshown, as_decided}
use Rattle.krb_talk.specs.declared.checking.Admitted.{Admitted}
use Rattle.krb_talk.specs.declared.checking.ListFault.{ListFault}
use Rattle.krb_talk.specs.declared.checking.ListFault.TheVariants.{Token, Missing, OutOfMemory}
use Rattle.krb_talk.specs.declared.decision.Decision.{Decision}
use Rattle.krb_talk.specs.declared.decision.Decision.TheVariants.{GoOn, Refused}
use Rattle.krb_talk.specs.declared.stage.Stage.{Stage}
use Rattle.krb_talk.specs.declared.stage.Stage.TheVariants.{Login, Listed, Waiting}
use Rattle.krb_talk.specs.declared.talk.Turn.{Turn}
use Rattle.krb_talk.specs.declared.talk.Turn.TheVariants.{Decided, Serve}

-- Each message is one of those that `Talks` lists. One that a service is to decide on changes nothing yet.
pub data Takes (bytes : List ℕ) (old : Stage) (turn : Turn) (new : Stage) : Type 0 where
  takes_list : (listing : Listing) (sent : Vec ℕ Global) → old ≡ Login Begun → IsListed listing bytes → turn ≡ Decided (GoOn sent)
      → WritesRequestMic listing.mechanism sent.items → new ≡ Listed listing → Takes bytes old turn new
  takes_none : (listing : Listing) (decision : Decision) → old ≡ Login Begun → IsListed listing bytes → turn ≡ Decided decision
      → IsUnshown OutOfMemory decision → new ≡ Login Ended → Takes bytes old turn new
  is_passed : (negotiation : Negotiation) → old ≡ Login negotiation → (negotiation ≡ Begun → (listing : Listing) → IsListed listing bytes → ⊥)
      → turn ≡ Serve negotiation → new ≡ Login negotiation → Takes bytes old turn new
  is_checked : (listing : Listing) → old ≡ Listed listing → turn ≡ Serve (Asked listing.mechanism) → new ≡ Listed listing → Takes bytes old turn new
  takes_last : (pending : Pending) (made : Result Admitted ListFault) (decision : Decision) → old ≡ Waiting pending → Finishes pending bytes made
      → turn ≡ Decided decision → Ends made decision → new ≡ Login Ended → Takes bytes old turn new

-- After the end of a login a service can only refuse a message. Whatever else it decides, nobody is let in or asked.
abbrev pub ConcludesEnded : LoginDecision → Decision → Type 0
ConcludesEnded (decisions.LetIn login) decision = IsUnshown (Token fault.Ended) decision
ConcludesEnded (decisions.GoOn bytes) decision = IsUnshown (Token fault.Ended) decision
ConcludesEnded (decisions.Refused refused) decision = decision ≡ Refused refused

-- what follows for a client that has sent no list; a login that is over stays so
abbrev pub ConcludesLogin : Negotiation → Negotiation → LoginDecision → Decision → Stage → Type 0
ConcludesLogin Begun after decided decision new = (decision ≡ as_decided decided) × (new ≡ Login after)
ConcludesLogin (Asked first) after decided decision new = (decision ≡ as_decided decided) × (new ≡ Login after)
ConcludesLogin Ended after decided decision new = ConcludesEnded decided decision × (new ≡ Login Ended)

-- what follows of a service's decision, and its negotiation after that
abbrev pub ConcludesAt : Stage → List ℕ → List ℕ → ReplyOptions → Options → Negotiation → LoginDecision → Decision → Stage → Type 0
ConcludesAt (Login negotiation) bytes confounder choice options after decided decision new = ConcludesLogin negotiation after decided decision new
ConcludesAt (Listed listing) bytes confounder choice options after decided decision new =
    ConcludesBy listing bytes confounder choice options decided decision new
ConcludesAt (Waiting pending) bytes confounder choice options after decided decision new = IsUnshown Missing decision × (new ≡ Login Ended)
