-- What holds of each login by a negotiation that names Kerberos later.
use Rattle.std.specs.Prelude.{◌≡◌, ℕ, List, Option, Some}
use Rattle.krb_ap.specs.declared.accepted.Accepted.{Accepted}
use Rattle.krb_ap.specs.declared.reply.ReplyOptions.{ReplyOptions}
use Rattle.krb_context.specs.Context.{HasSentFirst, State, sender_in}
use Rattle.krb_context.specs.Mic.{IsMic}
use Rattle.krb_context.specs.declared.role.Role.TheVariants.{Acceptor, Initiator}
use Rattle.krb_enc.specs.Key.{KeyValue}
use Rattle.krb_gss.specs.ListMic.{HoldsMic}
use Rattle.krb_gss.specs.declared.negotiating.Negotiation.{Negotiation}
use Rattle.krb_gss.specs.declared.negotiating.Negotiation.TheVariants.{Asked}
use Rattle.krb_login.specs.declared.decision.Decision.{Decision as LoginDecision}
use Rattle.krb_login.specs.declared.decision.Decision.TheVariants as decisions
use Rattle.krb_login.specs.declared.decision.LetIn.{LetIn}
use Rattle.krb_talk.specs.Agreeing.{IsSubkey, agreed_by}
use Rattle.krb_talk.specs.States.{Listing}
use Rattle.krb_talk.specs.Talk.{IsListed}
use Rattle.krb_talk.specs.declared.checking.Admitted.{Admitted}
use Rattle.krb_talk.specs.declared.decision.Decision.{Decision}
use Rattle.krb_talk.specs.declared.decision.Decision.TheVariants.{LetIn as ByDecision, Shown, GoOn}

-- The bytes are the client's MIC of the list, under the key that the accepted request and its reply agree on.
pub record IsClientsMic (accepted : Accepted) (choice : ReplyOptions) (list mic : List ℕ) : Type 0 where
  pub subkey : Option KeyValue
  pub subkey_is : IsSubkey accepted.subkey subkey
  pub number : ℕ
  pub is_mic : IsMic (sender_in (agreed_by accepted choice subkey) Initiator) number list mic

-- The client was let in over the list of its first message: that message has the list, the service would have let the client in by the message
-- that followed, and the mechListMIC of the message `last` is the client's MIC of this very list.
pub record IsLetInOver (first last : List ℕ) (Serves : Negotiation → Negotiation → LoginDecision → Type 0) (choice : ReplyOptions) (login : Admitted) : Type 0 where
  pub listing : Listing
  pub listed : IsListed listing first
  pub after : Negotiation
  pub decided : LetIn
  pub serves : Serves (Asked listing.mechanism) after (decisions.LetIn decided)
  pub accepted_is : login.accepted ≡ decided.accepted
  pub mic : List ℕ
  pub sent : HoldsMic (Some mic) last
  pub shown : IsClientsMic login.accepted choice listing.list mic

-- The service's side of the context that an accepted request and its reply agree on: each side has sent its first message, the MIC of the
-- client's list, and taken that of the other side.
pub record HasSentMics (accepted : Accepted) (choice : ReplyOptions) (context : State) : Type 0 where
  pub subkey : Option KeyValue
  pub subkey_is : IsSubkey accepted.subkey subkey
  pub sent : HasSentFirst (agreed_by accepted choice subkey) Acceptor context

-- the client is asked for its next message
abbrev pub IsGoOn : Decision → Type 0
IsGoOn (GoOn sent) = Unit {0}
IsGoOn _ = ⊥

-- the client is let in
abbrev pub IsIn : Decision → Type 0
IsIn (ByDecision login) = Unit {0}
IsIn (Shown login) = Unit {0}
IsIn _ = ⊥
