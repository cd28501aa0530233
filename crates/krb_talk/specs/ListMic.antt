-- The MICs of a list of mechanisms, and the messages that they stand in (RFC 4178, sections 4.2.2 and 5).
use Rattle.std.specs.Prelude.{◌≡◌, ◌<◌, ◌^◌, ℕ, List, Bool, true, false, Option, Some, None, IsSomeAnd, Vec}
use Rattle.std.specs.declared.alloc.Global.{Global}
use Rattle.krb_ap.specs.Taken.{Taken}
use Rattle.krb_ap.specs.Reply.{IsReply}
use Rattle.krb_ap.specs.declared.reply.ReplyOptions.{ReplyOptions}
use Rattle.krb_context.specs.Context.{State, Takes, number_after}
use Rattle.krb_context.specs.Mic.{IsMic, mic_token}
use Rattle.krb_context.specs.Side.{peer_sender}
use Rattle.krb_context.specs.declared.order.Order.{Order}
use Rattle.krb_gss.specs.ListMic.{HoldsMic, WritesChecked}
use Rattle.krb_gss.specs.Later.{IsLaterToken}
use Rattle.krb_gss.specs.declared.list_mic.Checked.{Checked}
use Rattle.krb_gss.specs.declared.list_mic.Reply.{Reply}
use Rattle.krb_gss.specs.declared.mechanism.Mechanism.{Mechanism}

-- a client's later message: its token has this name of Kerberos, and this is its mechListMIC, if it has one
pub record HoldsBoth (mechanism : Mechanism) (mic : Option (List ℕ)) (bytes : List ℕ) : Type 0 where
  pub request : List ℕ
  pub token : IsLaterToken mechanism request bytes
  pub holds : HoldsMic mic bytes

-- The client's MIC is that of the list, under the context's key, and the service takes it as a message of the context.
pub record Shows (list mic : List ℕ) (old new : State) : Type 0 where
  pub number : ℕ
  pub order : Order
  pub is_mic : IsMic (peer_sender old.sender) number list mic
  pub takes : Takes old number order new

-- the service's own MIC of the list, with its next number
pub record Marks (list : List ℕ) (old : State) (mic : List ℕ) (new : State) : Type 0 where
  pub number : ℕ
  pub next : old.next ≡ Some number
  pub fits : number < 2 ^ 64
  pub mic_is : mic ≡ mic_token old.sender number list
  pub new_is : new ≡ record old { next = number_after number }

-- a message AP-REP, if the client awaits one
abbrev pub MakesReply : Bool → Taken → List ℕ → ReplyOptions → Option (Vec ℕ Global) → Type 0
MakesReply true taken confounder choice made = IsSomeAnd made (λ message. IsReply taken confounder choice message.items)
MakesReply false taken confounder choice made = made ≡ None

-- it goes back in a token of this name of Kerberos
abbrev pub RepliesIf : Bool → Taken → Mechanism → List ℕ → ReplyOptions → Option Reply → Type 0
RepliesIf true taken mechanism confounder choice reply =
    IsSomeAnd reply (λ it. (it.mechanism ≡ mechanism) × IsReply taken confounder choice it.message.now)
RepliesIf false taken mechanism confounder choice reply = reply ≡ None

-- The service's answer with its own MIC: accept-completed if the client has shown the list, else accept-incomplete.
pub record IsListAnswer (is_completed : Bool) (Replies : Option Reply → Type 0) (mic bytes : List ℕ) : Type 0 where
  pub checked : Checked
  pub completed_is : checked.is_completed ≡ is_completed
  pub replies : Replies checked.reply
  pub mic_is : checked.mic.now ≡ mic
  pub written : WritesChecked checked bytes

-- A context marks the list with its own MIC, and that goes back.
pub record MarksIn (list : List ℕ) (is_completed : Bool) (Replies : Option Reply → Type 0) (old new : State) (bytes : List ℕ) : Type 0 where
  pub mic : List ℕ
  pub marks : Marks list old mic new
  pub answer : IsListAnswer is_completed Replies mic bytes
