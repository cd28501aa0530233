-- A world with three parts: a client that uses one credential; a service that may be started again,
-- and to which anyone sends what they like; and a network that loses, repeats and reorders what the
-- two send. Only what the two sent to each other reaches the client, and no reply to what others
-- sent. The client sends no two requests of the same microsecond. The service replies at most once
-- to a request that it accepted. It is started again with the same keytab, no earlier than the
-- moments of its calls before, and with no smaller skew.
use Rattle.std.specs.Prelude.{◌≡◌, ◌≢◌, ◌⊎◌, ◌≤◌, ◌≤ℤ◌, ℕ, ℤ, List, [], ◌∷◌, ◌++◌, All, Some}
use Rattle.std.specs.Option.{option_map}
use Rattle.krb_name.specs.Name.{SameName}
use Rattle.krb_name.specs.declared.principal.Principal.{Principal}
use Rattle.krb_der.specs.Kind.{ValueOf}
use Rattle.krb_msg.specs.Module.{ticket as ticket_kind, enc_ticket_part}
use Rattle.krb_ccache.specs.declared.credential.Credential.{Credential}
use Rattle.krb_replay.specs.Stamp.{Stamp}
use Rattle.krb_ap.specs.Setup.{Setup, Arrival, decided_now}
use Rattle.krb_ap.specs.Once.{HasStamp}
use Rattle.krb_ap.specs.Taken.{Taken, Accept}
use Rattle.krb_ap.specs.Causes.{Cause}
use Rattle.krb_ap.specs.Answer.{after_refusal}
use Rattle.krb_ap.specs.Written.{key_value}
use Rattle.krb_ap.specs.Request.{Awaited, IsBuilt, awaited_for}
use Rattle.krb_ap.specs.Headline.{Agrees, HasTicket}
use Rattle.krb_ap.specs.Reply.{IsReply}
use Rattle.krb_ap.specs.ErrorReply.{IsErrorReply}
use Rattle.krb_ap.specs.Finish.{Agreement, IsAgreed}
use Rattle.krb_ap.specs.declared.request.RequestOptions.{RequestOptions}
use Rattle.krb_ap.specs.declared.reply.ReplyOptions.{ReplyOptions}
use Rattle.krb_ap.specs.declared.refusal.Refusal.{Refusal}
use Rattle.krb_ap.specs.declared.refusal.Refusal.TheVariants.{OutOfMemory}

-- ---- what has happened

-- a request that the client sent
pub record Sent : Type 0 where
  pub at : ℤ
  pub options : RequestOptions
  pub confounder : List ℕ
  pub bytes : List ℕ

-- a call that the service accepted, and what it knows of it
pub record Held : Type 0 where
  pub call : Arrival
  pub taken : Taken

-- a reply that the service sent to it
pub record Replied : Type 0 where
  pub held : Held
  pub options : ReplyOptions
  pub confounder : List ℕ
  pub bytes : List ℕ

-- a request whose reply came, and what the client agreed to
pub record Ended : Type 0 where
  pub sent : Sent
  pub agreement : Agreement

-- All of it, newest first. The setup is what the service decides by now. The history is that of its
-- calls since its last start; the calls before that are the earlier ones.
pub record World : Type 0 where
  pub setup : Setup
  pub earlier : List Arrival
  pub history : List Arrival
  pub sent : List Sent
  pub held : List Held
  pub replied : List Replied
  pub errors : List (List ℕ)
  pub ended : List Ended

abbrev pub world : Setup → List Arrival → List Arrival → List Sent → List Held → List Replied → List (List ℕ) → List Ended → World
world setup earlier history sent held replied errors ended = record {
  setup = setup;
  earlier = earlier;
  history = history;
  sent = sent;
  held = held;
  replied = replied;
  errors = errors;
  ended = ended;
}

abbrev pub nothing_yet : Setup → World
nothing_yet setup = world setup [] [] [] [] [] [] []

-- it is one of these
abbrev pub IsOf : {X : Type 0} → List X → X → Type 0
IsOf [] x = ⊥
IsOf (y ∷ ys) x = (y ≡ x) ⊎ IsOf ys x

-- the client sent these bytes
abbrev pub IsSent : World → List ℕ → Type 0
IsSent w bytes = (s : Sent) × (IsOf w.sent s × (s.bytes ≡ bytes))

-- the bytes were sent, by the client or by the service; the service sends replies and errors
abbrev pub IsPacket : World → List ℕ → Type 0
IsPacket w bytes = IsSent w bytes ⊎ (((r : Replied) × (IsOf w.replied r × (r.bytes ≡ bytes))) ⊎ IsOf w.errors bytes)

-- what the client awaits of the reply to a request
abbrev pub awaited_by : Credential → Sent → Awaited
awaited_by credential sent = awaited_for credential sent.at sent.options

-- ---- what may happen

pub data Event : Type 0 where
  sends : Sent → Event
  accepts : Arrival → Taken → Event
  refuses : Arrival → Refusal → Event
  replies : Replied → Event
  errs : Refusal → ℤ → Principal → List ℕ → Event
  ends : List ℕ → Ended → Event
  restarts : ℤ → ℕ → Event

-- started again with the same keytab
abbrev pub started_again : Setup → ℤ → ℕ → Setup
started_again setup start skew = record { entries = setup.entries; skew = skew; start = Some start }

-- The client sends a request that is built with the credential. The service accepts any bytes that
-- arrive, whether a packet or what others send. Or it refuses them, for the first cause or with out
-- of memory. It replies to what it accepted of the client's requests, or sends an error. The client
-- agrees to a packet as the reply to a request. The service is started again.
abbrev pub Can : Credential → World → Event → Type 0
Can credential w (sends s) = IsBuilt credential s.at s.confounder s.options s.bytes × All (λ other. other.at ≢ s.at) w.sent
Can credential w (accepts call taken) = Accept w.setup w.history call taken
Can credential w (refuses call refusal) = refusal ≢ OutOfMemory → Cause w.setup w.history call refusal
Can credential w (replies r) = IsOf w.held r.held × (IsSent w r.held.call.bytes
    × (All (λ other. other.held ≢ r.held) w.replied × IsReply r.held.taken r.confounder r.options r.bytes))
Can credential w (errs refusal now service bytes) = IsErrorReply refusal now service bytes
Can credential w (ends bytes e) = IsOf w.sent e.sent × (IsPacket w bytes × IsAgreed (awaited_by credential e.sent) bytes e.agreement)
Can credential w (restarts start skew) = All (λ call. call.moment ≤ℤ start) (w.history ++ w.earlier) × (w.setup.skew ≤ skew)

-- the world after it; a service that is started again has forgotten its history
abbrev pub happens : World → Event → World
happens w (sends s) = world w.setup w.earlier w.history (s ∷ w.sent) w.held w.replied w.errors w.ended
happens w (accepts call taken) =
    world w.setup w.earlier (decided_now call ∷ w.history) w.sent (record { call = call; taken = taken } ∷ w.held) w.replied w.errors w.ended
happens w (refuses call refusal) = world w.setup w.earlier (after_refusal w.history call refusal) w.sent w.held w.replied w.errors w.ended
happens w (replies r) = world w.setup w.earlier w.history w.sent w.held (r ∷ w.replied) w.errors w.ended
happens w (errs refusal now service bytes) = world w.setup w.earlier w.history w.sent w.held w.replied (bytes ∷ w.errors) w.ended
happens w (ends bytes e) = world w.setup w.earlier w.history w.sent w.held w.replied w.errors (e ∷ w.ended)
happens w (restarts start skew) =
    world (started_again w.setup start skew) (w.history ++ w.earlier) [] w.sent w.held w.replied w.errors w.ended

-- events happen one after another, and lead to this world
abbrev pub Comes : Credential → World → List Event → World → Type 0
Comes credential w [] end = end ≡ w
Comes credential w (event ∷ events) end = Can credential w event × Comes credential (happens w event) events end

-- ---- what both hold then

-- what the service knows of a request, and sent in its reply, is what the client agreed to
pub record HoldSame (credential : Credential) (e : Ended) (r : Replied) : Type 0 where
  pub told : Agrees r.held.taken (awaited_by credential e.sent)
  pub client : SameName r.held.taken.client e.agreement.client
  pub key : r.held.taken.session_key ≡ e.agreement.key
  pub subkey : r.held.taken.subkey ≡ option_map key_value e.agreement.subkey
  pub seq : r.held.taken.seq ≡ e.agreement.seq
  pub service_subkey : option_map key_value r.options.subkey ≡ e.agreement.service_subkey
  pub service_seq : r.options.seq ≡ e.agreement.service_seq

-- the service's reply to this request; there is only one
pub record IsReplyTo (w : World) (sent : Sent) (r : Replied) : Type 0 where
  pub replied : IsOf w.replied r
  pub held : IsOf w.held r.held
  pub same : r.held.call.bytes ≡ sent.bytes

-- for each request that the client completed, the service holds something, and all that it holds of
-- it agrees with the client
pub record BothAgree (credential : Credential) (w : World) : Type 0 where
  pub some : (e : Ended) → IsOf w.ended e → (r : Replied) × IsReplyTo w e.sent r
  pub all : (e : Ended) (r : Replied) → IsOf w.ended e → IsReplyTo w e.sent r → HoldSame credential e r
  pub held : (e : Ended) (h : Held) → IsOf w.ended e → IsOf w.held h → h.call.bytes ≡ e.sent.bytes → Agrees h.taken (awaited_by credential e.sent)

-- a request of this stamp is among what the service holds
abbrev pub IsHeldAmong : Setup → List Held → Stamp → Type 0
IsHeldAmong setup [] stamp = ⊥
IsHeldAmong setup (h ∷ held) stamp = HasStamp setup h.call.bytes stamp ⊎ IsHeldAmong setup held stamp

-- the service accepted no stamp twice, even across its starts
abbrev pub HoldsOnce : Setup → List Held → Type 0
HoldsOnce setup [] = Unit {0}
HoldsOnce setup (h ∷ held) = ((stamp : Stamp) → HasStamp setup h.call.bytes stamp → ¬ IsHeldAmong setup held stamp) × HoldsOnce setup held

-- and it holds one value for a request, and sent one reply to it
pub record IsHeldOnce (setup : Setup) (w : World) : Type 0 where
  pub stamps : HoldsOnce setup w.held
  pub held : (g h : Held) → IsOf w.held g → IsOf w.held h → g.call.bytes ≡ h.call.bytes → g ≡ h
  pub replied : (q r : Replied) → IsOf w.replied q → IsOf w.replied r → q.held.call.bytes ≡ r.held.call.bytes → q ≡ r

-- the service replied to this request, and what it knows and sent is what the client agreed to
pub record IsHeldToo (credential : Credential) (w : World) (sent : Sent) (agreement : Agreement) : Type 0 where
  pub reply : Replied
  pub reply_to : IsReplyTo w sent reply
  pub same : HoldSame credential (record { sent = sent; agreement = agreement }) reply

-- in each world in which this request was sent, and these bytes are a packet, the service too holds
-- what was agreed, if the key that the keytab has for the credential's ticket opens it to the
-- credential's client and key
abbrev pub IsHeldInEachWorld : Awaited → List ℕ → Agreement → Type 0
IsHeldInEachWorld awaited bytes agreement = (setup : Setup) (credential : Credential) (ticket : ValueOf ticket_kind) (part : ValueOf enc_ticket_part)
    (events : List Event) (w : World) (sent : Sent) → HasTicket setup credential ticket part → Comes credential (nothing_yet setup) events w
    → IsOf w.sent sent → awaited_by credential sent ≡ awaited → IsPacket w bytes → IsHeldToo credential w sent agreement
