-- What holds in every world that comes about.
use Rattle.std.proofs.Common.{◌≡◌, ◌≢◌, ℕ, ℤ, List, [], ◌∷◌, ◌++◌, refl, sym, ◌∙◌, ap, subst, inl, inr, arith}
use Rattle.std.specs.Prelude.{All}
use Rattle.std.proofs.lemmas.List.Elements.{All-head, All-tail}
use Rattle.krb_der.specs.Kind.{ValueOf}
use Rattle.krb_der.specs.Spells.{IsMessage}
use Rattle.krb_msg.specs.Module.{ap_req, ap_rep, krb_error, ticket as ticket_kind, enc_ticket_part}
use Rattle.krb_ccache.specs.declared.credential.Credential.{Credential}
use Rattle.krb_ap.specs.Setup.{Setup, Arrival}
use Rattle.krb_ap.specs.Taken.{Accept}
use Rattle.krb_ap.specs.Request.{Awaited, IsBuilt, request_for}
use Rattle.krb_ap.specs.Headline.{Agrees, HasTicket}
use Rattle.krb_ap.specs.Reply.{IsReply, reply_part_for}
use Rattle.krb_ap.specs.ErrorReply.{IsErrorReply, error_for}
use Rattle.krb_ap.specs.Finish.{Agreement, IsAgreed, agreement_for, repeated_at}
use Rattle.krb_ap.specs.World.{Sent, Held, Replied, Ended, World, Event, sends, accepts, refuses, replies, errs, ends, restarts, IsOf, IsSent, IsPacket, Can, Comes, happens, nothing_yet, awaited_by, HoldSame, IsReplyTo, IsHeldToo, IsHeldInEachWorld, IsHeldOnce, BothAgree}
use Rattle.krb_ap.specs.Inner.Facts.{Facts}
use Rattle.krb_ap.specs.declared.refusal.Refusal.{Refusal}
use Rattle.krb_name.specs.declared.principal.Principal.{Principal}
use Rattle.krb_ap.proofs.Begins.{same_tag}
use Rattle.krb_ap.proofs.Entries.{has_ticket_by}
use Rattle.krb_ap.proofs.Sending.{taken_agrees, reply_opens}

-- ---- lists

-- each of these is so
abbrev pub Each : {X : Type 0} → List X → (X → Type 0) → Type 0
Each xs P = (x : _) → IsOf xs x → P x

pub of_all : {X : Type 0} (P : X → Type 0) (xs : List X) → All P xs → Each xs P
of_all P [] all x o = absurd o
of_all P (y ∷ ys) all x (inl e) = subst P e (All-head P y ys all)
of_all P (y ∷ ys) all x (inr o) = of_all P ys (All-tail P y ys all) x o

pub each_more : {X : Type 0} (P : X → Type 0) (x : X) (xs : List X) → P x → Each xs P → Each (x ∷ xs) P
each_more P x xs p each y (inl e) = subst P e p
each_more P x xs p each y (inr o) = each y o

-- no two of these have the same key
abbrev pub AreApart : {X Y : Type 0} → (X → Y) → List X → Type 0
AreApart key xs = (x y : _) → IsOf xs x → IsOf xs y → key x ≡ key y → x ≡ y

pub apart_more : {X Y : Type 0} (key : X → Y) (x : X) (xs : List X) → All (λ other. key other ≢ key x) xs → AreApart key xs
    → AreApart key (x ∷ xs)
apart_more key x xs new apart a b (inl e) (inl f) same = sym e ∙ f
apart_more key x xs new apart a b (inl e) (inr o) same = absurd (of_all (λ other. key other ≢ key x) xs new b o (sym same ∙ ap key (sym e)))
apart_more key x xs new apart a b (inr o) (inl e) same = absurd (of_all (λ other. key other ≢ key x) xs new a o (same ∙ ap key (sym e)))
apart_more key x xs new apart a b (inr o) (inr p) same = apart a b o p same

-- what each event keeps holds in each world that comes about
pub kept : (credential : Credential) (P : World → Type 0) → ((w : World) (event : Event) → P w → Can credential w event → P (happens w event))
    → (w : World) (events : List Event) (end : World) → P w → Comes credential w events end → P end
kept credential P keeps w [] end p c = subst P (sym c) p
kept credential P keeps w (event ∷ events) end p c = kept credential P keeps (happens w event) events end (keeps w event p c.0) c.1

-- no bytes are both a request and a reply
abbrev pub Apart : Type 0
Apart = (v : ValueOf ap_req) (r : ValueOf ap_rep) (bytes : List ℕ) → IsMessage ap_req v bytes → IsMessage ap_rep r bytes → ⊥

-- nor both an error and a reply
tags_apart : ◌≡◌ {A = ℕ} 0x7e 0x6f → ⊥
tags_apart e = omega arith

error_apart : (v : ValueOf krb_error) (r : ValueOf ap_rep) (bytes : List ℕ) → IsMessage krb_error v bytes → IsMessage ap_rep r bytes → ⊥
error_apart v r bytes one other = tags_apart (same_tag krb_error ap_rep v r bytes one other)

-- it is one of these errors
record IsErrorOf (bytes : List ℕ) : Type 0 where
  refusal : Refusal
  now : ℤ
  service : Principal
  error : IsErrorReply refusal now service bytes

module _ (facts : Facts) (separate : Apart) (setup : Setup) (credential : Credential) (ticket : ValueOf ticket_kind) (part : ValueOf enc_ticket_part)
    (has : HasTicket setup credential ticket part) where
  -- the service accepted it once, with this keytab
  record WasAccepted (h : Held) : Type 0 where
    by : Setup
    history : List Arrival
    entries : by.entries ≡ setup.entries
    accept : Accept by history h.call h.taken

  record IsReplied (sent : List Sent) (held : List Held) (r : Replied) : Type 0 where
    held_is : IsOf held r.held
    asked : (s : Sent) × (IsOf sent s × (s.bytes ≡ r.held.call.bytes))
    reply : IsReply r.held.taken r.confounder r.options r.bytes

  record IsEnd (sent : List Sent) (replied : List Replied) (e : Ended) : Type 0 where
    asked : IsOf sent e.sent
    reply : Replied
    replied_is : IsOf replied reply
    same : reply.held.call.bytes ≡ e.sent.bytes
    both : HoldSame credential e reply

  abbrev Good : World → Type 0
  Good w = record {
    entries : w.setup.entries ≡ setup.entries;
    built : Each w.sent (λ s. IsBuilt credential s.at s.confounder s.options s.bytes);
    apart : AreApart (λ (s : Sent). s.at) w.sent;
    accepted : Each w.held WasAccepted;
    replied : Each w.replied (IsReplied w.sent w.held);
    error : Each w.errors IsErrorOf;
    ended : Each w.ended (IsEnd w.sent w.replied);
  }

  nothing : Good (nothing_yet setup)
  nothing = record {
    entries = refl;
    built = λ s o. absurd o;
    apart = λ s t o p e. absurd o;
    accepted = λ h o. absurd o;
    replied = λ r o. absurd o;
    error = λ b o. absurd o;
    ended = λ e o. absurd o;
  }

  -- what is held of a request that the client sent is what it awaits
  held_agrees : (w : World) → Good w → (h : Held) (s : Sent) → IsOf w.held h → IsOf w.sent s → h.call.bytes ≡ s.bytes
      → Agrees h.taken (awaited_by credential s)
  held_agrees w good h s o p same =
      let was : WasAccepted h = good.accepted h o in
      taken_agrees facts was.by credential ticket part (has_ticket_by setup was.by (sym was.entries) credential ticket part has)
      s.at s.confounder s.options s.bytes (good.built s p) was.history h.call h.taken same was.accept

  -- ---- a client agrees

  module _ (w : World) (good : Good w) (e : Ended) (bytes : List ℕ) (of_sent : IsOf w.sent e.sent)
      (agreed : IsAgreed (awaited_by credential e.sent) bytes e.agreement) where
    abbrev awaited : Awaited
    awaited = awaited_by credential e.sent

    no_request : (s : Sent) → IsOf w.sent s → s.bytes ≡ bytes → ⊥
    no_request s o same = separate (request_for credential s.options (good.built s o).ticket (good.built s o).text) agreed.opened.reply bytes
        (subst (λ (b : List ℕ). IsMessage ap_req (request_for credential s.options (good.built s o).ticket (good.built s o).text) b) same
        (good.built s o).bytes_are.message) agreed.opened.message

    no_error : IsErrorOf bytes → ⊥
    no_error x = error_apart (error_for x.error.error.stime x.error.error.susec x.error.code x.service) agreed.opened.reply bytes
        x.error.error.bytes_are.message agreed.opened.message

    module _ (r : Replied) (o : IsOf w.replied r) (same : r.bytes ≡ bytes) (s : Sent) (is_sent : IsOf w.sent s) (asked : s.bytes ≡ r.held.call.bytes) where
      first_told : Agrees r.held.taken (awaited_by credential s)
      first_told = held_agrees w good r.held s (good.replied r o).held_is is_sent (sym asked)

      part_is : agreed.part ≡ reply_part_for r.held.taken r.options
      part_is = reply_opens facts awaited.key r.held.taken r.confounder r.options bytes agreed.opened.reply agreed.part first_told.key
          (subst (λ (b : List ℕ). IsReply r.held.taken r.confounder r.options b) same (good.replied r o).reply) agreed.opened.message agreed.opened.opens

      sent_is : s ≡ e.sent
      sent_is = good.apart s e.sent is_sent of_sent (sym first_told.at ∙ (sym (ap repeated_at part_is) ∙ agreed.same))

      agreement_is : e.agreement ≡ agreement_for awaited (reply_part_for r.held.taken r.options)
      agreement_is = agreed.agreement_is ∙ ap (agreement_for awaited) part_is

      told : Agrees r.held.taken awaited
      told = subst (λ (x : Sent). Agrees r.held.taken (awaited_by credential x)) sent_is first_told

      hold_same : HoldSame credential e r
      hold_same = subst (λ (a : Agreement). HoldSame credential (record { sent = e.sent; agreement = a }) r) (sym agreement_is) (record {
        told = told;
        client = told.client;
        key = told.key;
        subkey = told.subkey;
        seq = told.seq;
        service_subkey = refl;
        service_seq = refl;
      })

      end_of : IsEnd w.sent w.replied e
      end_of = record { asked = of_sent; reply = r; replied_is = o; same = sym asked ∙ ap (λ (x : Sent). x.bytes) sent_is; both = hold_same }

    end_by : IsPacket w bytes → IsEnd w.sent w.replied e
    end_by (inl p) = absurd (no_request p.0 p.1.0 p.1.1)
    end_by (inr (inl p)) = (let s : IsSent w p.0.held.call.bytes = (good.replied p.0 p.1.0).asked in end_of p.0 p.1.0 p.1.1 s.0 s.1.0 s.1.1)
    end_by (inr (inr o)) = absurd (no_error (good.error bytes o))

  -- ---- one event after another

  after_event : (w : World) (event : Event) → Good w → Can credential w event → Good (happens w event)
  after_event w (sends s) good can = record {
    entries = good.entries;
    built = each_more (λ (t : Sent). IsBuilt credential t.at t.confounder t.options t.bytes) s w.sent can.0 good.built;
    apart = apart_more (λ (t : Sent). t.at) s w.sent can.1 good.apart;
    accepted = good.accepted;
    replied = λ r o. (let old : IsReplied w.sent w.held r = good.replied r o in
        record { held_is = old.held_is; asked = (old.asked.0, (inr old.asked.1.0, old.asked.1.1)); reply = old.reply });
    error = good.error;
    ended = λ e o. (let old : IsEnd w.sent w.replied e = good.ended e o in
        record { asked = inr old.asked; reply = old.reply; replied_is = old.replied_is; same = old.same; both = old.both });
  }
  after_event w (accepts call taken) good can = record {
    entries = good.entries;
    built = good.built;
    apart = good.apart;
    accepted = each_more WasAccepted (record { call = call; taken = taken }) w.held
        (record { by = w.setup; history = w.history; entries = good.entries; accept = can }) good.accepted;
    replied = λ r o. (let old : IsReplied w.sent w.held r = good.replied r o in
        record { held_is = inr old.held_is; asked = old.asked; reply = old.reply });
    error = good.error;
    ended = good.ended;
  }
  after_event w (refuses call refusal) good can = good
  after_event w (replies r) good can = record {
    entries = good.entries;
    built = good.built;
    apart = good.apart;
    accepted = good.accepted;
    replied = each_more (IsReplied w.sent w.held) r w.replied
        (record { held_is = can.0; asked = can.1.0; reply = can.1.1.1 }) good.replied;
    error = good.error;
    ended = λ e o. (let old : IsEnd w.sent w.replied e = good.ended e o in
        record { asked = old.asked; reply = old.reply; replied_is = inr old.replied_is; same = old.same; both = old.both });
  }
  after_event w (errs refusal now service bytes) good can = record {
    entries = good.entries;
    built = good.built;
    apart = good.apart;
    accepted = good.accepted;
    replied = good.replied;
    error = each_more IsErrorOf bytes w.errors (record { refusal = refusal; now = now; service = service; error = can }) good.error;
    ended = good.ended;
  }
  after_event w (ends bytes e) good can = record {
    entries = good.entries;
    built = good.built;
    apart = good.apart;
    accepted = good.accepted;
    replied = good.replied;
    error = good.error;
    ended = each_more (IsEnd w.sent w.replied) e w.ended (end_by w good e bytes can.0 can.1.1 can.1.0) good.ended;
  }
  after_event w (restarts start skew) good can = good

  -- ---- what both hold, where what is held of a request is one

  module _ (w : World) (good : Good w) (once : IsHeldOnce setup w) where
    same_reply : (e : Ended) (r : Replied) → (o : IsOf w.ended e) → IsReplyTo w e.sent r → (good.ended e o).reply ≡ r
    same_reply e r o to = once.replied (good.ended e o).reply r (good.ended e o).replied_is to.replied ((good.ended e o).same ∙ sym to.same)

    both_agree : BothAgree credential w
    both_agree = record {
      some = λ e o. (let end : IsEnd w.sent w.replied e = good.ended e o in
          (end.reply, record { replied = end.replied_is; held = (good.replied end.reply end.replied_is).held_is; same = end.same }));
      all = λ e r o to. subst (λ (x : Replied). HoldSame credential e x) (same_reply e r o to) (good.ended e o).both;
      held = λ e h o p same. held_agrees w good h e.sent p (good.ended e o).asked same;
    }

  come_more : (w : World) (events : List Event) (end : World) (event : Event) → Comes credential w events end → Can credential end event
      → Comes credential w (events ++ event ∷ []) (happens end event)
  come_more w [] end event c can = (subst (λ (x : World). Can credential x event) c can, ap (λ (x : World). happens x event) c)
  come_more w (e ∷ events) end event c can = (c.0, come_more (happens w e) events end event c.1 can)

  module _ (once : (events : List Event) (end : World) → Comes credential (nothing_yet setup) events end → IsHeldOnce setup end) where
    pub agreement : (events : List Event) (end : World) → Comes credential (nothing_yet setup) events end → BothAgree credential end
    agreement events end c = both_agree end (kept credential Good after_event (nothing_yet setup) events end nothing c) (once events end c)

    -- as it was agreed, so it is held
    pub held_too : (events : List Event) (w : World) (sent : Sent) (bytes : List ℕ) (agreed : Agreement) → Comes credential (nothing_yet setup) events w
        → IsOf w.sent sent → IsPacket w bytes → IsAgreed (awaited_by credential sent) bytes agreed → IsHeldToo credential w sent agreed
    held_too events w sent bytes agreed c of_sent packet is_agreed =
        let e : Ended = record { sent = sent; agreement = agreed } in
        let both : BothAgree credential (happens w (ends bytes e)) =
        agreement (events ++ ends bytes e ∷ []) (happens w (ends bytes e)) (come_more (nothing_yet setup) events w (ends bytes e) c (of_sent, (packet, is_agreed))) in
        let reply : (r : Replied) × IsReplyTo (happens w (ends bytes e)) sent r = both.some e (inl refl) in
        record {
          reply = reply.0;
          reply_to = record { replied = reply.1.replied; held = reply.1.held; same = reply.1.same };
          same = both.all e reply.0 (inl refl) reply.1;
        }

-- what is held of a request is one, in every world
abbrev pub IsOnce : Type 0
IsOnce = (setup : Setup) (credential : Credential) (events : List Event) (end : World) → Comes credential (nothing_yet setup) events end → IsHeldOnce setup end

pub held_in_each : Facts → Apart → IsOnce → (a : Awaited) (bytes : List ℕ) (agreed : Agreement) → IsAgreed a bytes agreed → IsHeldInEachWorld a bytes agreed
held_in_each facts separate once a bytes agreed is_agreed setup credential ticket part events w sent has c of_sent e packet =
    held_too facts separate setup credential ticket part has (once setup credential) events w sent bytes agreed c of_sent packet
    (subst (λ (x : Awaited). IsAgreed x bytes agreed) (sym e) is_agreed)
