-- Who is let in over which list.
use Rattle.std.proofs.Common.{◌≡◌, ◌∙◌, ℕ, List, Result, Ok, Err, Vec, sym, ap, subst, refl}
use Rattle.std.specs.declared.alloc.Global.{Global}
use Rattle.krb_ap.specs.declared.accepted.Accepted.{Accepted}
use Rattle.krb_ap.specs.declared.reply.ReplyOptions.{ReplyOptions}
use Rattle.krb_context.specs.Context.{State}
use Rattle.krb_context.specs.Mic.{IsMic}
use Rattle.krb_context.specs.Side.{Sender, peer_sender}
use Rattle.krb_context.specs.declared.agreed.Options.{Options}
use Rattle.krb_gss.specs.declared.negotiating.Negotiation.{Negotiation}
use Rattle.krb_gss.specs.declared.negotiating.Negotiation.TheVariants.{Begun, Asked, Ended}
use Rattle.krb_login.specs.declared.decision.Decision.{Decision as LoginDecision}
use Rattle.krb_login.specs.declared.decision.Decision.TheVariants as decisions
use Rattle.krb_login.specs.declared.decision.LetIn.{LetIn as LetInValue}
use Rattle.krb_login.specs.declared.decision.Refused.{Refused as LoginRefused}
use Rattle.krb_login.specs.declared.service.Given.{Given}
use Rattle.krb_talk.specs.Agreeing.{IsContextOf}
use Rattle.krb_talk.specs.Checking.{Check, Checks, IsAwaited, IsShown}
use Rattle.krb_talk.specs.Laws.{IsClientsMic, IsLetInOver}
use Rattle.krb_talk.specs.Pending.{Finishes}
use Rattle.krb_talk.specs.States.{Listing, Pending}
use Rattle.krb_talk.specs.Talk.{Concludes, Ends, IsListed, Leads, Talks, lists, fails, passes, checks, finishes}
use Rattle.krb_talk.specs.declared.checking.Admitted.{Admitted}
use Rattle.krb_talk.specs.declared.checking.Checking.{Checking}
use Rattle.krb_talk.specs.declared.checking.Checking.TheVariants as checked
use Rattle.krb_talk.specs.declared.checking.ListFault.{ListFault}
use Rattle.krb_talk.specs.declared.decision.Decision.{Decision}
use Rattle.krb_talk.specs.declared.decision.Decision.TheVariants.{LetIn, Shown, GoOn, Refused}
use Rattle.krb_talk.specs.declared.stage.Stage.{Stage}
use Rattle.krb_talk.specs.declared.stage.Stage.TheVariants.{Login, Listed, Waiting}

-- ---- stages and decisions differ
listed_not_login : (l : Listing) (n : Negotiation) → Listed l ≡ Login n → ⊥
listed_not_login l n e = absurd cc

listed_not_waiting : (l : Listing) (p : Pending) → Listed l ≡ Waiting p → ⊥
listed_not_waiting l p e = absurd cc

waiting_not_login : (p : Pending) (n : Negotiation) → Waiting p ≡ Login n → ⊥
waiting_not_login p n e = absurd cc

shown_not_go_on : (login : Admitted) (bytes : Vec ℕ Global) → Shown login ≡ GoOn bytes → ⊥
shown_not_go_on login bytes e = absurd cc

shown_not_refused : (login : Admitted) (refused : LoginRefused) → Shown login ≡ Refused refused → ⊥
shown_not_refused login refused e = absurd cc

same_listing : (l m : Listing) → Listed l ≡ Listed m → l ≡ m
same_listing l m e = cc

same_pending : (p q : Pending) → Waiting p ≡ Waiting q → p ≡ q
same_pending p q e = cc

same_login : (a b : Admitted) → Shown a ≡ Shown b → a ≡ b
same_login a b e = cc

in_not_go_on : (login : LetInValue) (bytes : Vec ℕ Global) → LetIn login ≡ GoOn bytes → ⊥
in_not_go_on login bytes e = absurd cc

in_not_refused : (login : LetInValue) (refused : LoginRefused) → LetIn login ≡ Refused refused → ⊥
in_not_refused login refused e = absurd cc

in_not_shown : (login : LetInValue) (other : Admitted) → LetIn login ≡ Shown other → ⊥
in_not_shown login other e = absurd cc

not_ended : (made : Result Admitted ListFault) (login : LetInValue) → Ends made (LetIn login) → ⊥
not_ended (Ok other) login ends = in_not_shown login other ends
not_ended (Err fault) login ends = ends

not_led : (made : Result Checking ListFault) (login : LetInValue) (new : Stage) → Leads made (LetIn login) new → ⊥
not_led (Ok (checked.Shown other)) login new leads = in_not_shown login other leads.0
not_led (Ok (checked.Waits pending sent)) login new leads = in_not_go_on login sent leads.0
not_led (Err fault) login new leads = leads.0

not_concluded : (options : Options) (given : Given) (listing : Listing) (decided : LoginDecision) (login : LetInValue) (new : Stage)
    → Concludes listing options given decided (LetIn login) new → ⊥
not_concluded options given listing (decisions.LetIn decided) login new it = not_led it.0 login new it.2
not_concluded options given listing (decisions.GoOn bytes) login new it = in_not_go_on login bytes it.0
not_concluded options given listing (decisions.Refused refused) login new it = in_not_refused login refused it.0

-- ---- the client's MIC
mic_of : (accepted : Accepted) (choice : ReplyOptions) (options : Options) (begun : State) (sender : Sender) (number : ℕ) (list mic : List ℕ)
    → IsContextOf accepted choice options begun → sender ≡ begun.sender → IsMic (peer_sender sender) number list mic → IsClientsMic accepted choice list mic
mic_of accepted choice options begun sender number list mic begun_for same it = record {
  subkey = begun_for.subkey;
  subkey_is = begun_for.subkey_is;
  number = number;
  is_mic = subst (λ (s : Sender). IsMic (peer_sender s) number list mic) (same ∙ begun_for.begun.sender_is) it;
}

module _ (Serves : Negotiation → Negotiation → LoginDecision → Type 0) (Rests : Type 0) (options : Options) (given : Given) where
  -- what is known of a client while its MIC is awaited
  pub record Holds (listing : Listing) (pending : Pending) : Type 0 where
    pub after : Negotiation
    pub decided : LetInValue
    pub serves : Serves (Asked listing.mechanism) after (decisions.LetIn decided)
    pub accepted_is : pending.accepted ≡ decided.accepted
    pub list_is : pending.list ≡ listing.list
    pub begun : State
    pub begun_for : IsContextOf decided.accepted given.choice options begun
    pub sender_is : pending.context.sender ≡ begun.sender

  abbrev check_for : Listing → LetInValue → Check
  check_for listing login = record {
    list = listing.list;
    bytes = given.bytes.now;
    accepted = login.accepted;
    confounder = given.confounder.now;
    choice = given.choice;
    options = options;
  }

  -- ---- a MIC that came with the token
  over : (first : List ℕ) (listing : Listing) → IsListed listing first → (after : Negotiation) (decided : LetInValue)
      → Serves (Asked listing.mechanism) after (decisions.LetIn decided) → (login : Admitted) → IsShown (check_for listing decided) login
      → IsLetInOver first given.bytes.now Serves given.choice login
  over first listing listed after decided serves login it =
      let shows = it.let_in.shows in
      record {
        listing = listing;
        listed = listed;
        after = after;
        decided = decided;
        serves = serves;
        accepted_is = it.let_in.accepted_is;
        mic = it.mic;
        sent = it.holds.holds;
        shown = subst (λ (a : Accepted). IsClientsMic a given.choice listing.list it.mic) (sym it.let_in.accepted_is)
            (mic_of decided.accepted given.choice options it.begun it.begun.sender shows.number listing.list it.mic it.begun_for refl shows.is_mic);
      }

  made_over : (first : List ℕ) (listing : Listing) → IsListed listing first → (after : Negotiation) (decided : LetInValue)
      → Serves (Asked listing.mechanism) after (decisions.LetIn decided) → (login : Admitted) (new : Stage) (made : Result Checking ListFault)
      → Checks (check_for listing decided) made → Leads made (Shown login) new → IsLetInOver first given.bytes.now Serves given.choice login
  made_over first listing listed after decided serves login new (Ok (checked.Shown other)) it leads =
      over first listing listed after decided serves login
      (subst (λ (a : Admitted). IsShown (check_for listing decided) a) (sym (same_login login other leads.0)) it)
  made_over first listing listed after decided serves login new (Ok (checked.Waits pending sent)) it leads =
      absurd (shown_not_go_on login sent leads.0)
  made_over first listing listed after decided serves login new (Err fault) it leads = absurd leads.0

  concluded_over : (first : List ℕ) (listing : Listing) → IsListed listing first → (after : Negotiation) (decided : LoginDecision)
      → Serves (Asked listing.mechanism) after decided → (login : Admitted) (new : Stage)
      → Concludes listing options given decided (Shown login) new → IsLetInOver first given.bytes.now Serves given.choice login
  concluded_over first listing listed after (decisions.LetIn decided) serves login new it =
      made_over first listing listed after decided serves login new it.0 it.1 it.2
  concluded_over first listing listed after (decisions.GoOn bytes) serves login new it = absurd (shown_not_go_on login bytes it.0)
  concluded_over first listing listed after (decisions.Refused refused) serves login new it =
      absurd (shown_not_refused login refused it.0)

  -- ---- a MIC that comes after the reply
  held : (listing : Listing) (after : Negotiation) (decided : LetInValue) → Serves (Asked listing.mechanism) after (decisions.LetIn decided)
      → (pending : Pending) (sent : List ℕ) → IsAwaited (check_for listing decided) pending sent → Holds listing pending
  held listing after decided serves pending sent it =
      let marks = it.asked_for.answer.marks in
      record {
        after = after;
        decided = decided;
        serves = serves;
        accepted_is = it.asked_for.accepted_is;
        list_is = it.asked_for.list_is;
        begun = it.begun;
        begun_for = it.begun_for;
        sender_is = ap (λ (s : State). s.sender) marks.new_is;
      }

  made_held : (listing : Listing) (after : Negotiation) (decided : LetInValue) → Serves (Asked listing.mechanism) after (decisions.LetIn decided)
      → (pending : Pending) (decision : Decision) (made : Result Checking ListFault) → Checks (check_for listing decided) made
      → Leads made decision (Waiting pending) → Holds listing pending
  made_held listing after decided serves pending decision (Ok (checked.Shown login)) it leads = absurd (waiting_not_login pending Ended leads.1)
  made_held listing after decided serves pending decision (Ok (checked.Waits other sent)) it leads =
      subst (λ (p : Pending). Holds listing p) (sym (same_pending pending other leads.1)) (held listing after decided serves other sent.items it)
  made_held listing after decided serves pending decision (Err fault) it leads = absurd (waiting_not_login pending Ended leads.1)

  concluded_held : (listing : Listing) (after : Negotiation) (decided : LoginDecision) → Serves (Asked listing.mechanism) after decided
      → (pending : Pending) (decision : Decision) → Concludes listing options given decided decision (Waiting pending) → Holds listing pending
  concluded_held listing after (decisions.LetIn decided) serves pending decision it = made_held listing after decided serves pending decision it.0 it.1 it.2
  concluded_held listing after (decisions.GoOn bytes) serves pending decision it = absurd (waiting_not_login pending Ended it.1)
  concluded_held listing after (decisions.Refused refused) serves pending decision it = absurd (waiting_not_login pending Ended it.1)

  -- ---- the message that follows a list
  pub at_once_from : (first : List ℕ) (listing : Listing) → IsListed listing first → (login : Admitted) (new : Stage)
      → Talks Serves Rests options given (Listed listing) (Shown login) new → IsLetInOver first given.bytes.now Serves given.choice login
  at_once_from first listing listed login new (lists other sent old is rests decision writes after) = absurd (listed_not_login listing Begun old)
  at_once_from first listing listed login new (fails other old is rests unshown after) = absurd (listed_not_login listing Begun old)
  at_once_from first listing listed login new (passes negotiation after decided old none serves decision is) = absurd (listed_not_login listing negotiation old)
  at_once_from first listing listed login new (checks other after decided old serves it) =
      concluded_over first other (subst (λ (l : Listing). IsListed l first) (same_listing listing other old) listed) after decided serves login new it
  at_once_from first listing listed login new (finishes pending made old rests it ends is) = absurd (listed_not_waiting listing pending old)

  pub held_from : (listing : Listing) (pending : Pending) (decision : Decision) → Talks Serves Rests options given (Listed listing) decision (Waiting pending)
      → Holds listing pending
  held_from listing pending decision (lists other sent old is rests so writes after) = absurd (listed_not_login listing Begun old)
  held_from listing pending decision (fails other old is rests unshown after) = absurd (listed_not_login listing Begun old)
  held_from listing pending decision (passes negotiation after decided old none serves so is) = absurd (listed_not_login listing negotiation old)
  held_from listing pending decision (checks other after decided old serves it) =
      subst (λ (l : Listing). Holds l pending) (sym (same_listing listing other old)) (concluded_held other after decided serves pending decision it)
  held_from listing pending decision (finishes other made old rests it ends is) = absurd (listed_not_waiting listing other old)

  -- ---- the last message
  finished_over : (first bytes : List ℕ) (listing : Listing) → IsListed listing first → (pending : Pending) → Holds listing pending
      → (login : Admitted) (made : Result Admitted ListFault) → Finishes pending bytes made → Ends made (Shown login)
      → IsLetInOver first bytes Serves given.choice login
  finished_over first bytes listing listed pending holds login (Err fault) it ends = absurd ends
  finished_over first bytes listing listed pending holds login (Ok other) it ends =
      let accepted : login.accepted ≡ holds.decided.accepted =
      ap (λ (a : Admitted). a.accepted) (same_login login other ends) ∙ (it.accepted_is ∙ holds.accepted_is) in
      let shows = it.shows in
      let mic = mic_of holds.decided.accepted given.choice options holds.begun pending.context.sender shows.number pending.list it.mic holds.begun_for
      holds.sender_is shows.is_mic in
      record {
        listing = listing;
        listed = listed;
        after = holds.after;
        decided = holds.decided;
        serves = holds.serves;
        accepted_is = accepted;
        mic = it.mic;
        sent = it.holds;
        shown = subst (λ (a : Accepted). IsClientsMic a given.choice listing.list it.mic) (sym accepted)
            (subst (λ (l : List ℕ). IsClientsMic holds.decided.accepted given.choice l it.mic) holds.list_is mic);
      }

  pub at_last_from : (Third : Negotiation → Negotiation → LoginDecision → Type 0) (Resting : Type 0) (third : Given) (first : List ℕ) (listing : Listing)
      → IsListed listing first → (pending : Pending) → Holds listing pending → (login : Admitted) (new : Stage)
      → Talks Third Resting options third (Waiting pending) (Shown login) new → IsLetInOver first third.bytes.now Serves given.choice login
  at_last_from Third Resting third first listing listed pending holds login new (lists other sent old is rests so writes after) =
      absurd (waiting_not_login pending Begun old)
  at_last_from Third Resting third first listing listed pending holds login new (fails other old is rests unshown after) =
      absurd (waiting_not_login pending Begun old)
  at_last_from Third Resting third first listing listed pending holds login new (passes negotiation after decided old none serves so is) =
      absurd (waiting_not_login pending negotiation old)
  at_last_from Third Resting third first listing listed pending holds login new (checks other after decided old serves it) =
      absurd (listed_not_waiting other pending (sym old))
  at_last_from Third Resting third first listing listed pending holds login new (finishes other made old rests it ends is) =
      finished_over first third.bytes.now listing listed other (subst (λ (p : Pending). Holds listing p) (same_pending pending other old) holds)
      login made it ends

-- ---- the first message
pub listed_by : (Serves : Negotiation → Negotiation → LoginDecision → Type 0) (Rests : Type 0) (options : Options) (first : Given) (listing : Listing) (asked : Decision)
    → Talks Serves Rests options first (Login Begun) asked (Listed listing) → IsListed listing first.bytes.now
listed_by Serves Rests options first listing asked (lists other sent old is rests so writes after) =
    subst (λ (l : Listing). IsListed l first.bytes.now) (sym (same_listing listing other after)) is
listed_by Serves Rests options first listing asked (fails other old is rests unshown after) = absurd (listed_not_login listing Ended after)
listed_by Serves Rests options first listing asked (passes negotiation after decided old none serves so is) = absurd (listed_not_login listing after is)
listed_by Serves Rests options first listing asked (checks other after decided old serves it) = absurd (listed_not_login other Begun (sym old))
listed_by Serves Rests options first listing asked (finishes pending made old rests it ends is) = absurd (waiting_not_login pending Begun (sym old))

-- ---- a service's decision alone
pub no_decision_listed : (Serves : Negotiation → Negotiation → LoginDecision → Type 0) (Rests : Type 0) (options : Options) (given : Given) (listing : Listing)
    (login : LetInValue) (new : Stage) → Talks Serves Rests options given (Listed listing) (LetIn login) new → ⊥
no_decision_listed Serves Rests options given listing login new (lists other sent old is rests so writes after) = listed_not_login listing Begun old
no_decision_listed Serves Rests options given listing login new (fails other old is rests unshown after) = listed_not_login listing Begun old
no_decision_listed Serves Rests options given listing login new (passes negotiation after decided old none serves so is) = listed_not_login listing negotiation old
no_decision_listed Serves Rests options given listing login new (finishes pending made old rests it ends is) = listed_not_waiting listing pending old
no_decision_listed Serves Rests options given listing login new (checks other after decided old serves it) = not_concluded options given other decided login new it

pub no_decision_waiting : (Serves : Negotiation → Negotiation → LoginDecision → Type 0) (Rests : Type 0) (options : Options) (given : Given) (pending : Pending)
    (login : LetInValue) (new : Stage) → Talks Serves Rests options given (Waiting pending) (LetIn login) new → ⊥
no_decision_waiting Serves Rests options given pending login new (lists other sent old is rests so writes after) = waiting_not_login pending Begun old
no_decision_waiting Serves Rests options given pending login new (fails other old is rests unshown after) = waiting_not_login pending Begun old
no_decision_waiting Serves Rests options given pending login new (passes negotiation after decided old none serves so is) = waiting_not_login pending negotiation old
no_decision_waiting Serves Rests options given pending login new (checks other after decided old serves it) = listed_not_waiting other pending (sym old)
no_decision_waiting Serves Rests options given pending login new (finishes other made old rests it ends is) = not_ended made login ends
