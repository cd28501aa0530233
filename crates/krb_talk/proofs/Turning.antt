-- A message of a login in two steps is one of a login.
use Rattle.std.proofs.Common.{◌≡◌, ◌∙◌, ℕ, List, refl, sym, ap, subst}
use Rattle.krb_context.specs.declared.agreed.Options.{Options}
use Rattle.krb_gss.specs.declared.negotiating.Negotiation.{Negotiation}
use Rattle.krb_gss.specs.declared.negotiating.Negotiation.TheVariants.{Begun, Asked, Ended}
use Rattle.krb_login.specs.Carrying.{Carries}
use Rattle.krb_login.specs.declared.carrier.Carrier.{Carrier}
use Rattle.krb_login.specs.declared.carrier.Carrier.TheVariants.{Alone, First, Later}
use Rattle.krb_login.specs.declared.decision.Decision.{Decision as LoginDecision}
use Rattle.krb_login.specs.declared.decision.Decision.TheVariants as decisions
use Rattle.krb_talk.specs.Inner.{AsksFor}
use Rattle.krb_talk.specs.States.{Listing}
use Rattle.krb_talk.specs.Talk.{DecidesAt, Ends, IsListed, IsUnshown, Point, TalksAt, as_decided, lists, fails, passes, checks, finishes}
use Rattle.krb_talk.specs.Talks.{Talk}
use Rattle.krb_talk.specs.Turns.{ConcludesAt, ConcludesEnded, ConcludesLogin, Takes, takes_list, takes_none, is_passed, is_checked, takes_last}
use Rattle.krb_talk.specs.declared.checking.ListFault.TheVariants.{OutOfMemory}
use Rattle.krb_talk.specs.declared.decision.Decision.{Decision}
use Rattle.krb_talk.specs.declared.decision.Decision.TheVariants.{LetIn, Shown, GoOn, Refused, Unshown}
use Rattle.krb_talk.specs.declared.stage.Stage.{Stage}
use Rattle.krb_talk.specs.declared.stage.Stage.TheVariants.{Login}
use Rattle.krb_talk.specs.declared.talk.Turn.{Turn}
use Rattle.krb_talk.specs.declared.talk.Turn.TheVariants.{Decided, Serve}

pub taken : (bytes : List ℕ) (listing : Listing) → IsListed listing bytes → (decision : Decision) (new : Stage) → AsksFor listing decision new
    → Takes bytes (Login Begun) (Decided decision) new
taken bytes listing is (GoOn sent) new it = takes_list listing sent refl is refl it.0 it.1
taken bytes listing is (LetIn login) new it = takes_none listing (LetIn login) refl is refl it.0 it.1
taken bytes listing is (Shown login) new it = takes_none listing (Shown login) refl is refl it.0 it.1
taken bytes listing is (Refused refused) new it = takes_none listing (Refused refused) refl is refl it.0 it.1
taken bytes listing is (Unshown unshown) new it = takes_none listing (Unshown unshown) refl is refl it.0 it.1

pub take_at : (bytes : List ℕ) (turn : Turn) (new old other : Stage) → old ≡ other → Takes bytes other turn new → Takes bytes old turn new
take_at bytes turn new old other is it = subst (λ (s : Stage). Takes bytes s turn new) (sym is) it

pub take_of : (bytes : List ℕ) (turn : Turn) (new : Stage) (old : Talk) (stage : Stage) (options : Options) → record { stage = stage; options = options } ≡ old
    → (taken : Stage) → taken ≡ stage → Takes bytes taken turn new → Takes bytes old.stage turn new
take_of bytes turn new old stage options is taken same it =
    subst (λ (t : Talk). Takes bytes t.stage turn new) is (subst (λ (s : Stage). Takes bytes s turn new) same it)

same_decision : (a b : Decision) → Decided a ≡ Decided b → a ≡ b
same_decision a b e = cc

same_negotiation : (a b : Negotiation) → Serve a ≡ Serve b → a ≡ b
same_negotiation a b e = cc

not_begun : Ended ≡ Begun → ⊥
not_begun e = absurd cc

no_request : (carrier : Carrier) (request bytes : List ℕ) → Carries Ended carrier request bytes → ⊥
no_request Alone request bytes it = it
no_request (First wrapping mechanism) request bytes it = it
no_request (Later mechanism) request bytes it = it

not_served : (a : Decision) (n : Negotiation) → Decided a ≡ Serve n → ⊥
not_served a n e = absurd cc

pub alone : (at : Point) (options : Options) (old new : Stage) (decision : Decision) → Takes at.given.bytes.now old (Decided decision) new
    → TalksAt at options old decision new
alone at options old new decision (takes_list listing sent before is so writes after) =
    lists listing sent before is tt (same_decision decision (GoOn sent) so) writes after
alone at options old new decision (takes_none listing other before is so unshown after) =
    fails listing before is tt (subst (λ (d : Decision). IsUnshown OutOfMemory d) (sym (same_decision decision other so)) unshown) after
alone at options old new decision (is_passed negotiation before none so after) = absurd (not_served decision negotiation so)
alone at options old new decision (is_checked listing before so after) = absurd (not_served decision (Asked listing.mechanism) so)
alone at options old new decision (takes_last pending made other before it so ends after) =
    finishes pending made before tt it (subst (λ (d : Decision). Ends made d) (sym (same_decision decision other so)) ends) after

-- after the end a service refuses each message
ended : (at : Point) (after : Negotiation) (decided : LoginDecision) (decision : Decision) → DecidesAt at Ended after decided → ConcludesEnded decided decision
    → decision ≡ as_decided decided
ended at after (decisions.LetIn login) decision serves it = absurd (no_request serves.0.carrier serves.0.request at.given.bytes.now serves.0.holds)
ended at after (decisions.GoOn bytes) decision serves it = absurd (not_begun serves.0.1.0)
ended at after (decisions.Refused refused) decision serves it = it

after_end : (at : Point) (after : Negotiation) (decided : LoginDecision) → DecidesAt at Ended after decided → after ≡ Ended
after_end at after (decisions.LetIn login) serves = serves.1
after_end at after (decisions.GoOn bytes) serves = absurd (not_begun serves.0.1.0)
after_end at after (decisions.Refused refused) serves = serves.1

concluded : (at : Point) (negotiation after : Negotiation) (decided : LoginDecision) (decision : Decision) (new : Stage) → DecidesAt at negotiation after decided
    → ConcludesLogin negotiation after decided decision new → (decision ≡ as_decided decided) × (new ≡ Login after)
concluded at Begun after decided decision new serves it = it
concluded at (Asked first) after decided decision new serves it = it
concluded at Ended after decided decision new serves it =
    (ended at after decided decision serves it.0, it.1 ∙ ap (λ (n : Negotiation). Login n) (sym (after_end at after decided serves)))

pub served : (at : Point) (options : Options) (old mid new : Stage) (negotiation after : Negotiation) (decided : LoginDecision) (decision : Decision)
    → Takes at.given.bytes.now old (Serve negotiation) mid → DecidesAt at negotiation after decided
    → ConcludesAt mid at.given.bytes.now at.given.confounder.now at.given.choice options after decided decision new → TalksAt at options old decision new
served at options old mid new negotiation after decided decision (takes_list listing sent before is so writes follows) serves it =
    absurd (not_served (GoOn sent) negotiation (sym so))
served at options old mid new negotiation after decided decision (takes_none listing other before is so unshown follows) serves it =
    absurd (not_served other negotiation (sym so))
served at options old mid new negotiation after decided decision (takes_last pending made other before ends so is follows) serves it =
    absurd (not_served other negotiation (sym so))
served at options old mid new negotiation after decided decision (is_passed other before none so follows) serves it =
    let concludes = subst (λ (s : Stage). ConcludesAt s at.given.bytes.now at.given.confounder.now at.given.choice options after decided decision new) follows it in
    let serves = subst (λ (n : Negotiation). DecidesAt at n after decided) (same_negotiation negotiation other so) serves in
    let both = concluded at other after decided decision new serves concludes in
    passes other after decided before none serves both.0 both.1
served at options old mid new negotiation after decided decision (is_checked listing before so follows) serves it =
    checks listing after decided before
    (subst (λ (n : Negotiation). DecidesAt at n after decided) (same_negotiation negotiation (Asked listing.mechanism) so) serves)
    (subst (λ (s : Stage). ConcludesAt s at.given.bytes.now at.given.confounder.now at.given.choice options after decided decision new) follows it)
