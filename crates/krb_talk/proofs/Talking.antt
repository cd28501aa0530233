-- What one message of a login leads to.
use Rattle.std.proofs.Common.{◌≡◌, refl, sym, subst}
use Rattle.krb_ap.specs.declared.reply.ReplyOptions.{ReplyOptions}
use Rattle.krb_context.specs.declared.agreed.Options.{Options}
use Rattle.krb_gss.specs.declared.negotiating.Negotiation.{Negotiation}
use Rattle.krb_gss.specs.declared.negotiating.Negotiation.TheVariants.{Begun, Asked}
use Rattle.krb_login.specs.declared.decision.Decision.{Decision as LoginDecision}
use Rattle.krb_login.specs.declared.decision.Decision.TheVariants as decisions
use Rattle.krb_login.specs.declared.service.Given.{Given}
use Rattle.krb_talk.specs.Inner.{AsksFor, Passes}
use Rattle.krb_talk.specs.States.{Listing}
use Rattle.krb_talk.specs.Talk.{Concludes, ConcludesBy, IsListed, Talks, lists, fails, passes, checks, finishes}
use Rattle.krb_talk.specs.Talks.{Talk}
use Rattle.krb_talk.specs.declared.decision.Decision.{Decision}
use Rattle.krb_talk.specs.declared.decision.Decision.TheVariants.{LetIn, Shown, GoOn, Refused, Unshown}
use Rattle.krb_talk.specs.declared.stage.Stage.{Stage}
use Rattle.krb_talk.specs.declared.stage.Stage.TheVariants.{Login, Listed}

module _ (Serves : Negotiation → Negotiation → LoginDecision → Type 0) (Rests : Type 0) (options : Options) (given : Given) (decision : Decision) (new : Stage)
  where
    pub at_stage : (old other : Stage) → old ≡ other → Talks Serves Rests options given other decision new → Talks Serves Rests options given old decision new
    at_stage old other is it = subst (λ (s : Stage). Talks Serves Rests options given s decision new) (sym is) it

    pub passed : (negotiation : Negotiation) → (negotiation ≡ Begun → (listing : Listing) → IsListed listing given.bytes.now → ⊥)
        → Passes Serves negotiation decision new → Talks Serves Rests options given (Login negotiation) decision new
    passed negotiation none it = passes negotiation it.after it.decided refl none it.serves it.decision_is it.new_is

    concludes : (listing : Listing) (decided : LoginDecision)
        → ConcludesBy listing given.bytes.now given.confounder.now given.choice options decided decision new
        → Concludes listing options given decided decision new
    concludes listing (decisions.LetIn login) it = it
    concludes listing (decisions.GoOn bytes) it = it
    concludes listing (decisions.Refused refused) it = it

    pub concluded : (listing : Listing) (after negotiation : Negotiation) (decided : LoginDecision) (choice : ReplyOptions)
        → negotiation ≡ Asked listing.mechanism → choice ≡ given.choice → Serves negotiation after decided
        → ConcludesBy listing given.bytes.now given.confounder.now choice options decided decision new
        → Talks Serves Rests options given (Listed listing) decision new
    concluded listing after negotiation decided choice asked same serves it =
        checks listing after decided refl (subst (λ (n : Negotiation). Serves n after decided) asked serves)
        (concludes listing decided (subst (λ (c : ReplyOptions). ConcludesBy listing given.bytes.now given.confounder.now c options decided decision new) same it))

pub asked : (Serves : Negotiation → Negotiation → LoginDecision → Type 0) (Rests : Type 0) (options : Options) (given : Given) (decision : Decision) (new : Stage)
    (listing : Listing) → IsListed listing given.bytes.now → Rests → AsksFor listing decision new
    → Talks Serves Rests options given (Login Begun) decision new
asked Serves Rests options given (GoOn sent) new listing is rests it = lists listing sent refl is rests refl it.0 it.1
asked Serves Rests options given (LetIn login) new listing is rests it = fails listing refl is rests it.0 it.1
asked Serves Rests options given (Shown login) new listing is rests it = fails listing refl is rests it.0 it.1
asked Serves Rests options given (Refused refused) new listing is rests it = fails listing refl is rests it.0 it.1
asked Serves Rests options given (Unshown unshown) new listing is rests it = fails listing refl is rests it.0 it.1

pub of_talk : (Serves : Negotiation → Negotiation → LoginDecision → Type 0) (Rests : Type 0) (given : Given) (decision : Decision) (new : Stage)
    (old : Talk) (stage : Stage) (options : Options) → record { stage = stage; options = options } ≡ old → (taken : Stage) → taken ≡ stage
    → Talks Serves Rests options given taken decision new → Talks Serves Rests old.options given old.stage decision new
of_talk Serves Rests given decision new old stage options is taken same it =
    subst (λ (t : Talk). Talks Serves Rests t.options given t.stage decision new) is
    (subst (λ (s : Stage). Talks Serves Rests options given s decision new) same it)

-- the same, if less is said of the service
pub of_less : (Serves Other : Negotiation → Negotiation → LoginDecision → Type 0) (Rests : Type 0) (options : Options) (given : Given) (decision : Decision)
    (old new : Stage) → ((negotiation after : Negotiation) (decided : LoginDecision) → Serves negotiation after decided → Other negotiation after decided)
    → Talks Serves Rests options given old decision new → Talks Other (Unit {0}) options given old decision new
of_less Serves Other Rests options given decision old new less (lists listing sent before is rests so writes after) = lists listing sent before is tt so writes after
of_less Serves Other Rests options given decision old new less (fails listing before is rests unshown after) = fails listing before is tt unshown after
of_less Serves Other Rests options given decision old new less (passes negotiation after decided before none serves so is) =
    passes negotiation after decided before none (less negotiation after decided serves) so is
of_less Serves Other Rests options given decision old new less (checks listing after decided before serves it) =
    checks listing after decided before (less (Asked listing.mechanism) after decided serves) it
of_less Serves Other Rests options given decision old new less (finishes pending made before rests it ends is) = finishes pending made before tt it ends is
