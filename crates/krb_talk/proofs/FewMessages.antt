-- A login takes three messages at most.
use Rattle.std.proofs.Common.{◌≡◌, ◌<◌, ◌∙◌, ℕ, Result, Ok, Err, Vec, sym, ap, subst, arith}
use Rattle.std.specs.declared.alloc.Global.{Global}
use Rattle.krb_context.specs.declared.agreed.Options.{Options}
use Rattle.krb_gss.specs.declared.negotiating.Negotiation.{Negotiation}
use Rattle.krb_gss.specs.declared.negotiating.Negotiation.TheVariants.{Begun, Asked, Ended}
use Rattle.krb_login.specs.declared.decision.Decision.{Decision as LoginDecision}
use Rattle.krb_login.specs.declared.decision.Decision.TheVariants as decisions
use Rattle.krb_login.specs.declared.decision.LetIn.{LetIn as LetInValue}
use Rattle.krb_login.specs.declared.decision.Refused.{Refused as LoginRefused}
use Rattle.krb_talk.specs.Laws.{IsGoOn}
use Rattle.krb_talk.specs.States.{Listing}
use Rattle.krb_talk.specs.Talk.{Concludes, DecidesAt, Leads, Point, TalksAt, as_decided, messages_left, lists, fails, passes, checks, finishes}
use Rattle.krb_talk.specs.declared.checking.Admitted.{Admitted}
use Rattle.krb_talk.specs.declared.checking.Checking.{Checking}
use Rattle.krb_talk.specs.declared.checking.Checking.TheVariants as checked
use Rattle.krb_talk.specs.declared.checking.ListFault.{ListFault}
use Rattle.krb_talk.specs.declared.decision.Decision.{Decision}
use Rattle.krb_talk.specs.declared.decision.Decision.TheVariants.{LetIn, Shown, GoOn, Refused}
use Rattle.krb_talk.specs.declared.stage.Stage.{Stage}
use Rattle.krb_talk.specs.declared.stage.Stage.TheVariants.{Login, Listed, Waiting}

go_on_not_in : (sent : Vec ℕ Global) (login : LetInValue) → GoOn sent ≡ LetIn login → ⊥
go_on_not_in sent login e = absurd cc

go_on_not_refused : (sent : Vec ℕ Global) (refused : LoginRefused) → GoOn sent ≡ Refused refused → ⊥
go_on_not_refused sent refused e = absurd cc

go_on_not_shown : (sent : Vec ℕ Global) (login : Admitted) → GoOn sent ≡ Shown login → ⊥
go_on_not_shown sent login e = absurd cc

less : (old new one other : Stage) → old ≡ one → new ≡ other → messages_left other < messages_left one → messages_left new < messages_left old
less old new one other before after it =
    subst (λ (s : Stage). messages_left new < messages_left s) (sym before) (subst (λ (s : Stage). messages_left s < messages_left one) (sym after) it)

passed_less : (at : Point) (old new : Stage) (sent : Vec ℕ Global) (negotiation after : Negotiation) (decided : LoginDecision) → old ≡ Login negotiation
    → DecidesAt at negotiation after decided → GoOn sent ≡ as_decided decided → new ≡ Login after → messages_left new < messages_left old
passed_less at old new sent negotiation after (decisions.LetIn login) before serves is follows = absurd (go_on_not_in sent login is)
passed_less at old new sent negotiation after (decisions.Refused refused) before serves is follows = absurd (go_on_not_refused sent refused is)
passed_less at old new sent negotiation after (decisions.GoOn bytes) before serves is follows =
    less old new (Login Begun) (Login (Asked serves.1.0)) (before ∙ ap (λ (n : Negotiation). Login n) serves.0.1.0)
    (follows ∙ ap (λ (n : Negotiation). Login n) serves.1.1.1) (omega arith)

led_less : (listing : Listing) (old new : Stage) (sent : Vec ℕ Global) (made : Result Checking ListFault) → old ≡ Listed listing → Leads made (GoOn sent) new
    → messages_left new < messages_left old
led_less listing old new sent (Ok (checked.Shown login)) before leads = absurd (go_on_not_shown sent login leads.0)
led_less listing old new sent (Ok (checked.Waits pending other)) before leads = less old new (Listed listing) (Waiting pending) before leads.1 (omega arith)
led_less listing old new sent (Err fault) before leads = absurd leads.0

concluded_less : (at : Point) (options : Options) (listing : Listing) (old new : Stage) (sent : Vec ℕ Global) (decided : LoginDecision) → old ≡ Listed listing
    → Concludes listing options at.given decided (GoOn sent) new → messages_left new < messages_left old
concluded_less at options listing old new sent (decisions.LetIn login) before it = led_less listing old new sent it.0 before it.2
concluded_less at options listing old new sent (decisions.GoOn bytes) before it = less old new (Listed listing) (Login Ended) before it.1 (omega arith)
concluded_less at options listing old new sent (decisions.Refused refused) before it = less old new (Listed listing) (Login Ended) before it.1 (omega arith)

pub fewer : (at : Point) (options : Options) (old new : Stage) (sent : Vec ℕ Global) → TalksAt at options old (GoOn sent) new
    → messages_left new < messages_left old
fewer at options old new sent (lists listing other before is rests so writes after) = less old new (Login Begun) (Listed listing) before after (omega arith)
fewer at options old new sent (fails listing before is rests unshown after) = absurd unshown
fewer at options old new sent (passes negotiation after decided before none serves so is) = passed_less at old new sent negotiation after decided before serves so is
fewer at options old new sent (checks listing after decided before serves it) = concluded_less at options listing old new sent decided before it
fewer at options old new sent (finishes pending made before rests it ends is) = less old new (Waiting pending) (Login Ended) before is (omega arith)

goes_on : (decision : Decision) (sent : Vec ℕ Global) → decision ≡ GoOn sent → IsGoOn decision
goes_on decision sent is = subst IsGoOn (sym is) tt

passed_over : (at : Point) (new : Stage) (decision : Decision) (negotiation after : Negotiation) (decided : LoginDecision)
    → DecidesAt at negotiation after decided → decision ≡ as_decided decided → new ≡ Login after → (IsGoOn decision → ⊥) → new ≡ Login Ended
passed_over at new decision negotiation after (decisions.LetIn login) serves is follows none = follows ∙ ap (λ (n : Negotiation). Login n) serves.1
passed_over at new decision negotiation after (decisions.GoOn bytes) serves is follows none = absurd (none (goes_on decision bytes is))
passed_over at new decision negotiation after (decisions.Refused refused) serves is follows none = follows ∙ ap (λ (n : Negotiation). Login n) serves.1

led_over : (new : Stage) (decision : Decision) (made : Result Checking ListFault) → Leads made decision new → (IsGoOn decision → ⊥) → new ≡ Login Ended
led_over new decision (Ok (checked.Shown login)) leads none = leads.1
led_over new decision (Ok (checked.Waits pending sent)) leads none = absurd (none (goes_on decision sent leads.0))
led_over new decision (Err fault) leads none = leads.1

concluded_over : (at : Point) (options : Options) (listing : Listing) (new : Stage) (decision : Decision) (decided : LoginDecision)
    → Concludes listing options at.given decided decision new → (IsGoOn decision → ⊥) → new ≡ Login Ended
concluded_over at options listing new decision (decisions.LetIn login) it none = led_over new decision it.0 it.2 none
concluded_over at options listing new decision (decisions.GoOn bytes) it none = it.1
concluded_over at options listing new decision (decisions.Refused refused) it none = it.1

pub over : (at : Point) (options : Options) (old new : Stage) (decision : Decision) → TalksAt at options old decision new → (IsGoOn decision → ⊥)
    → new ≡ Login Ended
over at options old new decision (lists listing sent before is rests so writes after) none = absurd (none (goes_on decision sent so))
over at options old new decision (fails listing before is rests unshown after) none = after
over at options old new decision (passes negotiation after decided before absent serves so is) none =
    passed_over at new decision negotiation after decided serves so is none
over at options old new decision (checks listing after decided before serves it) none = concluded_over at options listing new decision decided it none
over at options old new decision (finishes pending made before rests it ends is) none = is
