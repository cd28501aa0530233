-- What was shown isn't accepted again, whatever keytab the service has then.
use Rattle.std.proofs.Common.{List, [], ◌∷◌, inl, inr}
use Rattle.krb_replay.specs.Stamp.{Stamp}
use Rattle.krb_ap.specs.Setup.{Setup, Arrival, as_decided, with_entries}
use Rattle.krb_ap.specs.History.{IsShown}
use Rattle.krb_ap.specs.Answer.{after}
use Rattle.krb_ap.specs.Living.{Step, answers, renews, Lives, TakesInLife, TakesOnceInLife}
use Rattle.krb_ap.specs.Inner.Facts.{Facts}
use Rattle.krb_ap.proofs.Once.{shown_still, shown_then, unshown}
use Rattle.krb_ap.proofs.NewKeytab.{still_shown}

pub not_again : Facts → (setup : Setup) (history : List Arrival) (steps : List Step) (stamp : Stamp)
    → Lives setup history steps → IsShown setup history stamp → ¬ TakesInLife setup steps stamp
not_again facts setup history [] stamp lives shown takes = takes
not_again facts setup history (answers call answer ∷ steps) stamp lives shown (inl here) = unshown facts setup history call answer stamp lives.0 here shown
not_again facts setup history (answers call answer ∷ steps) stamp lives shown (inr later) =
    not_again facts setup (after history call answer) steps stamp lives.1 (shown_still facts setup history call answer stamp shown) later
not_again facts setup history (renews entries ∷ steps) stamp lives shown takes =
    not_again facts (with_entries setup entries) (as_decided setup history) steps stamp lives (still_shown setup entries history stamp shown) takes

pub once : Facts → (setup : Setup) (history : List Arrival) (steps : List Step) → Lives setup history steps → TakesOnceInLife setup steps
once facts setup history [] lives = tt
once facts setup history (answers call answer ∷ steps) lives = (
  λ stamp here. not_again facts setup (after history call answer) steps stamp lives.1 (shown_then facts setup history call answer stamp lives.0 here),
  once facts setup (after history call answer) steps lives.1,
)
once facts setup history (renews entries ∷ steps) lives = once facts (with_entries setup entries) (as_decided setup history) steps lives
