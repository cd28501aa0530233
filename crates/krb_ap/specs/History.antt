-- What a service was given before, newest first. Calls that were answered with out of memory are
-- left out.
use Rattle.std.specs.Prelude.{◌≡◌, ◌⊎◌, ℕ, ℤ, List, [], ◌∷◌, Option, Some, None, IfSome}
use Rattle.krb_der.specs.Kind.{ValueOf}
use Rattle.krb_msg.specs.Module.{ap_req, enc_ticket_part, authenticator}
use Rattle.krb_replay.specs.Stamp.{Stamp}
use Rattle.krb_replay.specs.Memory.{later_of, IsRecent}
use Rattle.krb_ap.specs.Setup.{Setup, Arrival, setup_for}
use Rattle.krb_ap.specs.Opened.{OpenedAs, sent_at, stamp_of}
use Rattle.krb_ap.specs.Times.{Near}

-- the latest moment that was given
abbrev pub greatest : List Arrival → Option ℤ
greatest [] = None
greatest (a ∷ history) = Some (later_of (greatest history) a.moment)

-- the moment that counts for a call: time doesn't go back
abbrev pub effective : List Arrival → ℤ → ℤ
effective history moment = later_of (greatest history) moment

-- at a moment that counts, the bytes are opened as a request of this stamp whose own moment is near
pub record Shows (setup : Setup) (now : ℤ) (bytes : List ℕ) (stamp : Stamp) : Type 0 where
  pub request : ValueOf ap_req
  pub part : ValueOf enc_ticket_part
  pub auth : ValueOf authenticator
  pub opened : OpenedAs setup bytes request part auth
  pub near : Near (sent_at auth) now setup.skew
  pub stamp_is : stamp ≡ stamp_of request part auth

-- some call of the history showed this stamp, by the keytab that it was decided by
abbrev pub IsShown : Setup → List Arrival → Stamp → Type 0
IsShown setup [] stamp = ⊥
IsShown setup (a ∷ history) stamp = Shows (setup_for setup a) (effective history a.moment) a.bytes stamp ⊎ IsShown setup history stamp

-- a stamp's moment isn't before the latest moment less the skew
abbrev pub IsStillRecent : Setup → List Arrival → Stamp → Type 0
IsStillRecent setup history stamp = IfSome (greatest history) (λ now. IsRecent now setup.skew stamp)

-- shown, and still recent
abbrev pub IsShownLately : Setup → List Arrival → Stamp → Type 0
IsShownLately setup history stamp = IsShown setup history stamp × IsStillRecent setup history stamp

-- A memory (which stamps it has, and its latest moment) stands for a history if its latest moment
-- is that of the history, it has only what was shown, and it has everything shown that is recent.
pub record StandsFor (setup : Setup) (Has : Stamp → Type 0) (latest : Option ℤ) (history : List Arrival) : Type 0 where
  pub latest_is : latest ≡ greatest history
  pub only : (stamp : Stamp) → Has stamp → IsShown setup history stamp
  pub all : (stamp : Stamp) → IsShown setup history stamp → IsStillRecent setup history stamp → Has stamp
