-- No service accepts two requests of the same stamp.
use Rattle.std.specs.Prelude.{◌≡◌, ◌⊎◌, ℕ, List, ◌∷◌, Result, Ok, Err}
use Rattle.krb_der.specs.Kind.{ValueOf}
use Rattle.krb_msg.specs.Module.{ap_req, enc_ticket_part, authenticator}
use Rattle.krb_replay.specs.Stamp.{Stamp}
use Rattle.krb_ap.specs.Setup.{Setup, Arrival}
use Rattle.krb_ap.specs.Opened.{OpenedAs, stamp_of}
use Rattle.krb_ap.specs.declared.accepted.Accepted.{Accepted}
use Rattle.krb_ap.specs.declared.refusal.Refusal.{Refusal}

-- the bytes are opened as a request of this stamp
pub record HasStamp (setup : Setup) (bytes : List ℕ) (stamp : Stamp) : Type 0 where
  pub request : ValueOf ap_req
  pub part : ValueOf enc_ticket_part
  pub auth : ValueOf authenticator
  pub opened : OpenedAs setup bytes request part auth
  pub stamp_is : stamp ≡ stamp_of request part auth

-- a request of this stamp was accepted by this call
abbrev pub Takes : Setup → Arrival → Result Accepted Refusal → Stamp → Type 0
Takes setup call (Ok accepted) stamp = HasStamp setup call.bytes stamp
Takes setup call (Err refusal) stamp = ⊥

-- or by one of these calls
abbrev pub TakesAmong : Setup → List Arrival → List (Result Accepted Refusal) → Stamp → Type 0
TakesAmong setup (call ∷ calls) (answer ∷ answers) stamp = Takes setup call answer stamp ⊎ TakesAmong setup calls answers stamp
TakesAmong setup _ _ stamp = ⊥

-- no stamp is accepted by two of these calls
abbrev pub TakesOnce : Setup → List Arrival → List (Result Accepted Refusal) → Type 0
TakesOnce setup (call ∷ calls) (answer ∷ answers) =
    ((stamp : Stamp) → Takes setup call answer stamp → ¬ TakesAmong setup calls answers stamp) × TakesOnce setup calls answers
TakesOnce setup _ _ = Unit {0}
