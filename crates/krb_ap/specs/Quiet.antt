-- The quiet start of a service that was started again and has forgotten what it accepted. RFC 4120,
-- section 3.2.3, asks a service that loses its memory to refuse requests for a while. Moments are
-- microseconds.
use Rattle.std.specs.Prelude.{ℤ, pos, ◌+ℤ◌, ◌<ℤ◌, IfSome}
use Rattle.krb_ap.specs.Setup.{Setup}

-- the moment is later than the start by more than the skew; a service that never ran before has no
-- start to wait for
abbrev pub IsPast : Setup → ℤ → Type 0
IsPast setup moment = IfSome setup.start (λ start. (start +ℤ pos setup.skew) <ℤ moment)

-- both the moment that counts and the client's are past the quiet start; no request of such a time
-- was accepted before, if the start isn't earlier than the moments of the calls before, and the
-- skew isn't smaller
pub record Settled (setup : Setup) (now sent : ℤ) : Type 0 where
  pub now_is : IsPast setup now
  pub sent_is : IsPast setup sent
