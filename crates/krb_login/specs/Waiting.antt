-- What is held of a client until a store of stamps has spoken.
use Rattle.std.specs.Prelude.{ℕ, Option}
use Rattle.krb_ap.specs.declared.accepted.Accepted.{Accepted}
use Rattle.krb_replay.specs.Stamp.{Stamp}
use Rattle.krb_login.specs.declared.asked.Asked.{Asked}
use Rattle.krb_login.specs.declared.carrier.Carrier.{Carrier}

-- what is known of the client, what its request asked for and came in, the stamp that the store is asked for, and how much clocks may
-- differ
pub record Waiting : Type 0 where
  pub accepted : Accepted
  pub asked : Option Asked
  pub carrier : Carrier
  pub stamp : Stamp
  pub skew : ℕ
