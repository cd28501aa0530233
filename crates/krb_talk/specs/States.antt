-- What a service holds of a client while its list of mechanisms isn't checked yet.
use Rattle.std.specs.Prelude.{ℕ, List}
use Rattle.krb_ap.specs.declared.accepted.Accepted.{Accepted}
use Rattle.krb_context.specs.Context.{State}
use Rattle.krb_gss.specs.declared.mechanism.Mechanism.{Mechanism}

-- the list that the client sent, which names Kerberos after another mechanism, and first by this name
pub record Listing : Type 0 where
  pub mechanism : Mechanism
  pub list : List ℕ

-- what is known of a client whose request is accepted, its list, and the service's side of the context
pub record Pending : Type 0 where
  pub accepted : Accepted
  pub list : List ℕ
  pub context : State
