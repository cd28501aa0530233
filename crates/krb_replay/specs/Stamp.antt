-- What a service remembers of a request (RFC 4120, section 3.2.3): the server's and the client's
-- name and the time of the authenticator.
use Rattle.std.specs.Prelude.{ℕ, ℤ, List}
use Rattle.krb_name.specs.declared.principal.Principal.{Principal}

-- a name by everything that makes it the same name (RFC 4120, section 6.2): its type doesn't count
pub record RealmAndName : Type 0 where
  pub realm : List ℕ
  pub components : List (List ℕ)

abbrev pub name_of : Principal → RealmAndName
name_of principal = record { realm = principal.realm; components = principal.components }

-- the time is ctime and cusec as one count: microseconds since 1970-01-01T00:00:00Z
pub record Stamp : Type 0 where
  pub server : RealmAndName
  pub client : RealmAndName
  pub time : ℤ
