-- The lines that are added for the entries of a name.
use Rattle.std.specs.Prelude.{◌≡◌, ℕ, List, ◌++◌, map}
use Rattle.krb_name.specs.declared.principal.Principal.{Principal}
use Rattle.krb_keytab.specs.Entry.{KeytabEntry}
use Rattle.krb_keytab.specs.Only.{KeepsOnly}
use Rattle.krb_explain_keys.specs.Choice.{there_line}

pub record AddsEntries (service : Principal) (entries : List KeytabEntry) (old new : List (List ℕ)) : Type 0 where
  pub named : List KeytabEntry
  pub named_are : KeepsOnly service entries named
  pub new_is : new ≡ old ++ map there_line named
