-- The entries of one name.
use Rattle.std.specs.Prelude.{List}
use Rattle.krb_name.specs.declared.principal.Principal.{Principal}
use Rattle.krb_name.specs.Named.{KeepsNamed}
use Rattle.krb_keytab.specs.Entry.{KeytabEntry}

-- `kept` has exactly the entries of this name, in their order
abbrev pub KeepsOnly : Principal → List KeytabEntry → List KeytabEntry → Type 0
KeepsOnly name entries kept = KeepsNamed (λ entry. entry.principal) name entries kept
