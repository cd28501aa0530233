-- Which keys count, and what is chosen where an entry is there that can't be taken.
use Rattle.std.specs.Prelude.{◌<◌}
use Rattle.krb_keytab.specs.Entry.{KeytabEntry}
use Rattle.krb_keytab.specs.Pick.{Choice, IsAnyKey, chosen, no_name, no_key, no_version}
use Rattle.krb_keytab.specs.Usable.{IsUsable}
use Rattle.krb_keytab.specs.declared.usable.Counted.{Counted}
use Rattle.krb_keytab.specs.declared.usable.Counted.TheVariants.{Usable, Any}

abbrev pub Counts : Counted → KeytabEntry → Type 0
Counts Usable = IsUsable
Counts Any = IsAnyKey

abbrev pub or_no_key : Choice → Choice
or_no_key no_name = no_key
or_no_key other = other

abbrev pub or_no_version : Choice → Choice
or_no_version no_name = no_version
or_no_version no_key = no_version
or_no_version other = other

-- what was chosen has a lower version number, or nothing was
abbrev pub IsBelow : Choice → KeytabEntry → Type 0
IsBelow (chosen best) e = best.kvno < e.kvno
IsBelow _ e = Unit {0}
