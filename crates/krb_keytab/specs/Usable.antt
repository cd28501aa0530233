-- Which keys are usable.
use Rattle.krb_kdf.specs.BaseKey.{IsUsableKey}
use Rattle.krb_keytab.specs.Entry.{KeytabEntry}

-- the key is one of its encryption type
abbrev pub IsUsable : KeytabEntry → Type 0
IsUsable entry = IsUsableKey entry.etype entry.key
