-- A keytab and a credential cache as people read them: tables with a head row, then a row for each
-- item, in the order of the file.
use Rattle.std.specs.Prelude.{ℕ, ◌==◌, ℤ, Bool, false, ◌&&◌, nat_lt, List, [], ◌∷◌, ◌++◌, map, Option, Some, None, codes, if◌then◌else◌}
use Rattle.std.specs.Str.{bytes_eq}
use Rattle.std.specs.Fmt.{decimal, signed_decimal}
use Rattle.krb_name.specs.Text.{text_of}
use Rattle.krb_name.specs.declared.principal.Principal.{Principal}
use Rattle.krb_keytab.specs.Entry.{KeytabEntry}
use Rattle.krb_ccache.specs.Offset.{clock_offset}
use Rattle.krb_ccache.specs.Value.{Cache}
use Rattle.krb_ccache.specs.declared.credential.Credential.{Credential}
use Rattle.krb_readable.specs.Table.{TableRow, table_text}
use Rattle.krb_readable.specs.Enctype.{enctype_text}
use Rattle.krb_readable.specs.Date.{date_text}
use Rattle.krb_readable.specs.Flags.{flags_text}

-- ---- keytabs
abbrev pub keytab_head : TableRow
keytab_head = record { cells = codes "KVNO" ∷ codes "ENCTYPE" ∷ codes "TIMESTAMP" ∷ []; last = codes "PRINCIPAL" }

abbrev pub keytab_row : KeytabEntry → TableRow
keytab_row entry = record {
  cells = decimal entry.kvno ∷ enctype_text entry.etype ∷ date_text entry.timestamp ∷ [];
  last = text_of entry.principal;
}

-- what is shown of a keytab
unfoldable pub keytab_table : List KeytabEntry → List ℕ
keytab_table entries = table_text (keytab_head ∷ map keytab_row entries)

-- ---- credential caches

-- the default principal, and the KDC's clock offset if there is one
abbrev pub head_lines : Principal → Option (ℤ × ℤ) → List ℕ
head_lines name None = codes "default " ++ (text_of name ++ 10 ∷ [])
head_lines name (Some offset) =
    codes "default " ++ (text_of name ++ (codes "\noffset " ++ (signed_decimal offset.0 ++ (32 ∷ (signed_decimal offset.1 ++ 10 ∷ [])))))

abbrev pub cache_head : TableRow
cache_head = record {
  cells = codes "KIND" ∷ codes "ENCTYPE" ∷ codes "AUTHTIME" ∷ codes "STARTTIME" ∷ codes "ENDTIME" ∷ codes "RENEW-TILL" ∷ codes "FLAGS" ∷ codes "CLIENT" ∷ [];
  last = codes "SERVER";
}

abbrev pub is_first : List ℕ → List (List ℕ) → Bool
is_first text [] = false
is_first text (first ∷ others) = bytes_eq first text

-- whether the credential is a configuration entry (MIT krb5, "Credential cache file format"), by its
-- server's realm and first component
abbrev pub is_config : Credential → Bool
is_config c = bytes_eq c.server.realm (codes "X-CACHECONF:") && is_first (codes "krb5_ccache_conf_data") c.server.components

-- whether the moment is known, and the time after which the ticket isn't honored (RFC 4120, section
-- 5.3) lies before it
abbrev pub is_expired : Option ℕ → ℕ → Bool
is_expired None endtime = false
is_expired (Some now) endtime = nat_lt endtime now

abbrev pub ticket_kind : Option ℕ → ℕ → List ℕ
ticket_kind now endtime = if is_expired now endtime then codes "expired" else codes "ticket"

-- the date of a time; 0 says that there is none
abbrev pub time_text : ℕ → List ℕ
time_text time = if time == 0 then codes "-" else date_text time

abbrev pub config_row : Credential → TableRow
config_row c = record {
  cells = codes "config" ∷ codes "-" ∷ codes "-" ∷ codes "-" ∷ codes "-" ∷ codes "-" ∷ codes "-" ∷ text_of c.client ∷ [];
  last = text_of c.server;
}

abbrev pub ticket_row : Option ℕ → Credential → TableRow
ticket_row now c = record {
  cells = ticket_kind now c.endtime ∷ enctype_text c.etype ∷ time_text c.authtime ∷ time_text c.starttime ∷ time_text c.endtime
      ∷ time_text c.renew_till ∷ flags_text c.ticket_flags ∷ text_of c.client ∷ [];
  last = text_of c.server;
}

abbrev pub cache_row : Option ℕ → Credential → TableRow
cache_row now c = if is_config c then config_row c else ticket_row now c

-- what is shown of a cache at a moment, in seconds since 1970-01-01, or at none
unfoldable pub cache_table : Option ℕ → Cache → List ℕ
cache_table now cache =
    head_lines cache.default_principal (clock_offset cache.header) ++ table_text (cache_head ∷ map (cache_row now) cache.credentials)
