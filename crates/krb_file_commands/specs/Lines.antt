-- The lines that the commands print. Each ends in the byte 10, and its words have the byte 32 between them.
use Rattle.std.specs.Prelude.{List, [], ◌∷◌, ◌++◌, ℕ, Bool, codes, if◌then◌else◌}
use Rattle.std.specs.Int.{w32}
use Rattle.std.specs.List.{flat_map}
use Rattle.std.specs.Fmt.{decimal, signed_decimal}
use Rattle.hex.specs.Hex.{encode_lower}
use Rattle.krb_file.specs.Cursor.{number_bytes}
use Rattle.krb_name.specs.Text.{text_of}
use Rattle.krb_keytab.specs.Entry.{KeytabEntry}
use Rattle.krb_ccache.specs.Offset.{clock_offset}
use Rattle.krb_ccache.specs.Value.{Cache}
use Rattle.krb_ccache.specs.declared.credential.Credential.{Credential}
use Rattle.krb_readable.specs.Readable.{cache_table, head_lines, is_config, keytab_table}
use Rattle.krb_file_commands.specs.declared.listing.CacheListing.{CacheListing}
use Rattle.krb_file_commands.specs.declared.listing.CacheListing.TheVariants.{Lines, Table}

-- key version number, enctype, timestamp and principal
abbrev pub keytab_line : KeytabEntry → List ℕ
keytab_line entry =
    decimal entry.kvno ++ (32 ∷ (signed_decimal entry.etype ++ (32 ∷ (decimal entry.timestamp ++ (32 ∷ (text_of entry.principal ++ 10 ∷ []))))))

-- what list-keytab prints: a line for each entry, in their order
abbrev pub keytab_lines : List KeytabEntry → List ℕ
keytab_lines entries = flat_map keytab_line entries

-- or a table for people
abbrev pub keytab_listing : Bool → List KeytabEntry → List ℕ
keytab_listing readable entries = if readable then keytab_table entries else keytab_lines entries

-- what a check prints of so many entries or credentials
abbrev pub ok_line : ℕ → List ℕ
ok_line count = codes "ok " ++ (decimal count ++ 10 ∷ [])

-- ---- list-ccache

abbrev pub config_line : Credential → List ℕ
config_line c = codes "config " ++ (text_of c.server ++ 10 ∷ [])

-- authtime, starttime, endtime and renew_till
abbrev pub times_of : Credential → List ℕ
times_of c = decimal c.authtime ++ (32 ∷ (decimal c.starttime ++ (32 ∷ (decimal c.endtime ++ (32 ∷ decimal c.renew_till)))))

-- client and server
abbrev pub names_of : Credential → List ℕ
names_of c = text_of c.client ++ (32 ∷ text_of c.server)

-- enctype, times, flags in hexadecimal, and names
abbrev pub ticket_line : Credential → List ℕ
ticket_line c =
    codes "ticket " ++ (signed_decimal c.etype ++ (32 ∷ (times_of c ++ (32 ∷ (encode_lower (number_bytes w32 c.ticket_flags)
    ++ (32 ∷ (names_of c ++ 10 ∷ [])))))))

abbrev pub credential_line : Credential → List ℕ
credential_line c = if is_config c then config_line c else ticket_line c

-- what list-ccache prints: the default principal, the KDC's clock offset if the header has one, and a line for each credential, in
-- their order
abbrev pub cache_lines : Cache → List ℕ
cache_lines cache = head_lines cache.default_principal (clock_offset cache.header) ++ flat_map credential_line cache.credentials

-- these lines, or a table for people
abbrev pub cache_listing : CacheListing → Cache → List ℕ
cache_listing Lines cache = cache_lines cache
cache_listing (Table now) cache = cache_table now cache
