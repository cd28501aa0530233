-- The items of a file, as a reader gives them one at a time, and what holds of those that it has given.
use Rattle.std.specs.Prelude.{◌≡◌, ℕ, List, [], length, Option}
use Rattle.std.specs.Io.KnownBytes.{Consumes}
use Rattle.krb_ccache.specs.Reader as cache
use Rattle.krb_ccache.specs.Value.{Cache, cache_of}
use Rattle.krb_keytab.specs.Entry.{KeytabEntry}
use Rattle.krb_keytab.specs.Items.{EntriesRead, HasRead}
use Rattle.krb_file.specs.File.{GivesWithin}
use Rattle.krb_file_commands.specs.Lines.{keytab_lines, cache_lines}

-- a reader of a keytab has given entries of which this holds
pub record EntriesGiven {S : Type 0} (from to : Option (List ℕ)) (reader : EntriesRead S) (Holds : List KeytabEntry → Type 0) : Type 0 where
  pub bytes : List ℕ
  pub entries : List KeytabEntry
  pub taken : Consumes from to bytes
  pub read : HasRead to reader bytes entries
  pub holds : Holds entries

-- so many
abbrev pub EntriesCounted : {S : Type 0} → Option (List ℕ) → Option (List ℕ) → EntriesRead S → ℕ → Type 0
EntriesCounted from to reader count = EntriesGiven from to reader (λ entries. count ≡ length entries)

-- those of these lines
abbrev pub EntriesListed : {S : Type 0} → Option (List ℕ) → Option (List ℕ) → EntriesRead S → List ℕ → Type 0
EntriesListed from to reader lines = EntriesGiven from to reader (λ entries. lines ≡ keytab_lines entries)

-- a reader of a cache has given credentials, and this holds of the cache of these alone
pub record CredentialsGiven {S : Type 0} (left : S → Option (List ℕ)) (from : Option (List ℕ)) (reader : cache.Reading S) (Holds : Cache → Type 0) : Type 0 where
  pub cache_read : Cache
  pub read : cache.HasRead left from reader cache_read
  pub gave : GivesWithin from (left reader.source) 0 reader.given
  pub holds : Holds cache_read

abbrev pub CredentialsCounted : {S : Type 0} → (S → Option (List ℕ)) → Option (List ℕ) → cache.Reading S → ℕ → Type 0
CredentialsCounted left from reader count = CredentialsGiven left from reader (λ value. count ≡ length value.credentials)

abbrev pub CredentialsListed : {S : Type 0} → (S → Option (List ℕ)) → Option (List ℕ) → cache.Reading S → List ℕ → Type 0
CredentialsListed left from reader lines = CredentialsGiven left from reader (λ value. lines ≡ cache_lines value)

-- a reader was opened on a source that had these bytes to come, and has given no credential
pub record IsOpened {S : Type 0} (left : S → Option (List ℕ)) (from : Option (List ℕ)) (reader : cache.Reading S) : Type 0 where
  pub read : cache.HasRead left from reader (cache_of reader.header reader.default_principal [])
  pub gave : GivesWithin from (left reader.source) 0 reader.given
