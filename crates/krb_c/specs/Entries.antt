-- What is returned of files that are kept: the entry of a keytab or the credential of a cache at an
-- index; and the owner of a cache.
use Rattle.std.specs.Prelude.{◌≡◌, ℕ, ℤ, pos, List, [], ◌++◌, Option, Some, None}
use Rattle.std.specs.List.{slice_get}
use Rattle.krb_name.specs.Text.{text_of}
use Rattle.krb_keytab.specs.Entry.{KeytabEntry}
use Rattle.krb_ccache.specs.Offset.{clock_offset}
use Rattle.krb_ccache.specs.Value.{Cache}
use Rattle.krb_ccache.specs.declared.credential.Credential.{Credential}
use Rattle.krb_c.specs.Answer.{Tells, plain}
use Rattle.krb_c.specs.Codes.{empty_handle, no_such_entry}
use Rattle.krb_c.specs.Known.{is_there, span}
use Rattle.krb_c.specs.declared.structs.Answer.{Answer}
use Rattle.krb_c.specs.declared.structs.CacheEntry.{CacheEntry}
use Rattle.krb_c.specs.declared.structs.KeyEntry.{KeyEntry}
use Rattle.krb_c.specs.declared.structs.Owner.{Owner}

-- the handle is empty, so nothing is written
abbrev pub IsEmpty : {Told : Type 0} → Told → Told → List ℕ → List ℕ → Answer → Type 0
IsEmpty was is old new answer = (answer ≡ plain empty_handle) × ((is ≡ was) × (new ≡ old))

-- ---- a keytab's entry: its name's text and its key

abbrev pub entry_bytes : KeytabEntry → List ℕ
entry_bytes x = text_of x.principal ++ x.key

abbrev pub entry_of : KeytabEntry → KeyEntry
entry_of x = record {
  name = span [] (text_of x.principal);
  key = span (text_of x.principal) x.key;
  timestamp = x.timestamp;
  kvno = x.kvno;
  name_type = x.principal.name_type;
  key_type = x.etype;
}

abbrev pub TellsEntry : KeytabEntry → KeyEntry → KeyEntry → List ℕ → List ℕ → Answer → Type 0
TellsEntry x = Tells (entry_bytes x) (entry_of x)

abbrev pub TellsEntryIf : Option KeytabEntry → KeyEntry → KeyEntry → List ℕ → List ℕ → Answer → Type 0
TellsEntryIf None was is old new answer = (answer ≡ plain no_such_entry) × ((is ≡ was) × (new ≡ old))
TellsEntryIf (Some x) was is old new answer = TellsEntry x was is old new answer

-- what the keytab that is kept has at the index; or nothing is kept
abbrev pub ListsEntry : Option (List KeytabEntry) → ℕ → KeyEntry → KeyEntry → List ℕ → List ℕ → Answer → Type 0
ListsEntry None index was is old new answer = IsEmpty was is old new answer
ListsEntry (Some entries) index was is old new answer = TellsEntryIf (slice_get entries index) was is old new answer

-- ---- a cache's credential: its client's and its service's text, its session key and its ticket

abbrev pub credential_bytes : Credential → List ℕ
credential_bytes x = ((text_of x.client ++ text_of x.server) ++ x.key) ++ x.ticket

abbrev pub credential_of : Credential → CacheEntry
credential_of x = record {
  client = span [] (text_of x.client);
  server = span (text_of x.client) (text_of x.server);
  key = span (text_of x.client ++ text_of x.server) x.key;
  ticket = span ((text_of x.client ++ text_of x.server) ++ x.key) x.ticket;
  authtime = x.authtime;
  starttime = x.starttime;
  endtime = x.endtime;
  renew_till = x.renew_till;
  flags = x.ticket_flags;
  client_type = x.client.name_type;
  server_type = x.server.name_type;
  key_type = x.etype;
  is_skey = x.is_skey;
}

abbrev pub TellsCredential : Credential → CacheEntry → CacheEntry → List ℕ → List ℕ → Answer → Type 0
TellsCredential x = Tells (credential_bytes x) (credential_of x)

abbrev pub TellsCredentialIf : Option Credential → CacheEntry → CacheEntry → List ℕ → List ℕ → Answer → Type 0
TellsCredentialIf None was is old new answer = (answer ≡ plain no_such_entry) × ((is ≡ was) × (new ≡ old))
TellsCredentialIf (Some x) was is old new answer = TellsCredential x was is old new answer

-- what the cache that is kept has at the index; or nothing is kept
abbrev pub ListsCredential : Option Cache → ℕ → CacheEntry → CacheEntry → List ℕ → List ℕ → Answer → Type 0
ListsCredential None index was is old new answer = IsEmpty was is old new answer
ListsCredential (Some cache) index was is old new answer = TellsCredentialIf (slice_get cache.credentials index) was is old new answer

-- ---- the owner of a cache, and its KDC's clock offset in seconds and microseconds

abbrev pub seconds_or_zero : Option (ℤ × ℤ) → ℤ
seconds_or_zero (Some offset) = offset.0
seconds_or_zero None = pos 0

abbrev pub micros_or_zero : Option (ℤ × ℤ) → ℤ
micros_or_zero (Some offset) = offset.1
micros_or_zero None = pos 0

abbrev pub owner_of : Cache → Owner
owner_of x = record {
  name = span [] (text_of x.default_principal);
  name_type = x.default_principal.name_type;
  offset_seconds = seconds_or_zero (clock_offset x.header);
  offset_micros = micros_or_zero (clock_offset x.header);
  has_offset = is_there (clock_offset x.header);
}

abbrev pub TellsOwner : Cache → Owner → Owner → List ℕ → List ℕ → Answer → Type 0
TellsOwner x = Tells (text_of x.default_principal) (owner_of x)

abbrev pub ListsOwner : Option Cache → Owner → Owner → List ℕ → List ℕ → Answer → Type 0
ListsOwner None was is old new answer = IsEmpty was is old new answer
ListsOwner (Some cache) was is old new answer = TellsOwner cache was is old new answer
