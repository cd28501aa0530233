-- What holds of the items that a reader gives, one at a time, holds of the file.
use Rattle.std.proofs.Common.{◌≡◌, ℕ, ◌+◌, ◌≤◌, Bool, true, false, List, [], ◌∷◌, ◌++◌, length, Option, Some, None, Result, Ok, Err, refl, sym, ap, subst, ◌∙◌, arith}
use Rattle.std.specs.Prelude.{◌≢◌, IfSome}
use Rattle.std.specs.Io.KnownBytes.{Consumes}
use Rattle.std.proofs.KnownBytes.{Consumes-trans}
use Rattle.std.proofs.lemmas.List.{length-append, flat_map_more}
use Rattle.krb_keytab.specs.Entry.{KeytabEntry}
use Rattle.krb_keytab.specs.Format.{IsKeytab}
use Rattle.krb_keytab.specs.Format as keytab
use Rattle.krb_keytab.specs.Items.{EntriesRead, HasRead, StandsTo, passed, entries_after}
use Rattle.krb_keytab.specs.declared.fault.KeytabFault.{KeytabFault}
use Rattle.krb_keytab.specs.declared.fault.KeytabFault.TheVariants as of_keytab
use Rattle.krb_keytab.specs.declared.stage.Stage.{Stage}
use Rattle.krb_keytab.specs.declared.stage.Stage.TheVariants.{End, Failed}
use Rattle.krb_ccache.specs.Format as cache
use Rattle.krb_ccache.specs.Offset.{clock_offset}
use Rattle.krb_ccache.specs.Reader as reads
use Rattle.krb_file.specs.File.{file_limit, IsGiven, TakesFile, GivesWithin}
use Rattle.krb_ccache.specs.Value.{Cache}
use Rattle.krb_ccache.specs.declared.credential.Credential.{Credential}
use Rattle.krb_ccache.specs.declared.fault.CacheFault.{CacheFault}
use Rattle.krb_file_commands.specs.Engine.{OfFile}
use Rattle.krb_file_commands.specs.Lines.{keytab_line, keytab_lines, credential_line, cache_lines}
use Rattle.krb_readable.specs.Readable.{head_lines}
use Rattle.krb_file_commands.specs.Inner.Walk.{EntriesGiven, EntriesCounted, EntriesListed, CredentialsGiven, CredentialsCounted, CredentialsListed}
use Rattle.krb_file.proofs.FileLaws.{gives_then, takes_file}

-- ---- a keytab

-- what a reader answers that passes the entries
abbrev pub Reads : {S : Type 0} → Option (List ℕ) → Option (List ℕ) → EntriesRead S → EntriesRead S → Result Bool KeytabFault → Type 0
Reads mid to old new result = (bytes : List ℕ) (entries : List KeytabEntry) → HasRead mid old bytes entries
    → (answer : Result (Option KeytabEntry) KeytabFault) × (result ≡ passed answer) × (piece : List ℕ) × Consumes mid to piece × HasRead to new (bytes ++ piece) (entries_after entries answer)

-- the entry that was passed
entry_passed : (answer : Result (Option KeytabEntry) KeytabFault) → Ok true ≡ passed answer → (entry : KeytabEntry) × ((entries : List KeytabEntry) → entries_after entries answer ≡ entries ++ entry ∷ [])
entry_passed (Ok (Some entry)) is = (entry, λ entries. refl)
entry_passed (Ok None) is = absurd cc
entry_passed (Err fault) is = absurd cc

none_passed : (answer : Result (Option KeytabEntry) KeytabFault) (entries : List KeytabEntry) → (Ok true ≡ passed answer → ⊥) → entries_after entries answer ≡ entries
none_passed (Ok (Some entry)) entries differs = absurd (differs refl)
none_passed (Ok None) entries differs = refl
none_passed (Err fault) entries differs = refl

-- what its last answers say of the file
abbrev pub EndTells : Type 0
EndTells = (whole bytes : List ℕ) (left : Option (List ℕ)) (held : ℕ) (entries : List KeytabEntry) → Consumes (Some whole) left bytes → StandsTo left held End bytes entries → IsKeytab whole entries

abbrev pub FaultTells : Type 0
FaultTells = (whole bytes : List ℕ) (left : Option (List ℕ)) (held : ℕ) (entries : List KeytabEntry) (fault : KeytabFault) → fault ≢ of_keytab.Read → fault ≢ of_keytab.OutOfMemory → Consumes (Some whole) left bytes
    → StandsTo left held (Failed fault) bytes entries → keytab.IsFaultOf whole fault

-- what a reader answers that returns an entry
abbrev pub Gives : {S : Type 0} → Option (List ℕ) → Option (List ℕ) → EntriesRead S → EntriesRead S → Result (Option KeytabEntry) KeytabFault → Type 0
Gives mid to old new answer = (bytes : List ℕ) (entries : List KeytabEntry) → HasRead mid old bytes entries
    → (piece : List ℕ) × Consumes mid to piece × HasRead to new (bytes ++ piece) (entries_after entries answer)

module _ {S : Type 0} where
  pub gives_reads : (mid to : Option (List ℕ)) (old new : EntriesRead S) (answer : Result (Option KeytabEntry) KeytabFault) → Gives mid to old new answer → Reads mid to old new (passed answer)
  gives_reads mid to old new answer gives = λ bytes entries read. let r = gives bytes entries read in (answer, refl, r.0, r.1, r.2)

  one_more : (from mid to : Option (List ℕ)) (old new : EntriesRead S) (Holds Also : List KeytabEntry → Type 0) (entry : KeytabEntry) (c : EntriesGiven from mid old Holds)
      → (piece : List ℕ) × Consumes mid to piece × HasRead to new (c.bytes ++ piece) (c.entries ++ entry ∷ []) → Also (c.entries ++ entry ∷ []) → EntriesGiven from to new Also
  one_more from mid to old new Holds Also entry c r also = record {
    bytes = c.bytes ++ r.0;
    entries = c.entries ++ entry ∷ [];
    taken = Consumes-trans from mid to c.bytes r.0 c.taken r.1;
    read = r.2;
    holds = also;
  }

  pub one_counted : (from mid to : Option (List ℕ)) (old new : EntriesRead S) (count : ℕ) → EntriesCounted from mid old count → Reads mid to old new (Ok true) → EntriesCounted from to new (count + 1)
  one_counted from mid to old new count c reads =
      let r = reads c.bytes c.entries c.read in
      let one = entry_passed r.0 r.1 in
      one_more from mid to old new (λ entries. count ≡ length entries) (λ entries. count + 1 ≡ length entries) one.0 c
      (r.2, r.3, subst (HasRead to new (c.bytes ++ r.2)) (one.1 c.entries) r.4)
      (omega (arith, c.holds, length-append c.entries (one.0 ∷ [])))

  pub one_listed : (from mid to : Option (List ℕ)) (old new : EntriesRead S) (lines more : List ℕ) (entry : KeytabEntry) → EntriesListed from mid old lines → Gives mid to old new (Ok (Some entry))
      → more ≡ lines ++ keytab_line entry → EntriesListed from to new more
  one_listed from mid to old new lines more entry c gives is =
      one_more from mid to old new (λ entries. lines ≡ keytab_lines entries) (λ entries. more ≡ keytab_lines entries) entry c
      (gives c.bytes c.entries c.read)
      (is ∙ ap (λ (l : List ℕ). l ++ keytab_line entry) c.holds ∙ flat_map_more keytab_line [] c.entries entry)

  -- no entry was passed
  none_more : (from mid to : Option (List ℕ)) (old new : EntriesRead S) (Holds : List KeytabEntry → Type 0) (result : Result Bool KeytabFault) → EntriesGiven from mid old Holds → Reads mid to old new result → (result ≡ Ok true → ⊥) → EntriesGiven from to new Holds
  none_more from mid to old new Holds result c reads differs =
      let r = reads c.bytes c.entries c.read in
      record {
        bytes = c.bytes ++ r.2;
        entries = c.entries;
        taken = Consumes-trans from mid to c.bytes r.2 c.taken r.3;
        read = subst (HasRead to new (c.bytes ++ r.2)) (none_passed r.0 c.entries (λ e. differs (r.1 ∙ sym e))) r.4;
        holds = c.holds;
      }

  pub all_given : (from mid to : Option (List ℕ)) (old new : EntriesRead S) (Holds : List KeytabEntry → Type 0) → EndTells → EntriesGiven from mid old Holds → Reads mid to old new (Ok false) → new.stage ≡ End
      → OfFile IsKeytab from Holds
  all_given None mid to old new Holds law c reads stage = tt
  all_given (Some whole) mid to old new Holds law c reads stage =
      let last = none_more (Some whole) mid to old new Holds (Ok false) c reads (λ e. cc) in
      (last.entries, (law whole last.bytes to new.held last.entries last.taken (subst (λ (s : Stage). StandsTo to new.held s last.bytes last.entries) stage last.read.stands), last.holds))

  pub fault_given : (from mid to : Option (List ℕ)) (old new : EntriesRead S) (Holds : List KeytabEntry → Type 0) (fault : KeytabFault) → FaultTells → EntriesGiven from mid old Holds → Reads mid to old new (Err fault) → new.stage ≡ Failed fault
      → fault ≢ of_keytab.OutOfMemory → fault ≢ of_keytab.Read → IfSome from (λ bytes. keytab.IsFaultOf bytes fault)
  fault_given None mid to old new Holds fault law c reads stage memory read = tt
  fault_given (Some whole) mid to old new Holds fault law c reads stage memory read =
      let last = none_more (Some whole) mid to old new Holds (Err fault) c reads (λ e. cc) in
      law whole last.bytes to new.held last.entries fault read memory last.taken (subst (λ (s : Stage). StandsTo to new.held s last.bytes last.entries) stage last.read.stands)

  -- how much the source gave
  pub entries_taken : (from mid to : Option (List ℕ)) (old new : EntriesRead S) (Holds : List KeytabEntry → Type 0) (result : Result Bool KeytabFault) → EntriesGiven from mid old Holds → Reads mid to old new result → new.given ≤ file_limit + 1 → TakesFile from to
  entries_taken from mid to old new Holds result c reads limit =
      let r = reads c.bytes c.entries c.read in
      let read = r.4 in
      record { piece = c.bytes ++ r.2; taken = Consumes-trans from mid to c.bytes r.2 c.taken r.3; within = omega (arith, limit, read.given) }

-- ---- a cache

-- what holds of the bytes that a source gave holds of all that were to come
abbrev pub SourceTells : Type 0
SourceTells = (whole bytes : List ℕ) (left : Option (List ℕ)) (answer : Result Cache CacheFault) → IsGiven (Some whole) left bytes → cache.IsAnswerOf bytes answer → cache.IsAnswerOf whole answer

pub cache_told : (from to : Option (List ℕ)) (Holds : Cache → Type 0) (value : Cache) → SourceTells → (bytes : List ℕ) × IsGiven from to bytes × cache.IsCache bytes value → Holds value
    → OfFile cache.IsCache from Holds
cache_told None to Holds value law given holds = tt
cache_told (Some whole) to Holds value law given holds = (value, (law whole given.0 to (Ok value) given.1 given.2, holds))

pub fault_told : (from to : Option (List ℕ)) (fault : CacheFault) → SourceTells → (bytes : List ℕ) × IsGiven from to bytes × cache.IsFaultOf bytes fault → IfSome from (λ bytes. cache.IsFaultOf bytes fault)
fault_told None to fault law given = tt
fault_told (Some whole) to fault law given = law whole given.0 to (Err fault) given.1 given.2

gave_within : {S : Type 0} (from to : Option (List ℕ)) (old new : reads.Reading S) → reads.Gave from to old new → new.given ≤ file_limit + 1 → GivesWithin from to old.given new.given
gave_within from to old new g limit = record { piece = g.bytes; taken = g.taken; given = g.given; within = λ l. limit }

module _ {S : Type 0} (left : S → Option (List ℕ)) where
  one_more_read : (from : Option (List ℕ)) (old new : reads.Reading S) (Holds Also : Cache → Type 0) (credential : Credential) (c : CredentialsGiven left from old Holds) → reads.Gave (left old.source) (left new.source) old new → new.given ≤ file_limit + 1
      → ((value : Cache) → reads.HasRead left from old value → reads.HasRead left from new (reads.with_credential value credential)) → Also (reads.with_credential c.cache_read credential) → CredentialsGiven left from new Also
  one_more_read from old new Holds Also credential c gave limit item also = record {
    cache_read = reads.with_credential c.cache_read credential;
    read = item c.cache_read c.read;
    gave = gives_then from (left old.source) (left new.source) 0 old.given new.given c.gave (gave_within (left old.source) (left new.source) old new gave limit);
    holds = also;
  }

  pub credential_counted : (from : Option (List ℕ)) (old new : reads.Reading S) (count : ℕ) (credential : Credential) → CredentialsCounted left from old count → reads.Gave (left old.source) (left new.source) old new → new.given ≤ file_limit + 1
      → ((value : Cache) → reads.HasRead left from old value → reads.HasRead left from new (reads.with_credential value credential)) → CredentialsCounted left from new (count + 1)
  credential_counted from old new count credential c gave limit item =
      one_more_read from old new (λ value. count ≡ length value.credentials) (λ value. count + 1 ≡ length value.credentials) credential c gave limit item
      (omega (arith, c.holds, length-append c.cache_read.credentials (credential ∷ [])))

  pub credential_listed : (from : Option (List ℕ)) (old new : reads.Reading S) (lines more : List ℕ) (credential : Credential) → CredentialsListed left from old lines → reads.Gave (left old.source) (left new.source) old new → new.given ≤ file_limit + 1
      → ((value : Cache) → reads.HasRead left from old value → reads.HasRead left from new (reads.with_credential value credential)) → more ≡ lines ++ credential_line credential → CredentialsListed left from new more
  credential_listed from old new lines more credential c gave limit item is =
      let head = head_lines c.cache_read.default_principal (clock_offset c.cache_read.header) in
      one_more_read from old new (λ value. lines ≡ cache_lines value) (λ value. more ≡ cache_lines value) credential c gave limit item
      (is ∙ ap (λ (l : List ℕ). l ++ credential_line credential) c.holds ∙ flat_map_more credential_line head c.cache_read.credentials credential)

  -- how much the source gave
  pub credentials_taken : (from : Option (List ℕ)) (old new : reads.Reading S) (Holds : Cache → Type 0) → CredentialsGiven left from old Holds → reads.Gave (left old.source) (left new.source) old new → new.given ≤ file_limit + 1 → TakesFile from (left new.source)
  credentials_taken from old new Holds c gave limit =
      takes_file from (left new.source) 0 new.given refl (gives_then from (left old.source) (left new.source) 0 old.given new.given c.gave (gave_within (left old.source) (left new.source) old new gave limit))
