-- What is made of a file that was read, or why nothing is.
use Rattle.std.proofs.Common.{◌≡◌, ◌∙◌, ℕ, List, Option, Some, Result, Ok, Err, refl, ap, subst}
use Rattle.std.specs.Prelude.{◌≢◌, ⊤, IfOk, IfErr, IfSome, OnOk}
use Rattle.krb_file.specs.File.{ReadsFile, TakesFile}
use Rattle.krb_file.specs.Flow.{counted}
use Rattle.krb_keytab.specs.Entry.{KeytabEntry}
use Rattle.krb_keytab.specs.Fault as keytab_fault
use Rattle.krb_keytab.specs.Format as keytab
use Rattle.krb_keytab.specs.declared.fault.KeytabFault.{KeytabFault}
use Rattle.krb_keytab.specs.declared.fault.KeytabFault.TheVariants as of_keytab
use Rattle.krb_ccache.specs.Fault as cache_fault
use Rattle.krb_ccache.specs.Format as cache
use Rattle.krb_ccache.specs.Value.{Cache}
use Rattle.krb_ccache.specs.declared.fault.CacheFault.{CacheFault}
use Rattle.krb_ccache.specs.declared.fault.CacheFault.TheVariants as of_cache
use Rattle.krb_file_commands.specs.Engine.{Makes, OfFile, failed_by}
use Rattle.krb_file_commands.specs.Inner.Reading.{ReadsCache, ReadsKeytab}
use Rattle.krb_file_commands.specs.Status as status
use Rattle.krb_file_commands.proofs.FaultLaws.{if_err_map, if_some_map, no_ok}

module _ {X E : Type 0} (Holds : X → Type 0) (Faults : List ℕ → E → Type 0) (Allows : E → Type 0) (exit failed : E → ℕ) (from to : Option (List ℕ)) (before after : ℕ) where
  abbrev Made : Result X E → Type 0
  Made result = Makes Holds Faults Allows exit failed from to before after result

  -- reading or memory failed
  pub lacking : (e : E) → exit e ≡ 3 → Allows e → after ≡ counted before (failed e) → TakesFile from to → Made (Err e)
  lacking e lacks allowed reads taken = record {
    made = tt;
    fault = λ other. absurd (other lacks);
    faulty = λ given fault tells has. tt;
    allowed = allowed;
    reads = reads;
    taken = taken;
  }

  -- the file has the fault
  pub faulty : (e : E) → IfSome from (λ given. Faults given e) → Allows e → after ≡ counted before (failed e) → TakesFile from to → Made (Err e)
  faulty e has allowed reads taken = record {
    made = tt;
    fault = λ other. has;
    faulty = λ given fault tells its. tt;
    allowed = allowed;
    reads = reads;
    taken = taken;
  }

  module _ {V F : Type 0} (Is : List ℕ → Result V F → Type 0) (memory unread : F) (read : Result V F) (reads : ReadsFile Is memory unread from to read) where
    -- the file was read, and this was made of it
    pub value_made : (value : V) (it : X) → read ≡ Ok value → Holds it → ((given : List ℕ) (e : E) → Is given (Ok value) → Faults given e → ⊥) → after ≡ counted before 0 → Made (Ok it)
    value_made value it is holds none failures = record {
      made = holds;
      fault = tt;
      faulty = λ given e tells has. none given e (subst (λ (o : Option (List ℕ)). IfSome o (λ bytes. Is bytes (Ok value))) tells (rw is at reads.found)) has;
      allowed = tt;
      reads = failures;
      taken = reads.taken;
    }

    -- the file's fault was met
    pub fault_met : (wrap : F → E) (met : F) → read ≡ Err met → exit (wrap memory) ≡ 3 → exit (wrap unread) ≡ 3 → ((given : List ℕ) → Is given (Err met) → Faults given (wrap met)) → Allows (wrap met)
        → after ≡ counted before (failed (wrap met)) → Made (Err (wrap met))
    fault_met wrap met is no_memory no_read has allowed failures = record {
      made = tt;
      fault = λ other. if_some_map from has ((rw is at reads.fault) (λ m. other (ap (λ (f : F). exit (wrap f)) m ∙ no_memory)) (λ u. other (ap (λ (f : F). exit (wrap f)) u ∙ no_read)));
      faulty = λ given e tells its. tt;
      allowed = allowed;
      reads = failures;
      taken = reads.taken;
    }

-- ---- one entry or credential at a time

module _ {V F : Type 0} (Is : List ℕ → Result V F → Type 0) (memory unread : F) (exit failed : F → ℕ) where
  abbrev Reads : {X : Type 0} → Option (List ℕ) → Option (List ℕ) → ℕ → ℕ → (X → V → Type 0) → Result X F → Type 0
  Reads from to before after Holds result = Makes (λ it. OfFile (λ bytes value. Is bytes (Ok value)) from (Holds it)) (λ bytes fault. Is bytes (Err fault)) (λ _. ⊤) exit failed from to before after result

  -- a value that was found is all that is answered, since a file has no other answer
  value_alone : (one : (bytes : List ℕ) (answer other : Result V F) → Is bytes answer → Is bytes other → answer ≡ other) {X : Type 0} (from : Option (List ℕ)) (Holds : X → V → Type 0) (result : Result X F)
      → IfOk result (λ it. OfFile (λ bytes value. Is bytes (Ok value)) from (Holds it)) → (given : List ℕ) (fault : F) → from ≡ Some given → Is given (Err fault) → OnOk result ⊥
  value_alone one from Holds (Ok it) found given fault tells is =
      let v = subst (λ (o : Option (List ℕ)). OfFile (λ bytes value. Is bytes (Ok value)) o (Holds it)) tells found in
      no_ok v.0 fault (one given (Ok v.0) (Err fault) v.1.0 is)
  value_alone one from Holds (Err met) found given fault tells is = tt

  allowed : {X : Type 0} (result : Result X F) → IfErr result (λ _. ⊤)
  allowed (Ok it) = tt
  allowed (Err fault) = tt

  read_as : exit memory ≡ 3 → exit unread ≡ 3 → (one : (bytes : List ℕ) (answer other : Result V F) → Is bytes answer → Is bytes other → answer ≡ other) {X : Type 0} (from to : Option (List ℕ)) (before after : ℕ) (Holds : X → V → Type 0)
      (result : Result X F) → IfOk result (λ it. OfFile (λ bytes value. Is bytes (Ok value)) from (Holds it)) → IfErr result (λ fault. fault ≢ memory → fault ≢ unread → IfSome from (λ bytes. Is bytes (Err fault)))
      → TakesFile from to → after ≡ counted before (failed_by failed result) → Reads from to before after Holds result
  read_as no_memory no_read one from to before after Holds result found met taken failures = record {
    made = found;
    fault = if_err_map result (λ fault is other. is (λ m. other (ap exit m ∙ no_memory)) (λ u. other (ap exit u ∙ no_read))) met;
    faulty = value_alone one from Holds result found;
    allowed = allowed result;
    reads = failures;
    taken = taken;
  }

-- ---- a keytab

pub keytab_counted : {X : Type 0} (result : Result X KeytabFault) → keytab_fault.failed_reads result ≡ failed_by status.keytab_reads result
keytab_counted (Ok it) = refl
keytab_counted (Err of_keytab.Read) = refl
keytab_counted (Err of_keytab.OutOfMemory) = refl
keytab_counted (Err of_keytab.Version) = refl
keytab_counted (Err (of_keytab.Truncated at)) = refl
keytab_counted (Err (of_keytab.BadEntry at)) = refl
keytab_counted (Err of_keytab.TooLong) = refl
keytab_counted (Err of_keytab.NoSuchEntry) = refl

abbrev pub KeytabsHaveOne : Type 0
KeytabsHaveOne = (bytes : List ℕ) (answer other : Result (List KeytabEntry) KeytabFault) → keytab.IsAnswerOf bytes answer → keytab.IsAnswerOf bytes other → answer ≡ other

pub keytab_read : KeytabsHaveOne → {X : Type 0} (from to : Option (List ℕ)) (before after : ℕ) (Holds : X → List KeytabEntry → Type 0) (result : Result X KeytabFault) → IfOk result (λ made. OfFile keytab.IsKeytab from (Holds made))
    → IfErr result (λ fault. fault ≢ of_keytab.OutOfMemory → fault ≢ of_keytab.Read → IfSome from (λ bytes. keytab.IsFaultOf bytes fault)) → TakesFile from to → after ≡ counted before (keytab_fault.failed_reads result)
    → ReadsKeytab from to before after Holds result
keytab_read one from to before after Holds result found met taken failures =
    read_as keytab.IsAnswerOf of_keytab.OutOfMemory of_keytab.Read status.of_keytab status.keytab_reads refl refl one from to before after Holds result found met taken (failures ∙ ap (counted before) (keytab_counted result))

-- ---- a cache

pub cache_counted : {X : Type 0} (result : Result X CacheFault) → cache_fault.failed_reads result ≡ failed_by status.cache_reads result
cache_counted (Ok it) = refl
cache_counted (Err of_cache.Read) = refl
cache_counted (Err of_cache.OutOfMemory) = refl
cache_counted (Err of_cache.Version) = refl
cache_counted (Err of_cache.Header) = refl
cache_counted (Err (of_cache.BadItem at)) = refl
cache_counted (Err of_cache.TooLong) = refl

abbrev pub CachesHaveOne : Type 0
CachesHaveOne = (bytes : List ℕ) (answer other : Result Cache CacheFault) → cache.IsAnswerOf bytes answer → cache.IsAnswerOf bytes other → answer ≡ other

pub cache_read : CachesHaveOne → {X : Type 0} (from to : Option (List ℕ)) (before after : ℕ) (Holds : X → Cache → Type 0) (result : Result X CacheFault) → IfOk result (λ made. OfFile cache.IsCache from (Holds made))
    → IfErr result (λ fault. fault ≢ of_cache.OutOfMemory → fault ≢ of_cache.Read → IfSome from (λ bytes. cache.IsFaultOf bytes fault)) → TakesFile from to → after ≡ counted before (cache_fault.failed_reads result)
    → ReadsCache from to before after Holds result
cache_read one from to before after Holds result found met taken failures =
    read_as cache.IsAnswerOf of_cache.OutOfMemory of_cache.Read status.of_cache status.cache_reads refl refl one from to before after Holds result found met taken (failures ∙ ap (counted before) (cache_counted result))
