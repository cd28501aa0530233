-- What a call answers: a code, and what belongs to it.
use Rattle.std.specs.Prelude.{◌≡◌, ◌≤◌, ◌<◌, ◌⊎◌, ℕ, ℤ, pos, List, ◌++◌, length, drop, Option, Some, None, Result, Ok, Err}
use Rattle.krb_keytab.specs.declared.fault.KeytabFault.{KeytabFault}
use Rattle.krb_keytab.specs.declared.fault.KeytabFault.TheVariants as keytab
use Rattle.krb_ap.specs.Causes.{code_of, offset_of}
use Rattle.krb_ap.specs.declared.accepted.Accepted.{Accepted}
use Rattle.krb_ap.specs.declared.refusal.Refusal.{Refusal}
use Rattle.krb_c.specs.Codes.{cause_code, ok, out_of_memory, short_buffer, file_version, file_truncated, file_bad_item, too_long, no_such_entry, not_read}
use Rattle.krb_c.specs.declared.structs.Answer.{Answer}

-- a code alone, or with a number of bytes, or with an offset
abbrev pub plain : ℕ → Answer
plain code = record { code = code; kerberos = pos 0; at = 0; size = 0 }

abbrev pub sized : ℕ → ℕ → Answer
sized code size = record { code = code; kerberos = pos 0; at = 0; size = size }

abbrev pub placed : ℕ → ℕ → Answer
placed code at = record { code = code; kerberos = pos 0; at = at; size = 0 }

abbrev pub number_or_none : Option ℤ → ℤ
number_or_none (Some number) = number
number_or_none None = pos 0

abbrev pub offset_or_none : Option ℕ → ℕ
offset_or_none (Some at) = at
offset_or_none None = 0

-- a refusal's code, its error code, and the offset of a malformed request's fault
abbrev pub refused : Refusal → Answer
refused refusal = record { code = cause_code refusal; kerberos = number_or_none (code_of refusal); at = offset_or_none (offset_of refusal); size = 0 }

abbrev pub told : Result Accepted Refusal → Answer
told (Ok accepted) = plain ok
told (Err refusal) = refused refusal

-- a keytab's fault, with the offset of the record
abbrev pub keytab_answer : KeytabFault → Answer
keytab_answer keytab.Version = plain file_version
keytab_answer (keytab.Truncated at) = placed file_truncated at
keytab_answer (keytab.BadEntry at) = placed file_bad_item at
keytab_answer keytab.TooLong = plain too_long
keytab_answer keytab.NoSuchEntry = plain no_such_entry
keytab_answer keytab.Read = plain not_read
keytab_answer keytab.OutOfMemory = plain out_of_memory

-- Bytes are returned in a buffer. If there is room, they are at its start, and the rest of it is
-- unchanged; otherwise their number is reported.
pub record Hands (bytes old new : List ℕ) (answer : Answer) : Type 0 where
  pub fits : length bytes ≤ length old → (answer ≡ sized ok (length bytes)) × (new ≡ bytes ++ drop (length bytes) old)
  pub short : length old < length bytes → (answer ≡ sized short_buffer (length bytes)) × (new ≡ old)

-- bytes and what belongs to them are returned, or memory is lacking
abbrev pub Tells : {Told : Type 0} → List ℕ → Told → Told → Told → List ℕ → List ℕ → Answer → Type 0
Tells bytes told was is old new answer =
    (Hands bytes old new answer × (is ≡ told)) ⊎ ((answer ≡ plain out_of_memory) × ((is ≡ was) × (new ≡ old)))

-- either bytes that this holds of are returned, or an answer that that holds of is given and the
-- buffer is unchanged
abbrev pub Delivers : (List ℕ → Type 0) → (Answer → Type 0) → List ℕ → List ℕ → Answer → Type 0
Delivers Good Bad old new answer = ((bytes : List ℕ) × (Good bytes × Hands bytes old new answer)) ⊎ (Bad answer × (new ≡ old))
