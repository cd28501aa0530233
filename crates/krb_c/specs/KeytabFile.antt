-- The file of a keytab: it is read and kept; an entry is removed or added, or all entries are
-- written again.
use Rattle.std.specs.Prelude.{◌≡◌, ◌≢◌, ◌<◌, ◌⊎◌, ℕ, List, length, Option, Some, Ok}
use Rattle.krb_name.specs.Reading.{IsReadAs}
use Rattle.krb_name.specs.declared.principal.Principal.{Principal}
use Rattle.krb_keytab.specs.Edit.{AddsEntry, IsRefusal, LacksEntry}
use Rattle.krb_keytab.specs.Entry.{KeytabEntry, LengthsFit}
use Rattle.krb_file.specs.File.{file_limit}
use Rattle.krb_keytab.specs.Format.{IsFaultOf, IsKeytab}
use Rattle.krb_keytab.specs.Written.{written}
use Rattle.krb_keytab.specs.declared.fault.KeytabFault.{KeytabFault}
use Rattle.krb_keytab.specs.declared.fault.KeytabFault.TheVariants as keytab
use Rattle.krb_c.specs.Answer.{keytab_answer, plain, sized}
use Rattle.krb_c.specs.Request.{HasName, IsNameFault}
use Rattle.krb_c.specs.Codes.{ok, out_of_memory, too_long}
use Rattle.krb_c.specs.declared.structs.Answer.{Answer}
use Rattle.krb_c.specs.declared.structs.KeyParts.{KeyParts}

abbrev pub HasKeytab : List ℕ → Type 0
HasKeytab bytes = (entries : List KeytabEntry) × IsKeytab bytes entries

-- why no keytab is read: a fault of the bytes, or lack of memory for bytes that are a keytab
pub record HasKeytabFault (bytes : List ℕ) (answer : Answer) : Type 0 where
  pub fault : KeytabFault
  pub holds : fault ≢ keytab.OutOfMemory → IsFaultOf bytes fault
  pub memory : fault ≡ keytab.OutOfMemory → HasKeytab bytes
  pub answer_is : answer ≡ keytab_answer fault

-- ---- keeping

-- the bytes are a keytab, which is kept, and how many entries it has; or the reason is reported, and
-- what was kept is unchanged
abbrev pub KeepsKeytab : List ℕ → Option (List KeytabEntry) → Option (List KeytabEntry) → Answer → Type 0
KeepsKeytab bytes was is answer =
    ((entries : List KeytabEntry) × (IsKeytab bytes entries × ((answer ≡ sized ok (length entries)) × (is ≡ Some entries))))
    ⊎ (HasKeytabFault bytes answer × (is ≡ was))

-- ---- removing

-- the bytes aren't a keytab, or it has no entry of this index
pub record HasRemoveFault (bytes : List ℕ) (index : ℕ) (answer : Answer) : Type 0 where
  pub fault : KeytabFault
  pub missing : fault ≡ keytab.NoSuchEntry → LacksEntry bytes index
  pub holds : fault ≢ keytab.NoSuchEntry → IsFaultOf bytes fault
  pub answer_is : answer ≡ keytab_answer fault

abbrev pub IsRemoveFault : List ℕ → ℕ → Answer → Type 0
IsRemoveFault bytes index answer = HasRemoveFault bytes index answer ⊎ (answer ≡ plain out_of_memory)

-- ---- adding

-- the entry of a name's text, a key and what belongs to it, if these fit into an entry
pub record IsEntryOf (text key : List ℕ) (parts : KeyParts) (entry : KeytabEntry) : Type 0 where
  pub name_is : IsReadAs text (Ok entry.principal)
  pub name_type : entry.principal.name_type ≡ parts.name_type
  pub timestamp : entry.timestamp ≡ parts.timestamp
  pub kvno : entry.kvno ≡ parts.kvno
  pub key_type : entry.etype ≡ parts.key_type
  pub key_is : entry.key ≡ key
  pub fits : LengthsFit entry.principal entry.key

-- the name or the key doesn't fit into an entry
pub record IsTooLongEntry (text key : List ℕ) (answer : Answer) : Type 0 where
  pub name : Principal
  pub name_is : IsReadAs text (Ok name)
  pub longer : ¬ LengthsFit name key
  pub answer_is : answer ≡ plain too_long

abbrev pub IsEntryFault : List ℕ → List ℕ → Answer → Type 0
IsEntryFault text key answer = IsNameFault text answer ⊎ (IsTooLongEntry text key answer ⊎ (HasName text × (answer ≡ plain out_of_memory)))

-- the new file has that entry more
pub record Adds (bytes text key : List ℕ) (parts : KeyParts) (file : List ℕ) : Type 0 where
  pub entry : KeytabEntry
  pub entry_is : IsEntryOf text key parts entry
  pub added : AddsEntry bytes entry file

-- the bytes aren't a keytab, or the new file would be too long, or memory is lacking
pub record HasAddFault (bytes text key : List ℕ) (parts : KeyParts) (answer : Answer) : Type 0 where
  pub entry : KeytabEntry
  pub entry_is : IsEntryOf text key parts entry
  pub fault : KeytabFault
  pub refuses : IsRefusal bytes entry fault
  pub answer_is : answer ≡ keytab_answer fault

abbrev pub IsAddFault : List ℕ → List ℕ → List ℕ → KeyParts → Answer → Type 0
IsAddFault bytes text key parts answer = IsEntryFault text key answer ⊎ HasAddFault bytes text key parts answer

-- ---- writing

-- the bytes of a file of the same entries, without holes
abbrev pub WritesAnew : List ℕ → List ℕ → Type 0
WritesAnew bytes file = (entries : List KeytabEntry) × (IsKeytab bytes entries × (file ≡ written entries))

-- that file would be longer than files may be, memory aside
pub record IsTooLong (bytes : List ℕ) (answer : Answer) : Type 0 where
  pub entries : List KeytabEntry
  pub keytab_is : IsKeytab bytes entries
  pub fault : KeytabFault
  pub longer : fault ≢ keytab.OutOfMemory → (fault ≡ keytab.TooLong) × (file_limit < length (written entries))
  pub answer_is : answer ≡ keytab_answer fault

abbrev pub IsWriteFault : List ℕ → Answer → Type 0
IsWriteFault bytes answer = HasKeytabFault bytes answer ⊎ IsTooLong bytes answer
