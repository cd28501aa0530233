-- What `explain` prints of a text, or why it prints nothing.
use Rattle.std.specs.Prelude.{◌≡◌, ⊤, ℕ, ◌<◌, ◌≤◌, List, length, Option, Some, None, IfSome, Ok, Err, codes}
use Rattle.krb_file.specs.File.{file_limit}
use Rattle.krb_explain.specs.Explained.{IsExplanation}
use Rattle.krb_explain.specs.Input.{read_of}
use Rattle.krb_explain.specs.declared.input.InputFault.{InputFault}
use Rattle.krb_explain.specs.declared.input.InputFault.TheVariants as input
use Rattle.krb_explain_keys.specs.Keyed.{IsKeyedExplanation, new_service}
use Rattle.krb_file_commands.specs.Engine.{OfFile}
use Rattle.krb_file_commands.specs.FaultText.{FaultText}
use Rattle.krb_keytab.specs.Entry.{KeytabEntry}
use Rattle.krb_keytab.specs.Format.{IsKeytab}
use Rattle.krb_keytab.specs.Only.{KeepsOnly}
use Rattle.krb_name.specs.declared.principal.Principal.{Principal}
use Rattle.krb_service_command.specs.declared.explain_keys.ExplainWithKeys.{ExplainWithKeys}
use Rattle.krb_service_command.specs.declared.explain_fault.ExplainFault.{ExplainFault}
use Rattle.krb_service_command.specs.declared.explain_fault.ExplainFault.TheVariants.{Text, TooLong, Read}

-- the page explains the bytes that the text spells
pub record IsExplainedText (text page : List ℕ) : Type 0 where
  pub bytes : List ℕ
  pub spelled : read_of text ≡ Ok bytes
  pub explains : IsExplanation bytes page

-- a text spells no bytes, or is too long
abbrev pub IsUnexplained : List ℕ → ExplainFault → Type 0
IsUnexplained text (Text fault) = (length text ≤ file_limit) × (read_of text ≡ Err fault)
IsUnexplained text TooLong = file_limit < length text
IsUnexplained text Read = ⊥

-- ---- with the keys of a keytab

-- a service has these of the keytab's entries: those of its name, if one was asked for
abbrev pub IsServedBy : Option Principal → List KeytabEntry → List KeytabEntry → Type 0
IsServedBy None entries served = served ≡ entries
IsServedBy (Some name) entries served = KeepsOnly name entries served

-- the page explains the bytes with the service's keys of these entries, at the second and by the skew that were asked for
pub record IsKeyedPage (wanted : ExplainWithKeys) (entries : List KeytabEntry) (page : List ℕ) : Type 0 where
  pub served : List KeytabEntry
  pub served_are : IsServedBy wanted.only entries served
  pub explains : IsKeyedExplanation (new_service served wanted.skew) wanted.second wanted.bytes.items page

-- it is made of a file that is a keytab
abbrev pub MakesKeyedPage : ExplainWithKeys → Option (List ℕ) → List ℕ → Type 0
MakesKeyedPage wanted from page = OfFile IsKeytab from (λ entries. IsKeyedPage wanted entries page)

-- ---- reading it

-- it was read whole
abbrev pub IsWholeText : List ℕ → List ℕ → Type 0
IsWholeText whole text = (whole ≡ text) × (length text ≤ file_limit)

-- why it wasn't read
abbrev pub IsUnread : Option (List ℕ) → ExplainFault → Type 0
IsUnread from (Text fault) = fault ≡ input.OutOfMemory
IsUnread from TooLong = IfSome from (λ whole. file_limit < length whole)
IsUnread from Read = ⊤

-- how many reads failed, by a fault
abbrev pub explain_reads : ExplainFault → ℕ
explain_reads Read = 1
explain_reads _ = 0

-- ---- what is printed of a fault, and the exit status

abbrev pub input_text : InputFault → FaultText
input_text input.NoBytes = (codes "NoBytes", None)
input_text (input.Symbol at) = (codes "Symbol", Some at)
input_text (input.End at) = (codes "End", Some at)
input_text input.OutOfMemory = (codes "OutOfMemory", None)

abbrev pub explain_text : ExplainFault → FaultText
explain_text (Text fault) = input_text fault
explain_text TooLong = (codes "TooLong", None)
explain_text Read = (codes "Read", None)

abbrev pub explain_status : ExplainFault → ℕ
explain_status (Text input.OutOfMemory) = 3
explain_status Read = 3
explain_status _ = 1
