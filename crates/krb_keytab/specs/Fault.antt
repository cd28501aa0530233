-- Where a fault lies, and which faults are those of a source.
use Rattle.std.specs.Prelude.{ℕ, Option, Some, None, Result, Err}
use Rattle.krb_keytab.specs.declared.fault.KeytabFault.{KeytabFault}
use Rattle.krb_keytab.specs.declared.fault.KeytabFault.TheVariants.{Truncated, BadEntry, Read, OutOfMemory}
use Rattle.krb_file.specs.declared.reading.ReadFault.{ReadFault}
use Rattle.krb_file.specs.File.{fault_of_read}

-- the offset of the record at fault
abbrev pub offset_of : KeytabFault → Option ℕ
offset_of (Truncated at) = Some at
offset_of (BadEntry at) = Some at
offset_of _ = None

-- the same fault, for a source that was read
abbrev pub source_fault : ReadFault → KeytabFault
source_fault fault = fault_of_read OutOfMemory Read fault

-- how many failed reads an answer reports
abbrev pub failed_reads : {T : Type 0} → Result T KeytabFault → ℕ
failed_reads (Err Read) = 1
failed_reads _ = 0
