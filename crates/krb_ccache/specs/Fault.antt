-- Where a fault lies, and whether it is that of a failed read.
use Rattle.std.specs.Prelude.{ℕ, Option, Some, None, Result, Err}
use Rattle.krb_ccache.specs.Types.{CacheFault, BadItem, Read}

-- the offset of the item at fault
abbrev pub offset_of : CacheFault → Option ℕ
offset_of (BadItem at) = Some at
offset_of _ = None

-- how many failed reads an answer reports
abbrev pub failed_reads : {T : Type 0} → Result T CacheFault → ℕ
failed_reads (Err Read) = 1
failed_reads _ = 0
