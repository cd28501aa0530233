-- What sources and sinks consist of, and what moves through them.
use Rattle.std.specs.Prelude.{ℕ, ◌+◌, ◌-◌, ◌^◌, ◌<◌, min, List, length, take, Option, Result, Ok, Err}
use Rattle.std.specs.Io.KnownBytes.{Appends}
use Rattle.krb_file.specs.declared.reading.ReadFault.{ReadFault}
use Rattle.krb_file.specs.declared.reading.ReadFault.TheVariants.{Read as ReadFailed, OutOfMemory}
use Rattle.krb_file.specs.declared.source.ReadSource.{ReadSource}
use Rattle.krb_file.specs.declared.sink.WriteSink.{WriteSink}

-- the reader that a source reads from, and how many of its reads failed
abbrev pub source_reader : {R : Type 0} → ReadSource R → R
source_reader s = s.reader

abbrev pub source_failures : {R : Type 0} → ReadSource R → ℕ
source_failures s = s.failures

-- the writer that a sink writes to, and how many of its writes failed
abbrev pub sink_writer : {W : Type 0} → WriteSink W → W
sink_writer s = s.writer

abbrev pub sink_failures : {W : Type 0} → WriteSink W → ℕ
sink_failures s = s.failures

-- a sink took a beginning of these bytes
abbrev pub AppendsBeginning : Option (List ℕ) → Option (List ℕ) → List ℕ → Type 0
AppendsBeginning old new bytes = (count : ℕ) × Appends old new (take count bytes)

-- a sink took a beginning of these bytes, and not all of them
pub record AppendsPart (old new : Option (List ℕ)) (bytes : List ℕ) : Type 0 where
  pub count : ℕ
  pub part : count < length bytes
  pub taken : Appends old new (take count bytes)

-- a count of failures after so many more: it grows to 2^64 - 1 and stays there
abbrev pub counted : ℕ → ℕ → ℕ
counted count more = count + min more (2 ^ 64 - 1 - count)

-- how many failed reads an answer reports
abbrev pub failed_reads : {T : Type 0} → Result T ReadFault → ℕ
failed_reads (Ok _) = 0
failed_reads (Err ReadFailed) = 1
failed_reads (Err OutOfMemory) = 0
