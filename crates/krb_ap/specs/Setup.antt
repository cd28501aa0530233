-- What a service decides by, and what it is given. Times are microseconds since
-- 1970-01-01T00:00:00Z.
use Rattle.std.specs.Prelude.{ℕ, ℤ, List, map, Option, Some, None}
use Rattle.krb_keytab.specs.Entry.{KeytabEntry}

-- the entries of its keytab, how much clocks may differ, and when it was started again (none: it
-- never ran before)
pub record Setup : Type 0 where
  pub entries : List KeytabEntry
  pub skew : ℕ
  pub start : Option ℤ

-- The bytes that arrive as a request, and the moment that is given with them. In a history, also
-- the entries of the keytab by which they were decided, if it isn't the service's any more.
pub record Arrival : Type 0 where
  pub bytes : List ℕ
  pub moment : ℤ
  pub keytab : Option (List KeytabEntry)

-- by the keytab that the service has
abbrev pub arrival : List ℕ → ℤ → Arrival
arrival bytes moment = record { bytes = bytes; moment = moment; keytab = None }

-- whatever was said of an arrival's keytab, it is decided now by the one that the service has
abbrev pub decided_now : Arrival → Arrival
decided_now call = arrival call.bytes call.moment

-- ---- a keytab that is replaced

abbrev pub entries_for : Option (List KeytabEntry) → List KeytabEntry → List KeytabEntry
entries_for None own = own
entries_for (Some earlier) own = earlier

-- nothing but the keytab is replaced
abbrev pub with_entries : Setup → List KeytabEntry → Setup
with_entries setup entries = record { entries = entries; skew = setup.skew; start = setup.start }

-- what an arrival of a history was decided by
abbrev pub setup_for : Setup → Arrival → Setup
setup_for setup call = with_entries setup (entries_for call.keytab setup.entries)

-- an arrival that was decided by the entries of its own keytab, or else by these
abbrev pub decided_by : List KeytabEntry → Arrival → Arrival
decided_by entries call = record { bytes = call.bytes; moment = call.moment; keytab = Some (entries_for call.keytab entries) }

-- the same history, once the service has another keytab
abbrev pub as_decided : Setup → List Arrival → List Arrival
as_decided setup history = map (decided_by setup.entries) history
