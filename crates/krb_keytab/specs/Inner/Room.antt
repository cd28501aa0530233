-- What is known of the room in a file.
use Rattle.std.specs.Prelude.{◌≡◌, ℕ, ◌+◌, ◌-◌, ◌<◌, ◌≤◌, List, [], ◌∷◌, ◌++◌, length, All, Result, Ok, Err, ⊤}
use Rattle.krb_keytab.specs.Edit.{Appends}
use Rattle.krb_keytab.specs.Entry.{KeytabEntry, FitsEntry}
use Rattle.krb_keytab.specs.Format.{version, KeytabRecord, hole, entry, record_bytes}
use Rattle.krb_keytab.specs.Inner.Finding.{Divides, end_of}
use Rattle.krb_keytab.specs.Inner.Putting.{Puts}
use Rattle.krb_keytab.specs.Written.{padded_record, record_length}
use Rattle.krb_keytab.specs.declared.holes.Hole.{Hole}
use Rattle.krb_keytab.specs.declared.fault.KeytabFault.{KeytabFault}
use Rattle.krb_keytab.specs.declared.finding.Room.{Room}
use Rattle.krb_keytab.specs.declared.finding.Room.TheVariants as room

-- the holes among records that begin at an offset
abbrev pub holes_of : ℕ → List KeytabRecord → List Hole
holes_of at [] = []
holes_of at (hole ignored ∷ others) =
    record { from = at; size = length (record_bytes (hole ignored)) } ∷ holes_of (at + length (record_bytes (hole ignored))) others
holes_of at (entry e short_kvno rest ∷ others) = holes_of (at + length (record_bytes (entry e short_kvno rest))) others

-- the holes of a keytab, and where its records end
abbrev pub KnowsRoom : List ℕ → List Hole → ℕ → Type 0
KnowsRoom bytes holes at = Divides (λ records. (at ≡ end_of records) × (holes ≡ holes_of (length version) records)) bytes

-- the first hole of at least so many bytes was taken out
pub record IsTaken (old : List Hole) (size : ℕ) (one : Hole) (new : List Hole) : Type 0 where
  pub before : List Hole
  pub after : List Hole
  pub old_is : old ≡ before ++ one ∷ after
  pub new_is : new ≡ before ++ after
  pub small : All (λ other. other.size < size) before
  pub room : size ≤ one.size

-- the record of an entry was put into the room that was found for it; a hole takes it always
abbrev pub PutsIn : Room → KeytabEntry → List ℕ → List ℕ → Result (Unit {0}) KeytabFault → Type 0
PutsIn (room.Hole place) added old new (Ok _) = FitsEntry added × Puts old place.from (record_bytes (padded_record added (place.to - place.from - record_length added))) new
PutsIn (room.Hole place) added old new (Err _) = ⊥
PutsIn (room.End at) added old new (Ok _) = Appends old added new
PutsIn (room.End at) added old new (Err _) = ⊤
