-- What a reader meets where whole records end, of the bytes that its source gives from there on.
use Rattle.std.specs.Prelude.{◌≡◌, ◌≢◌, ◌⊎◌, ℕ, ◌+◌, ◌-◌, ◌<◌, ◌≤◌, ℤ, pos, negsuc, max, Bool, List, [], ◌∷◌, ◌++◌, length, take, Option, Some, None, Result, Ok, Err, ⊤, FitsSigned, unsigned_abs}
use Rattle.std.specs.Int.{w32}
use Rattle.std.specs.Io.KnownBytes.{Consumes, IsAtEnd}
use Rattle.krb_file.specs.Cursor.{signed_bytes}
use Rattle.krb_file.specs.Hand.{Hand}
use Rattle.krb_keytab.specs.Entry.{KeytabEntry}
use Rattle.krb_file.specs.File.{file_limit, IsGiven}
use Rattle.krb_keytab.specs.Format.{version, KeytabRecord, record_bytes, FitsRecord, entries_of, IsReached, IsKeytab, IsFaultOf}
use Rattle.krb_keytab.specs.Items.{LacksRecord, LacksVersion, IsPartOfRecord, HasMet, StandsTo, passed, stage_after, entries_after, GivesMore}
use Rattle.krb_keytab.specs.declared.fault.KeytabFault.{KeytabFault}
use Rattle.krb_keytab.specs.declared.fault.KeytabFault.TheVariants.{Version, Truncated, TooLong, Read, OutOfMemory}
use Rattle.krb_keytab.specs.declared.found.Found.{Found}
use Rattle.krb_keytab.specs.declared.found.Found.TheVariants.{End, Hole, Entry}
use Rattle.krb_keytab.specs.declared.stage.Stage.{Stage}
use Rattle.krb_keytab.specs.declared.stage.Stage.TheVariants as stage

-- how far a reader that still reads has come
abbrev pub IsWithin : Stage → ℕ → Type 0
IsWithin stage.Start given = given ≡ 0
IsWithin stage.Records given = given ≤ file_limit
IsWithin stage.End given = given ≤ file_limit + 1
IsWithin (stage.Failed fault) given = given ≤ file_limit + 1

-- the source gave these bytes, and at most one byte past the limit
pub record Moves (old new : Hand) (piece : List ℕ) : Type 0 where
  pub consumed : Consumes old.source new.source piece
  pub given : new.given ≡ old.given + length piece
  pub limit : old.given ≤ file_limit + 1 → new.given ≤ file_limit + 1

-- the peak is no lower than it was, and no higher than that, or than a part at their front
pub record Peaks (IsPart : List ℕ → Type 0) (piece : List ℕ) (old new : ℕ) : Type 0 where
  pub part : List ℕ
  pub after : List ℕ
  pub piece_is : piece ≡ part ++ after
  pub is_part : IsPart part
  pub peak : new ≤ max old (length part)
  pub grows : old ≤ new
  pub low : old ≤ file_limit → new ≤ file_limit

-- the source was read to its end, or past the limit, after what the last answer rests on; or a read failed
abbrev pub RanOut : {T : Type 0} → Result T KeytabFault → Result T KeytabFault → Option (List ℕ) → ℕ → Type 0
RanOut last answer left given = ((answer ≡ last) × (given ≤ file_limit) × IsAtEnd left) ⊎ (((answer ≡ Err TooLong) × (given ≡ file_limit + 1)) ⊎ (answer ≡ Err Read))

pub record RunsOutTo {T : Type 0} (old new : Hand) (last answer : Result T KeytabFault) : Type 0 where
  pub piece : List ℕ
  pub moves : Moves old new piece
  pub peak : new.peak ≡ old.peak
  pub ran : RanOut last answer new.source new.given

-- ---- the version

abbrev pub MeetsVersion : Option (List ℕ) → List ℕ → Result Unit KeytabFault → Type 0
MeetsVersion left piece (Ok _) = piece ≡ version
MeetsVersion left piece (Err Version) = (length piece ≤ file_limit) × IsAtEnd left × LacksVersion piece
MeetsVersion left piece (Err TooLong) = (length piece ≡ file_limit + 1) × LacksVersion (take file_limit piece)
MeetsVersion left piece (Err Read) = ⊤
MeetsVersion left piece (Err OutOfMemory) = ⊤
MeetsVersion left piece (Err _) = ⊥

pub record OpensAt (old new : Hand) (answer : Result Unit KeytabFault) : Type 0 where
  pub piece : List ℕ
  pub moves : Moves old new piece
  pub peaks : Peaks (λ part. length part ≤ 2) piece old.peak new.peak
  pub meets : MeetsVersion new.source piece answer

-- ---- a record

pub record IsWhole (at : ℕ) (piece : List ℕ) (entries : List KeytabEntry) : Type 0 where
  pub one : KeytabRecord
  pub fits : FitsRecord one
  pub piece_is : piece ≡ record_bytes one
  pub entries_are : entries ≡ entries_of one
  pub limit : at + length piece ≤ file_limit

-- all bytes have come, and no record stands at the offset
pub record IsLastAt (left : Option (List ℕ)) (at : ℕ) (piece : List ℕ) (last : Option KeytabFault) : Type 0 where
  pub limit : at + length piece ≤ file_limit
  pub all : IsAtEnd left
  pub lacks : LacksRecord at last piece

-- none stands there, and too many bytes have come
pub record IsLongAt (at : ℕ) (piece : List ℕ) : Type 0 where
  pub long : at + length piece ≡ file_limit + 1
  pub last : Option KeytabFault
  pub lacks : LacksRecord at last (take (file_limit - at) piece)

abbrev pub MeetsLast : Option (List ℕ) → ℕ → List ℕ → Option KeytabFault → Type 0
MeetsLast left at piece (Some TooLong) = IsLongAt at piece
MeetsLast left at piece (Some Read) = ⊤
MeetsLast left at piece (Some OutOfMemory) = ⊤
MeetsLast left at piece last = IsLastAt left at piece last

-- a record that begins there, and what is kept of an entry; the peak counts its bytes, after its size
abbrev pub Meets : {E : Type 0} → (KeytabEntry → E) → Option (List ℕ) → ℕ → List ℕ → ℕ → Result (Found E) KeytabFault → Type 0
Meets of_entry left at piece peak (Ok End) = MeetsLast left at piece None
Meets of_entry left at piece peak (Ok Hole) = IsWhole at piece []
Meets of_entry left at piece peak (Ok (Entry kept)) = (e : KeytabEntry) × (kept ≡ of_entry e) × (length piece ≤ 4 + peak) × IsWhole at piece (e ∷ [])
Meets of_entry left at piece peak (Err fault) = MeetsLast left at piece (Some fault)

pub record MeetsOne {E : Type 0} (of_entry : KeytabEntry → E) (old new : Hand) (answer : Result (Found E) KeytabFault) : Type 0 where
  pub piece : List ℕ
  pub moves : Moves old new piece
  pub peaks : Peaks IsPartOfRecord piece old.peak new.peak
  pub meets : Meets of_entry new.source old.given piece new.peak answer

-- ---- its size

-- what is answered where fewer bytes than a size has are left
abbrev pub IsFewAt : ℕ → List ℕ → Result (Option ℤ) KeytabFault → Type 0
IsFewAt at few last = ((last ≡ Ok None) × (few ≡ [])) ⊎ ((last ≡ Err (Truncated at)) × (0 < length few))

pub record IsSizeAt (at : ℕ) (piece : List ℕ) (size : ℤ) : Type 0 where
  pub piece_is : piece ≡ signed_bytes w32 size
  pub fits : FitsSigned w32 size
  pub some : 0 < unsigned_abs size
  pub limit : at + 4 ≤ file_limit

abbrev pub MeetsSize : Option (List ℕ) → ℕ → List ℕ → Result (Option ℤ) KeytabFault → Type 0
MeetsSize left at piece (Ok (Some size)) = IsSizeAt at piece size
MeetsSize left at piece (Ok None) = MeetsLast left at piece None
MeetsSize left at piece (Err fault) = MeetsLast left at piece (Some fault)

pub record MeetsSizeAt (old new : Hand) (answer : Result (Option ℤ) KeytabFault) : Type 0 where
  pub piece : List ℕ
  pub moves : Moves old new piece
  pub peaks : Peaks (λ part. length part ≤ 4) piece old.peak new.peak
  pub meets : MeetsSize new.source old.given piece answer

-- ---- what is after it

-- how many of its bytes are at hand: none of a hole
abbrev pub kept_of : ℤ → ℕ
kept_of (pos n) = n
kept_of (negsuc n) = 0

pub record MeetsBody {E : Type 0} (of_entry : KeytabEntry → E) (old new : Hand) (at : ℕ) (size : ℤ) (answer : Result (Found E) KeytabFault) : Type 0 where
  pub piece : List ℕ
  pub moves : Moves old new piece
  pub peaks : Peaks (λ part. length part ≤ kept_of size) piece old.peak new.peak
  pub meets : Meets of_entry new.source at (signed_bytes w32 size ++ piece) new.peak answer

-- ---- from one place to another

-- the source gave bytes after all that came before, and what they reach; what was met grew with them
pub record Goes (Before After : List ℕ → List KeytabEntry → Type 0) (old new : Hand) : Type 0 where
  pub piece : List ℕ
  pub moves : Moves old new piece
  pub grows : old.peak ≤ new.peak
  pub low : old.peak ≤ file_limit → new.peak ≤ file_limit
  pub stands : (bytes : List ℕ) (entries : List KeytabEntry) → Before bytes entries → After (bytes ++ piece) entries
  pub met : (bytes : List ℕ) (entries : List KeytabEntry) → Before bytes entries → HasMet bytes old.peak → HasMet (bytes ++ piece) new.peak

-- whole records of these entries came before, so many bytes
pub record HasReached (given : ℕ) (bytes : List ℕ) (entries : List KeytabEntry) : Type 0 where
  pub given_is : given ≡ length bytes
  pub limit : length bytes ≤ file_limit
  pub reached : IsReached bytes (length bytes) entries []

-- nothing came before
abbrev pub IsFirst : List ℕ → List KeytabEntry → Type 0
IsFirst bytes entries = (bytes ≡ []) × (entries ≡ [])

abbrev pub PassesHoles : Hand → Hand → Type 0
PassesHoles old new = Goes (HasReached old.given) (HasReached new.given) old new

-- an answer about the entry that comes next, and how it stands after all that came before
pub record MeetsBehind (CameBefore : List ℕ → List KeytabEntry → Type 0) (old new : Hand) (answer : Result (Option KeytabEntry) KeytabFault) : Type 0 where
  pub goes : Goes CameBefore (λ bytes entries. StandsTo new.source new.peak (stage_after answer) bytes (entries_after entries answer)) old new
  pub within : IsWithin (stage_after answer) new.given
  pub more : GivesMore answer old.given new.given

abbrev pub MeetsNext : Hand → Hand → Result (Option KeytabEntry) KeytabFault → Type 0
MeetsNext old new answer = MeetsBehind (HasReached old.given) old new answer

-- the version is read first
abbrev pub MeetsFirst : Hand → Hand → Result (Option KeytabEntry) KeytabFault → Type 0
MeetsFirst old new answer = MeetsBehind IsFirst old new answer

-- nothing is kept of an entry
abbrev pub nothing_of : KeytabEntry → Unit {0}
nothing_of e = tt

-- an answer with what is kept of an entry in place of it
abbrev pub keeping : {E : Type 0} → (KeytabEntry → E) → Result (Option KeytabEntry) KeytabFault → Result (Option E) KeytabFault
keeping of_entry (Ok (Some e)) = Ok (Some (of_entry e))
keeping of_entry (Ok None) = Ok None
keeping of_entry (Err fault) = Err fault

pub record MeetsKept {E : Type 0} (of_entry : KeytabEntry → E) (old new : Hand) (said : Result (Option E) KeytabFault) : Type 0 where
  pub answer : Result (Option KeytabEntry) KeytabFault
  pub said_is : said ≡ keeping of_entry answer
  pub meets : MeetsNext old new answer

-- it was only said whether there is an entry
pub record MeetsPast (old new : Hand) (said : Result Bool KeytabFault) : Type 0 where
  pub answer : Result (Option KeytabEntry) KeytabFault
  pub said_is : said ≡ passed answer
  pub meets : MeetsNext old new answer

-- ---- the version and all records

-- the source gave the version and whole records with these entries
pub record HasTaken (from to : Option (List ℕ)) (given : ℕ) (entries : List KeytabEntry) : Type 0 where
  pub bytes : List ℕ
  pub taken : Consumes from to bytes
  pub reached : HasReached given bytes entries

-- what the source gave is a keytab of these entries
abbrev pub IsFound : Option (List ℕ) → Option (List ℕ) → List KeytabEntry → Type 0
IsFound from to entries = (bytes : List ℕ) × IsGiven from to bytes × IsKeytab bytes entries

-- or it has this fault of the content
abbrev pub IsFaulty : Option (List ℕ) → Option (List ℕ) → KeytabFault → Type 0
IsFaulty from to fault = fault ≢ OutOfMemory → fault ≢ Read → (bytes : List ℕ) × IsGiven from to bytes × IsFaultOf bytes fault
