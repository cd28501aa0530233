-- Reading the records of a file to their end.
use Rattle.std.proofs.Common.{◌≡◌, ◌⊎◌, ℕ, ◌+◌, ◌<◌, ◌≤◌, List, [], ◌∷◌, ◌++◌, length, Some, Result, Ok, Err, refl, sym, ap, subst, ◌∙◌, append_assoc, append-nil, arith, inl, inr}
use Rattle.std.specs.List.{flat_map}
use Rattle.std.specs.Prelude.{◌≢◌, All}
use Rattle.std.proofs.lemmas.List.{length-append}
use Rattle.std.proofs.lemmas.List.Elements.{All-push}
use Rattle.krb_file.specs.Window.{AtHand}
use Rattle.krb_file.specs.Hand.{slice_hand}
use Rattle.krb_keytab.specs.Entry.{KeytabEntry}
use Rattle.krb_keytab.specs.Fault.{failed_reads}
use Rattle.krb_file.specs.Flow.{counted}
use Rattle.krb_file.specs.File.{file_limit}
use Rattle.krb_keytab.specs.Format.{version, KeytabRecord, hole, entry, record_bytes, FitsRecord, entries_of, IsReached, IsFaultOf}
use Rattle.krb_keytab.specs.Inner.Finding.{LiesAt}
use Rattle.krb_keytab.specs.Inner.Meeting.{nothing_of, Moves, IsWhole, MeetsLast, MeetsOne}
use Rattle.krb_keytab.specs.declared.fault.KeytabFault.{KeytabFault}
use Rattle.krb_keytab.specs.declared.fault.KeytabFault.TheVariants.{Read, OutOfMemory}
use Rattle.krb_keytab.specs.declared.found.Found.{Found}
use Rattle.krb_keytab.specs.declared.found.Found.TheVariants.{Hole, Entry}
use Rattle.krb_keytab.proofs.FileLaws.{record_first, flat_push}
use Rattle.krb_keytab.proofs.StandLaws.{failed_stands}
use Rattle.krb_keytab.proofs.ToldLaws.{fault_told}

-- ---- bytes in memory, for which no memory lacks, and of which no read fails

abbrev found_err : KeytabFault → Result (Found (Unit {0})) KeytabFault
found_err fault = Err fault

pub no_memory : (fault : KeytabFault) → (found_err fault ≡ Err OutOfMemory → ⊥ ⊎ ⊥) → fault ≢ OutOfMemory
no_memory fault lacks = λ is. elim (lacks (ap found_err is)) [ inl never ↦ never | inr never ↦ never ]

pub no_read : (fault : KeytabFault) → 0 ≡ counted 0 (failed_reads (found_err fault)) → fault ≢ Read
no_read fault unfailed = λ is. let one : 0 ≡ counted 0 1 = unfailed ∙ ap (λ (f : KeytabFault). counted 0 (failed_reads (found_err f))) is in omega (arith, one)

-- ---- the records that were read

-- of the bytes these records were read, and the place is after them
pub record Spans (bytes : List ℕ) (place : AtHand (List ℕ)) (records : List KeytabRecord) : Type 0 where
  pub fit : All FitsRecord records
  pub bytes_are : bytes ≡ version ++ (flat_map record_bytes records ++ place.source)
  pub at : place.given ≡ length version + length (flat_map record_bytes records)

-- a record of this kind was read, and where it lies
pub record Passes (bytes : List ℕ) (place : AtHand (List ℕ)) (records : List KeytabRecord) (one : KeytabRecord) (after : AtHand (List ℕ)) : Type 0 where
  pub spans : Spans bytes after (records ++ one ∷ [])
  pub lies : LiesAt records one (record { from = place.given; to = after.given })
  pub smaller : length after.source < length place.source
  pub limit : after.given ≤ file_limit

abbrev Reads : AtHand (List ℕ) → AtHand (List ℕ) → Result (Found (Unit {0})) KeytabFault → Type 0
Reads place after answer = MeetsOne nothing_of (slice_hand place) (slice_hand after) answer

module _ {bytes : List ℕ} {place : AtHand (List ℕ)} {records : List KeytabRecord} (after : AtHand (List ℕ)) (s : Spans bytes place records) where
  pass : (one : KeytabRecord) (piece : List ℕ) → FitsRecord one → piece ≡ record_bytes one → Moves (slice_hand place) (slice_hand after) piece → place.given + length piece ≤ file_limit → Passes bytes place records one after
  pass one piece fits is m limit =
      let flat = flat_push record_bytes records one in
      let before : List ℕ = flat_map record_bytes records in
      let parts : place.source ≡ record_bytes one ++ after.source = m.consumed ∙ ap (λ (t : List ℕ). t ++ after.source) is in
      record {
        spans = record {
          fit = All-push FitsRecord records one s.fit fits;
          bytes_are = s.bytes_are ∙ ap (λ (u : List ℕ). version ++ u) (ap (λ (u : List ℕ). before ++ u) parts ∙ sym (append_assoc before (record_bytes one) after.source) ∙ ap (λ (u : List ℕ). u ++ after.source) (sym flat));
          at = omega (arith, m.given, ap length is, s.at, ap length flat, length-append before (record_bytes one));
        };
        lies = record { from = s.at; to = omega (arith, m.given, ap length is) };
        smaller = omega (arith, record_first one, ap length parts, length-append (record_bytes one) after.source);
        limit = omega (arith, m.given, limit);
      }

-- a hole was read
pub record PassesHole (bytes : List ℕ) (place : AtHand (List ℕ)) (records : List KeytabRecord) (after : AtHand (List ℕ)) : Type 0 where
  pub ignored : List ℕ
  pub passes : Passes bytes place records (hole ignored) after

pub record PassesEntry (bytes : List ℕ) (place : AtHand (List ℕ)) (records : List KeytabRecord) (after : AtHand (List ℕ)) : Type 0 where
  pub e : KeytabEntry
  pub short_kvno : ℕ
  pub rest : List ℕ
  pub passes : Passes bytes place records (entry e short_kvno rest) after

abbrev list_of : List KeytabEntry → List KeytabEntry
list_of xs = xs

module _ {bytes : List ℕ} {place : AtHand (List ℕ)} {records : List KeytabRecord} (after : AtHand (List ℕ)) (s : Spans bytes place records) where
  pub hole_passed : Reads place after (Ok Hole) → PassesHole bytes place records after
  hole_passed m = of_kind m.meets.one m.meets.fits m.meets.piece_is m.meets.entries_are
    where
      of_kind : (one : KeytabRecord) → FitsRecord one → m.piece ≡ record_bytes one → list_of [] ≡ entries_of one → PassesHole bytes place records after
      of_kind (hole ignored) fits is none = record { ignored = ignored; passes = pass after s (hole ignored) m.piece fits is m.moves m.meets.limit }
      of_kind (entry e short_kvno rest) fits is none = absurd cc

  pub entry_passed : Reads place after (Ok (Entry tt)) → PassesEntry bytes place records after
  entry_passed m = let w : IsWhole place.given m.piece (m.meets.0 ∷ []) = m.meets.3 in of_kind w.one w.fits w.piece_is w.entries_are w.limit
    where
      of_kind : (one : KeytabRecord) → FitsRecord one → m.piece ≡ record_bytes one → list_of (m.meets.0 ∷ []) ≡ entries_of one → place.given + length m.piece ≤ file_limit → PassesEntry bytes place records after
      of_kind (hole ignored) fits is some limit = absurd cc
      of_kind (entry e short_kvno rest) fits is some limit = record { e = e; short_kvno = short_kvno; rest = rest; passes = pass after s (entry e short_kvno rest) m.piece fits is m.moves limit }

  pub stopped : (fault : KeytabFault) → place.given ≤ file_limit → Reads place after (Err fault) → (fault ≢ OutOfMemory) × (fault ≢ Read) → IsFaultOf bytes fault
  stopped fault limit m content =
      let before : List ℕ = flat_map record_bytes records in
      let front : List ℕ = version ++ before in
      let entries : List KeytabEntry = flat_map entries_of records in
      let here : place.given ≡ length front = omega (arith, s.at) in
      let reached : IsReached front (length front) entries [] = record { records = records; fit = s.fit; bytes_are = ap (λ (t : List ℕ). version ++ t) (sym (append-nil before)); at_is = length-append version before; entries_are = refl } in
      let stands = failed_stands front entries reached (Some after.source) after.peak m.piece fault (omega (arith, here, limit)) (subst (λ (n : ℕ). MeetsLast (Some after.source) n m.piece (Some fault)) here m.meets) in
      let given : bytes ≡ (front ++ m.piece) ++ after.source =
      s.bytes_are ∙ sym (append_assoc version before place.source) ∙ ap (λ (t : List ℕ). front ++ t) m.moves.consumed ∙ sym (append_assoc front m.piece after.source) in
      fault_told bytes (front ++ m.piece) (Some after.source) after.peak entries fault content.1 content.0 given stands
