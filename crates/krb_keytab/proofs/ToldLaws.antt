-- What a reader answers last is what the whole file says, and what it read to its end is a keytab.
use Rattle.std.proofs.Common.{◌≡◌, ℕ, List, [], ◌++◌, length, take, Option, Some, None, Ok, Err, refl, sym, ap, subst, ◌∙◌, append_assoc, append-nil, arith, inl, inr, ◌∷◌, Result}
use Rattle.std.specs.Prelude.{◌≢◌}
use Rattle.std.specs.List.{flat_map}
use Rattle.std.specs.Io.KnownBytes.{Consumes}
use Rattle.std.proofs.lemmas.List.{take-append-le, take_all, length-append}
use Rattle.std.proofs.lemmas.List.Concat.{flat_map-append}
use Rattle.krb_keytab.specs.Entry.{KeytabEntry}
use Rattle.krb_file.specs.File.{file_limit, TakesFile}
use Rattle.krb_file.proofs.FileLaws.{answer_known}
use Rattle.krb_keytab.specs.Format.{version, record_bytes, entries_of, IsReached, IsKeytab, IsFaultOf}
use Rattle.krb_keytab.specs.Items.{StopsSo, AreFirst, StandsTo}
use Rattle.krb_keytab.specs.declared.fault.KeytabFault.{KeytabFault}
use Rattle.krb_keytab.specs.declared.fault.KeytabFault.TheVariants.{Version, TooLong, Read, OutOfMemory}
use Rattle.krb_keytab.specs.declared.stage.Stage.{Stage}
use Rattle.krb_keytab.specs.declared.stage.Stage.TheVariants.{Start, Records, End, Failed}
use Rattle.krb_keytab.proofs.OneRecord.{no_record}
use Rattle.krb_keytab.proofs.OneSplit.{first_records, one_last}
use Rattle.krb_keytab.proofs.OneAnswer.{keytab_answers, concluded, fault_of}
use Rattle.krb_keytab.proofs.StandLaws.{ends_reached}
use Rattle.std.proofs.KnownBytes.{Consumes-trans}
use Rattle.krb_file.specs.Hand.{Hand}
use Rattle.krb_keytab.specs.Inner.Meeting.{MeetsNext, HasTaken, IsFound, IsFaulty}

pub end_told : (whole bytes : List ℕ) (left : Option (List ℕ)) (held : ℕ) (entries : List KeytabEntry) → Consumes (Some whole) left bytes → StandsTo left held End bytes entries → IsKeytab whole entries
end_told whole bytes left held entries c s =
    let all = concluded (Some whole) left bytes entries None c s in
    answer_known keytab_answers (Some whole) left all.0 (Ok entries) all.1 all.2

pub fault_told : (whole bytes : List ℕ) (left : Option (List ℕ)) (held : ℕ) (entries : List KeytabEntry) (fault : KeytabFault) → fault ≢ Read → fault ≢ OutOfMemory → Consumes (Some whole) left bytes → StandsTo left held (Failed fault) bytes entries → IsFaultOf whole fault
fault_told whole bytes left held entries fault p q c s =
    let all = fault_of (Some whole) left held bytes entries fault c s q p in
    answer_known keytab_answers (Some whole) left all.0 (Err fault) all.1 all.2

-- ---- the first entries of a file

abbrev pub Begins : List KeytabEntry → List KeytabEntry → Type 0
Begins all entries = (others : List KeytabEntry) × (all ≡ entries ++ others)

begins : (whole bytes : List ℕ) (left : Option (List ℕ)) (all entries : List KeytabEntry) (at : ℕ) (behind : List ℕ) → Consumes (Some whole) left bytes → IsKeytab whole all → IsReached bytes at entries behind → Begins all entries
begins whole bytes None all entries at behind c k r = absurd c
begins whole bytes (Some rest) all entries at behind c k r =
    let front : List ℕ = flat_map record_bytes r.records in
    let parts : whole ≡ version ++ (front ++ (behind ++ rest)) = c ∙ ap (λ (t : List ℕ). t ++ rest) r.bytes_are ∙ ap (λ (t : List ℕ). version ++ t) (append_assoc front behind rest) in
    let m = first_records r.records k.reached.records (behind ++ rest) k.behind r.fit k.reached.fit (sym parts ∙ k.reached.bytes_are) (no_record 0 None k.behind k.end) in
    (flat_map entries_of m.0, k.reached.entries_are ∙ ap (flat_map entries_of) m.1 ∙ flat_map-append entries_of r.records m.0 ∙ ap (λ (t : List KeytabEntry). t ++ flat_map entries_of m.0) (sym r.entries_are))

begins_first : (whole bytes : List ℕ) (left : Option (List ℕ)) (all entries : List KeytabEntry) → Consumes (Some whole) left bytes → IsKeytab whole all → AreFirst bytes entries → Begins all entries
begins_first whole bytes left all entries c k (inl none) = (all, sym (ap (λ (t : List KeytabEntry). t ++ all) none))
begins_first whole bytes left all entries c k (inr reached) = begins whole bytes left all entries reached.0 reached.1 c k reached.2

pub first_told : (whole bytes : List ℕ) (left : Option (List ℕ)) (held : ℕ) (stage : Stage) (all entries : List KeytabEntry) → Consumes (Some whole) left bytes → StandsTo left held stage bytes entries → IsKeytab whole all → Begins all entries
first_told whole bytes left held Start all entries c s k = (all, sym (ap (λ (t : List KeytabEntry). t ++ all) s.1))
first_told whole bytes left held Records all entries c s k = begins whole bytes left all entries (length bytes) [] c k (ends_reached left held (length bytes) bytes entries refl s).reached
first_told whole bytes left held End all entries c s k = begins whole bytes left all entries s.stops.at s.stops.behind c k s.stops.reached
first_told whole bytes left held (Failed Version) all entries c s k = (all, sym (ap (λ (t : List KeytabEntry). t ++ all) s.stops.0))
first_told whole bytes left held (Failed TooLong) all entries c s k = let l = k.limit in let long = fault_told whole bytes left held entries TooLong (λ e. cc) (λ e. cc) c s in absurd (omega arith)
first_told whole bytes left held (Failed Read) all entries c s k = begins_first whole bytes left all entries c k s
first_told whole bytes left held (Failed OutOfMemory) all entries c s k = begins_first whole bytes left all entries c k s
first_told whole bytes left held (Failed fault) all entries c s k = begins whole bytes left all entries s.stops.at s.stops.behind c k s.stops.reached

-- ---- two readers of one file

stopped : (whole bytes : List ℕ) (left : Option (List ℕ)) (held : ℕ) (entries : List KeytabEntry) (fault : KeytabFault) → fault ≢ Read → fault ≢ OutOfMemory → Consumes (Some whole) left bytes → StandsTo left held (Failed fault) bytes entries
    → (last : Option KeytabFault) × StopsSo (take file_limit whole) entries last
stopped whole bytes None held entries fault p q c s = absurd c
stopped whole bytes (Some rest) held entries TooLong p q c s =
    (s.last, subst (λ (t : List ℕ). StopsSo t entries s.last) (sym (ap (take file_limit) c ∙ take-append-le file_limit bytes rest (omega (arith, s.long)))) s.stops)
stopped whole bytes (Some rest) held entries Read p q c s = absurd (p refl)
stopped whole bytes (Some rest) held entries OutOfMemory p q c s = absurd (q refl)
stopped whole bytes (Some rest) held entries fault p q c s =
    let same : take file_limit whole ≡ bytes = ap (take file_limit) (c ∙ ap (λ (t : List ℕ). bytes ++ t) s.all ∙ append-nil bytes) ∙ take_all file_limit bytes s.limit in
    (Some fault, subst (λ (t : List ℕ). StopsSo t entries (Some fault)) (sym same) s.stops)

pub same_before : (whole bytes others : List ℕ) (left right : Option (List ℕ)) (held peak : ℕ) (entries more : List KeytabEntry) (fault other : KeytabFault) → fault ≢ Read → fault ≢ OutOfMemory → other ≢ Read → other ≢ OutOfMemory
    → Consumes (Some whole) left bytes → StandsTo left held (Failed fault) bytes entries → Consumes (Some whole) right others → StandsTo right peak (Failed other) others more → entries ≡ more
same_before whole bytes others left right held peak entries more fault other p q r s c a d b =
    let one = stopped whole bytes left held entries fault p q c a in
    let two = stopped whole others right peak more other r s d b in
    (one_last (take file_limit whole) entries more one.0 two.0 one.1 two.1).0

pub entry_taken : (from : Option (List ℕ)) (old new : Hand) (entries more : List KeytabEntry) (e : KeytabEntry) → HasTaken from old.source old.given entries → MeetsNext old new (Ok (Some e)) → more ≡ entries ++ e ∷ []
    → HasTaken from new.source new.given more
entry_taken from old new entries more e t m pushed =
    let m = m.goes in
    let all : List ℕ = t.bytes ++ m.piece in
    record {
      bytes = all;
      taken = Consumes-trans from old.source new.source t.bytes m.piece t.taken m.moves.consumed;
      reached = rw pushed (ends_reached new.source new.peak new.given all (entries ++ e ∷ []) (omega (arith, m.moves.given, t.reached.given_is, length-append t.bytes m.piece)) (m.stands t.bytes entries t.reached));
    }

pub end_taken : (from : Option (List ℕ)) (old new : Hand) (entries : List KeytabEntry) → HasTaken from old.source old.given entries → MeetsNext old new (Ok None) → IsFound from new.source entries
end_taken from old new entries t m =
    concluded from new.source (t.bytes ++ m.goes.piece) entries None (Consumes-trans from old.source new.source t.bytes m.goes.piece t.taken m.goes.moves.consumed) (m.goes.stands t.bytes entries t.reached)

pub next_faulty : (from : Option (List ℕ)) (old new : Hand) (entries : List KeytabEntry) (fault : KeytabFault) → HasTaken from old.source old.given entries → MeetsNext old new (Err fault) → IsFaulty from new.source fault
next_faulty from old new entries fault t m =
    fault_of from new.source new.peak (t.bytes ++ m.goes.piece) entries fault (Consumes-trans from old.source new.source t.bytes m.goes.piece t.taken m.goes.moves.consumed) (m.goes.stands t.bytes entries t.reached)

-- how much the source gave
pub next_takes : (from : Option (List ℕ)) (old new : Hand) (entries : List KeytabEntry) (answer : Result (Option KeytabEntry) KeytabFault) → HasTaken from old.source old.given entries → MeetsNext old new answer → TakesFile from new.source
next_takes from old new entries answer t m =
    let m = m.goes in
    let here = t.reached in
    record {
      piece = t.bytes ++ m.piece;
      taken = Consumes-trans from old.source new.source t.bytes m.piece t.taken m.moves.consumed;
      within = let l = m.moves.limit (omega (arith, here.given_is, here.limit)) in omega (arith, l, m.moves.given, here.given_is, length-append t.bytes m.piece);
    }
