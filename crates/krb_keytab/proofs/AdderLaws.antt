-- What is known of a file after an entry was added.
use Rattle.std.proofs.Common.{◌≡◌, ℕ, ◌+◌, ◌-◌, ◌<◌, ◌≤◌, List, [], ◌∷◌, ◌++◌, length, Result, Ok, Err, sym, ap, subst, ◌∙◌, arith}
use Rattle.std.specs.List.{flat_map}
use Rattle.std.specs.Prelude.{All}
use Rattle.std.proofs.lemmas.List.{length-append}
use Rattle.krb_file.specs.File.{file_limit}
use Rattle.krb_keytab.specs.Entry.{KeytabEntry, FitsEntry}
use Rattle.krb_keytab.specs.Format.{version, KeytabRecord, hole, record_bytes}
use Rattle.krb_keytab.specs.Written.{padded_record, written_record, record_length}
use Rattle.krb_keytab.specs.Edit.{Appends, IsMadeOf}
use Rattle.krb_keytab.specs.Inner.Finding.{HasRoom, HasNone}
use Rattle.krb_keytab.specs.Inner.Putting.{Puts}
use Rattle.krb_keytab.specs.Inner.Room.{holes_of, KnowsRoom, IsTaken, PutsIn}
use Rattle.krb_keytab.specs.declared.holes.Hole.{Hole}
use Rattle.krb_keytab.specs.declared.fault.KeytabFault.{KeytabFault}
use Rattle.krb_keytab.specs.declared.finding.Extent.{Extent}
use Rattle.krb_keytab.specs.declared.finding.Room.TheVariants as room
use Rattle.krb_keytab.proofs.EditLaws.{within}
use Rattle.krb_keytab.proofs.AddLaws.{fills_hole}
use Rattle.krb_keytab.proofs.OneSplit.{same_records}
use Rattle.krb_keytab.proofs.PutLaws.{Puts-length}
use Rattle.krb_keytab.proofs.RoomLaws.{entry_more, holes_joined, none_fits, stands_for}
use Rattle.krb_keytab.proofs.FileLaws.{flat_push}
use Rattle.krb_keytab.proofs.MadeLaws.{padded_length}

abbrev pub place_of : Hole → Extent
place_of one = record { from = one.from; to = one.from + one.size }

-- what is known of a length, of one that is the same
pub at_length : {holes others : List Hole} {one : Hole} {size other : ℕ} → size ≡ other → IsTaken holes size one others → IsTaken holes other one others
at_length {holes} {others} {one} e t = subst (λ (n : ℕ). IsTaken holes n one others) e t

pub has_room : {bytes : List ℕ} {holes : List Hole} {at size : ℕ} {one : Hole} {others : List Hole} → KnowsRoom bytes holes at → IsTaken holes size one others → HasRoom bytes size (place_of one)
has_room {bytes} {holes} {at} {size} {one} k t =
    let s = stands_for (length version) k.records t.before one t.after (sym k.holds.1 ∙ t.old_is) in
    record {
      records = k.records;
      end = k.end;
      is = k.is;
      holds = record {
        before = s.before;
        ignored = s.ignored;
        after = s.after;
        records_are = s.records_are;
        lies = record { from = s.from; to = ap (λ (n : ℕ). one.from + n) s.size };
        first = none_fits size (length version) s.before t.before s.front_is t.small;
        room = subst (λ (n : ℕ). size ≤ n) s.size t.room;
      };
    }

pub ends_within : {bytes : List ℕ} {size : ℕ} {place : Extent} → HasRoom bytes size place → (place.to ≤ length bytes) × (length bytes ≤ file_limit)
ends_within {bytes} h =
    let k = h.holds in
    (within k.before (hole k.ignored) k.after (subst (λ (r : List KeytabRecord). IsMadeOf bytes r h.end) k.records_are h.is) k.lies, h.is.limit)

pub has_none : {bytes : List ℕ} {holes : List Hole} {at : ℕ} (size : ℕ) → KnowsRoom bytes holes at → All (λ (h : Hole). h.size < size) holes → HasNone bytes size at
has_none {bytes} {holes} size k small = record { records = k.records; end = k.end; is = k.is; holds = (k.holds.0, none_fits size (length version) k.records holes (sym k.holds.1) small) }

whole_length : {bytes : List ℕ} {records : List KeytabRecord} {end : List ℕ} → IsMadeOf bytes records end → length bytes ≡ length version + length (flat_map record_bytes records) + length end
whole_length {bytes} {records} {end} is =
    omega (arith, ap length is.bytes_are, length-append version (flat_map record_bytes records ++ end), length-append (flat_map record_bytes records) end)

-- a hole takes an entry always
pub filled_always : (place : Extent) (e : KeytabEntry) (old new : List ℕ) (result : Result (Unit {0}) KeytabFault) → PutsIn (room.Hole place) e old new result → PutsIn (room.Hole place) e old new (Ok tt)
filled_always place e old new (Ok done) p = p
filled_always place e old new (Err fault) p = absurd p

-- a hole was filled
pub knows_filled : {old new : List ℕ} {holes : List Hole} {at : ℕ} {one : Hole} {others : List Hole} (e : KeytabEntry) → KnowsRoom old holes at → IsTaken holes (record_length e) one others → FitsEntry e
    → Puts old one.from (record_bytes (padded_record e (one.from + one.size - one.from - record_length e))) new → KnowsRoom new others at
unfolding has_room fills_hole
knows_filled {old} {new} {holes} {at} {one} {others} e k t fits puts =
    let s = stands_for (length version) k.records t.before one t.after (sym k.holds.1 ∙ t.old_is) in
    let made = (fills_hole e (has_room k t) fits puts).new_is in
    let there : ℕ = length (record_bytes (hole s.ignored)) in
    let one_more : KeytabRecord = padded_record e (there - record_length e) in
    let long : length (record_bytes one_more) ≡ there = omega (arith, padded_length e (there - record_length e), t.room, s.size) in
    let place : length version + length (flat_map record_bytes s.before) + length (record_bytes one_more) ≡ one.from + one.size = omega (arith, s.from, s.size, long) in
    record {
      records = s.before ++ one_more ∷ s.after;
      end = k.end;
      is = made;
      holds = (
        omega (arith, k.holds.0, whole_length k.is, whole_length made, Puts-length puts),
        t.new_is ∙ sym (
            holes_joined (length version) s.before (one_more ∷ s.after)
            ∙ ap (λ (n : ℕ). holes_of (length version) s.before ++ holes_of n s.after) place
            ∙ ap (λ (l : List Hole). l ++ holes_of (one.from + one.size) s.after) s.front_is
            ∙ ap (λ (l : List Hole). t.before ++ l) s.back_is),
      );
    }

-- a record was appended
pub knows_appended : {old new : List ℕ} {holes others : List Hole} {at : ℕ} (e : KeytabEntry) → KnowsRoom old holes at → others ≡ holes → Appends old e new → KnowsRoom new others (at + record_length e)
knows_appended {old} {new} {holes} {others} {at} e k same a =
    let made : IsMadeOf new (k.records ++ written_record e ∷ []) [] =
    subst (λ (r : List KeytabRecord). IsMadeOf new (r ++ written_record e ∷ []) []) (same_records a.old_is.is k.is) a.new_is in
    record {
      records = k.records ++ written_record e ∷ [];
      end = [];
      is = made;
      holds = (
        omega (arith, k.holds.0, ap length (flat_push record_bytes k.records (written_record e)), length-append (flat_map record_bytes k.records) (record_bytes (written_record e))),
        entry_more k.records e _ _ others (same ∙ k.holds.1),
      );
    }
