-- A file to which an entry was added.
use Rattle.std.proofs.Common.{◌≡◌, ℕ, ◌+◌, ◌-◌, ◌<◌, ◌≤◌, ◌^◌, List, [], ◌∷◌, ◌++◌, length, take, refl, sym, ap, subst, ◌∙◌, append_assoc, append-nil, arith, inl, inr}
use Rattle.std.specs.List.{flat_map}
use Rattle.std.specs.Prelude.{All}
use Rattle.std.proofs.lemmas.List.{length-append, take_at}
use Rattle.std.proofs.lemmas.List.Elements.{All-push}
use Rattle.krb_keytab.specs.Entry.{KeytabEntry, FitsEntry}
use Rattle.krb_file.specs.File.{file_limit}
use Rattle.krb_keytab.specs.Format.{version, KeytabRecord, hole, record_bytes, FitsRecord, entries_of, IsKeytab, IsFaultOf}
use Rattle.krb_keytab.specs.Written.{padded_record, written_record, record_length}
use Rattle.krb_keytab.specs.Edit.{IsMadeOf, LacksRoom, FillsHole, Appends, AddsEntry, GainsEntry, WouldPass}
use Rattle.krb_keytab.specs.Inner.Finding.{HasRoom, HasNone, IsFoundRoom}
use Rattle.krb_keytab.specs.Inner.Putting.{Puts}
use Rattle.krb_keytab.specs.declared.fault.KeytabFault.{KeytabFault}
use Rattle.krb_keytab.specs.declared.finding.Extent.{Extent}
use Rattle.krb_keytab.specs.declared.finding.Room.{Room}
use Rattle.krb_keytab.specs.declared.finding.Room.TheVariants.{Hole, End}
use Rattle.krb_keytab.proofs.MadeLaws.{made_keytab, padded_fits, written_fits, padded_length}
use Rattle.krb_keytab.proofs.FileLaws.{flat_push, at_middle}
use Rattle.krb_keytab.proofs.EditLaws.{flat_split, replaced, within, no_fault}
use Rattle.krb_keytab.proofs.OneSplit.{same_records}

-- ---- a hole is filled

unfoldable pub fills_hole : {old new : List ℕ} {place : Extent} (e : KeytabEntry) → HasRoom old (record_length e) place → FitsEntry e → Puts old place.from (record_bytes (padded_record e (place.to - place.from - record_length e))) new → FillsHole old e new
fills_hole {old} {new} {place} e h fits puts =
    let k = h.holds in
    let made : IsMadeOf old (k.before ++ hole k.ignored ∷ k.after) h.end = subst (λ (r : List KeytabRecord). IsMadeOf old r h.end) k.records_are h.is in
    let there : ℕ = length (record_bytes (hole k.ignored)) in
    let zeros : ℕ = there - record_length e in
    let count : place.to - place.from - record_length e ≡ zeros = omega (arith, k.lies.to) in
    let long : length (record_bytes (padded_record e zeros)) ≡ there = omega (arith, padded_length e zeros, k.room) in
    let small : length (record_bytes (padded_record e zeros)) < 2 ^ 31 = omega (arith, long, h.is.limit, within k.before (hole k.ignored) k.after made k.lies, k.lies.to) in
    let put : Puts old place.from (record_bytes (padded_record e zeros)) new = subst (λ (n : ℕ). Puts old place.from (record_bytes (padded_record e n)) new) count puts in
    let filled = replaced k.before (hole k.ignored) (padded_record e zeros) k.after made k.lies (padded_fits e zeros fits small) long put in
    record { before = k.before; ignored = k.ignored; after = k.after; end = h.end; first = k.first; room = k.room; old_is = made; new_is = filled }

fill_gains : {old new : List ℕ} {e : KeytabEntry} → FillsHole old e new → GainsEntry old e new
fill_gains {old} {new} {e} h = record {
  before = flat_map entries_of h.before;
  after = flat_map entries_of h.after;
  old_list = subst (IsKeytab old) (flat_split entries_of h.before (hole h.ignored) h.after) (made_keytab h.old_is);
  new_list = subst (IsKeytab new) (flat_split entries_of h.before (padded_record e (length (record_bytes (hole h.ignored)) - record_length e)) h.after) (made_keytab h.new_is);
}

-- ---- a record is appended

pub appends : {old new : List ℕ} (e : KeytabEntry) (at : ℕ) → HasNone old (record_length e) at → at + record_length e ≤ file_limit → FitsEntry e → new ≡ take at old ++ record_bytes (written_record e) → Appends old e new
appends {old} {new} e at h limit fits made =
    let one : KeytabRecord = written_record e in
    let flat : List ℕ = flat_map record_bytes h.records in
    let front : List ℕ = version ++ flat in
    let kept : take at old ≡ front = ap (take at) (h.is.bytes_are ∙ sym (append_assoc version flat h.end)) ∙ take_at front h.end at (omega (arith, length-append version flat, h.holds.0)) in
    let bytes : new ≡ front ++ record_bytes one = made ∙ ap (λ (t : List ℕ). t ++ record_bytes one) kept in
    record {
      records = h.records;
      old_is = record { end = h.end; is = h.is; no_room = h.holds.1 };
      new_is = record {
        limit = omega (arith, ap length bytes, length-append front (record_bytes one), length-append version flat, h.holds.0, limit);
        fit = All-push FitsRecord h.records one h.is.fit (written_fits e fits (omega (arith, limit)));
        bytes_are = bytes ∙ append_assoc version flat (record_bytes one) ∙ ap (λ (t : List ℕ). version ++ t) (sym (flat_push record_bytes h.records one) ∙ sym (append-nil (flat_map record_bytes (h.records ++ one ∷ []))));
        is_end = inl refl;
      };
    }

append_gains : {old new : List ℕ} {e : KeytabEntry} → Appends old e new → GainsEntry old e new
append_gains {old} {new} {e} h = record {
  before = flat_map entries_of h.records;
  after = [];
  old_list = subst (IsKeytab old) (sym (append-nil (flat_map entries_of h.records))) (made_keytab h.old_is.is);
  new_list = subst (IsKeytab new) (flat_push entries_of h.records (written_record e)) (made_keytab h.new_is);
}

pub adds_gains : {old new : List ℕ} {e : KeytabEntry} → AddsEntry old e new → GainsEntry old e new
adds_gains (inl fills) = fill_gains fills
adds_gains (inr more) = append_gains more

-- ---- why an entry isn't added

-- the file would pass the limit: so it is a keytab
pub passing_no_fault : {old : List ℕ} {e : KeytabEntry} (fault : KeytabFault) → WouldPass old e → IsFaultOf old fault → ⊥
passing_no_fault {old} {e} fault w f = no_fault old (flat_map entries_of w.records) fault (made_keytab w.old_is.is) f

-- and no hole has room for the entry
pub passing_no_room : {old : List ℕ} {e : KeytabEntry} {place : Extent} → WouldPass old e → HasRoom old (record_length e) place → ⊥
passing_no_room {old} {e} {place} w h =
    let k = h.holds in
    let Lacks : KeytabRecord → Type 0 = LacksRoom (record_length e) in
    let there : List KeytabRecord = k.before ++ hole k.ignored ∷ k.after in
    let all : All Lacks there = subst (All Lacks) (same_records w.old_is.is h.is ∙ k.records_are) w.old_is.no_room in
    omega (arith, at_middle Lacks k.before (hole k.ignored) k.after all, k.room)

pub passing_is_long : {old : List ℕ} {e : KeytabEntry} (at : ℕ) → WouldPass old e → HasNone old (record_length e) at → at + record_length e ≤ file_limit → ⊥
passing_is_long {old} {e} at w h limit =
    let same : w.records ≡ h.records = same_records w.old_is.is h.is in
    omega (arith, w.bound, h.holds.0, limit, ap (λ (t : List KeytabRecord). length (flat_map record_bytes t)) same)

pub found_no_fault : (old : List ℕ) (size : ℕ) (room : Room) (fault : KeytabFault) → IsFoundRoom old size room → IsFaultOf old fault → ⊥
found_no_fault old size (Hole place) fault h f = no_fault old (flat_map entries_of h.records) fault (made_keytab h.is) f
found_no_fault old size (End at) fault h f = no_fault old (flat_map entries_of h.records) fault (made_keytab h.is) f
