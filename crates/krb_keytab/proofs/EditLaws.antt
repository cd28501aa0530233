-- What a file is once one of its records was replaced, or a record was put in place of its end.
use Rattle.std.proofs.Common.{◌≡◌, ℕ, ◌+◌, ◌-◌, ◌≤◌, List, [], ◌∷◌, ◌++◌, length, take, drop, Option, Some, None, Result, Ok, Err, refl, sym, ap, subst, ◌∙◌, append_assoc, arith}
use Rattle.std.specs.Prelude.{◌≢◌, ◌↔◌, MatchResult}
use Rattle.std.specs.List.{flat_map, AllByRecursion}
use Rattle.std.proofs.lemmas.List.{length-append, length-replicate, take_at, drop_at}
use Rattle.std.proofs.lemmas.List.Concat.{flat_map-append}
use Rattle.std.proofs.lemmas.List.Elements.{All-from_recursion, recursion_from_All}
use Rattle.krb_keytab.specs.Entry.{KeytabEntry}
use Rattle.krb_keytab.specs.Format.{version, KeytabRecord, entry, entry_bytes, record_bytes, FitsRecord, entries_of, IsKeytab, IsFaultOf}
use Rattle.krb_keytab.specs.Edit.{IsMadeOf, zero_hole, MakesHole, LosesEntry, LacksEntry}
use Rattle.krb_keytab.specs.Inner.Finding.{LiesAt, HoldsIndex, IsFoundEntry}
use Rattle.krb_keytab.specs.Inner.Putting.{Puts}
use Rattle.krb_keytab.specs.declared.fault.KeytabFault.{KeytabFault}
use Rattle.krb_keytab.specs.declared.fault.KeytabFault.TheVariants.{NoSuchEntry}
use Rattle.krb_keytab.specs.declared.finding.Extent.{Extent}
use Rattle.krb_keytab.proofs.FileLaws.{entry_size, at_middle}
use Rattle.krb_keytab.proofs.OneAnswer.{same_answers}
use Rattle.krb_keytab.proofs.PutLaws.{Puts-length}
use Rattle.krb_keytab.proofs.MadeLaws.{made_keytab}

-- ---- one record among others

pub flat_split : {A : Type 0} (f : KeytabRecord → List A) (before : List KeytabRecord) (one : KeytabRecord) (after : List KeytabRecord) → flat_map f (before ++ one ∷ after) ≡ flat_map f before ++ (f one ++ flat_map f after)
flat_split f before one after = flat_map-append f before (one ∷ after)

-- the bytes before a record, the record, and the bytes after it
parts : (before : List KeytabRecord) (one : KeytabRecord) (after : List KeytabRecord) (end : List ℕ)
    → version ++ (flat_map record_bytes (before ++ one ∷ after) ++ end) ≡ (version ++ flat_map record_bytes before) ++ (record_bytes one ++ (flat_map record_bytes after ++ end))
parts before one after end =
    let front : List ℕ = flat_map record_bytes before in
    let back : List ℕ = flat_map record_bytes after in
    ap (λ (t : List ℕ). version ++ (t ++ end)) (flat_split record_bytes before one after)
    ∙ ap (λ (t : List ℕ). version ++ t) (append_assoc front (record_bytes one ++ back) end ∙ ap (λ (t : List ℕ). front ++ t) (append_assoc (record_bytes one) back end))
    ∙ sym (append_assoc version front (record_bytes one ++ (back ++ end)))

with_other : (P : KeytabRecord → Type 0) (before : List KeytabRecord) (one other : KeytabRecord) (after : List KeytabRecord) → AllByRecursion P (before ++ one ∷ after) → P other → AllByRecursion P (before ++ other ∷ after)
with_other P [] one other after h q = (q, h.1)
with_other P (x ∷ before) one other after h q = (h.0, with_other P before one other after h.1 q)

-- where a record lies, it lies within the file
pub within : {bytes : List ℕ} (before : List KeytabRecord) (one : KeytabRecord) (after : List KeytabRecord) {end : List ℕ} {place : Extent} → IsMadeOf bytes (before ++ one ∷ after) end → LiesAt before one place → place.to ≤ length bytes
within before one after {end} m lies =
    omega (arith, lies.from, lies.to, ap length (m.bytes_are ∙ parts before one after end), length-append (flat_map record_bytes before) (record_bytes one ++ (flat_map record_bytes after ++ end)), length-append (record_bytes one) (flat_map record_bytes after ++ end))

pub replaced : {bytes new : List ℕ} (before : List KeytabRecord) (one other : KeytabRecord) (after : List KeytabRecord) {end : List ℕ} {place : Extent} → IsMadeOf bytes (before ++ one ∷ after) end → LiesAt before one place → FitsRecord other
    → length (record_bytes other) ≡ length (record_bytes one) → Puts bytes place.from (record_bytes other) new → IsMadeOf new (before ++ other ∷ after) end
replaced {bytes} {new} before one other after {end} {place} m lies fits size puts =
    let front : List ℕ = version ++ flat_map record_bytes before in
    let behind : List ℕ = flat_map record_bytes after ++ end in
    let old : bytes ≡ front ++ (record_bytes one ++ behind) = m.bytes_are ∙ parts before one after end in
    let first : take place.from bytes ≡ front = ap (take place.from) old ∙ take_at front (record_bytes one ++ behind) place.from (omega (arith, lies.from)) in
    let long : length (front ++ record_bytes one) ≡ place.from + length (record_bytes other) = omega (arith, length-append front (record_bytes one), lies.from, size) in
    let last : drop (place.from + length (record_bytes other)) bytes ≡ behind =
    ap (drop (place.from + length (record_bytes other))) (old ∙ sym (append_assoc front (record_bytes one) behind)) ∙ drop_at (front ++ record_bytes one) behind (place.from + length (record_bytes other)) long in
    record {
      limit = omega (arith, m.limit, Puts-length puts);
      fit = All-from_recursion FitsRecord (before ++ other ∷ after) (with_other FitsRecord before one other after (recursion_from_All FitsRecord (before ++ one ∷ after) m.fit) fits);
      bytes_are =
          puts.new_is
          ∙ ap (λ (t : List ℕ). t ++ (record_bytes other ++ drop (place.from + length (record_bytes other)) bytes)) first
          ∙ ap (λ (t : List ℕ). front ++ (record_bytes other ++ t)) last
          ∙ sym (parts before other after end);
      is_end = m.is_end;
    }

-- ---- an entry is removed

there_is : {bytes : List ℕ} {index : ℕ} {place : Extent} (h : HoldsIndex bytes index place) → IsMadeOf bytes (h.holds.before ++ entry h.holds.removed h.holds.short_kvno h.holds.rest ∷ h.holds.after) h.end
there_is {bytes} h = subst (λ (r : List KeytabRecord). IsMadeOf bytes r h.end) h.holds.records_are h.is

pub makes_hole : {old new : List ℕ} {index : ℕ} {place : Extent} (h : HoldsIndex old index place) → Puts old place.from (record_bytes (zero_hole (place.to - place.from - 4))) new → MakesHole old index new
makes_hole {old} {new} {index} {place} h puts =
    let k = h.holds in
    let one : KeytabRecord = entry k.removed k.short_kvno k.rest in
    let count : ℕ = length (entry_bytes k.removed k.short_kvno k.rest) in
    let size : place.to - place.from - 4 ≡ count = omega (arith, k.lies.to) in
    let fits : FitsRecord one = at_middle FitsRecord k.before one k.after (there_is h).fit in
    let zeros = length-replicate {A = ℕ} count 0 in
    let some = entry_size k.removed k.short_kvno k.rest in
    record {
      before = k.before;
      removed = k.removed;
      short_kvno = k.short_kvno;
      rest = k.rest;
      after = k.after;
      end = h.end;
      index_is = k.index_is;
      old_is = there_is h;
      new_is = replaced k.before one (zero_hole count) k.after (there_is h) k.lies (omega (arith, zeros, some), omega (arith, zeros, fits.1)) (omega (arith, zeros)) (subst (λ (n : ℕ). Puts old place.from (record_bytes (zero_hole n)) new) size puts);
    }

pub loses_entry : {old new : List ℕ} {index : ℕ} → MakesHole old index new → LosesEntry old index new
loses_entry {old} {new} {index} h = record {
  before = flat_map entries_of h.before;
  removed = h.removed;
  after = flat_map entries_of h.after;
  index_is = h.index_is;
  old_list = subst (IsKeytab old) (flat_split entries_of h.before (entry h.removed h.short_kvno h.rest) h.after) (made_keytab h.old_is);
  new_list = subst (IsKeytab new) (flat_split entries_of h.before (zero_hole (length (entry_bytes h.removed h.short_kvno h.rest))) h.after) (made_keytab h.new_is);
}

-- ---- one answer alone

pub no_fault : (bytes : List ℕ) (entries : List KeytabEntry) (fault : KeytabFault) → IsKeytab bytes entries → IsFaultOf bytes fault → ⊥
no_fault bytes entries fault k f = let both = same_answers bytes (Ok entries) (Err fault) k f in cc

pub same_fault : (bytes : List ℕ) (f g : KeytabFault) → IsFaultOf bytes f → IsFaultOf bytes g → f ≡ g
same_fault bytes f g p q = let both = same_answers bytes (Err f) (Err g) p q in cc

listed : (bytes : List ℕ) (index : ℕ) (place : Option Extent) → IsFoundEntry bytes index place → (entries : List KeytabEntry) × IsKeytab bytes entries
listed bytes index None l = (l.entries, l.list)
listed bytes index (Some place) h = (flat_map entries_of h.records, made_keytab h.is)

-- a file that was searched to its end has no fault
pub searched : (bytes : List ℕ) (index : ℕ) (place : Option Extent) (fault : KeytabFault) → IsFoundEntry bytes index place → IsFaultOf bytes fault → ⊥
searched bytes index place fault found f = let all = listed bytes index place found in no_fault bytes all.0 fault all.1 f

-- an entry of this index is there, or it isn't
not_lacking : (bytes : List ℕ) (index : ℕ) (place : Extent) → HoldsIndex bytes index place → LacksEntry bytes index → ⊥
not_lacking bytes index place h l =
    let k = h.holds in
    let all : List KeytabEntry = flat_map entries_of h.records in
    let both = same_answers bytes (Ok l.entries) (Ok all) l.list (made_keytab h.is) in
    let same : l.entries ≡ all = cc in
    let parts = ap (flat_map entries_of) k.records_are ∙ flat_split entries_of k.before (entry k.removed k.short_kvno k.rest) k.after in
    omega (arith, ap length same, ap length parts, length-append (flat_map entries_of k.before) (k.removed ∷ flat_map entries_of k.after), k.index_is, l.few)

-- ---- what removing answers

abbrev pub removal_of : Result (Option Extent) KeytabFault → Result (Unit {0}) KeytabFault
removal_of (Ok (Some place)) = Ok tt
removal_of (Ok None) = Err NoSuchEntry
removal_of (Err fault) = Err fault

module _ (bytes : List ℕ) (index : ℕ) where
  pub removal_missing : (found : Result (Option Extent) KeytabFault) → MatchResult found (IsFoundEntry bytes index) (IsFaultOf bytes) → removal_of found ≡ Err NoSuchEntry ↔ LacksEntry bytes index
  removal_missing (Ok None) l = (λ e. l, λ k. refl)
  removal_missing (Ok (Some place)) h = (λ e. absurd cc, λ l. absurd (not_lacking bytes index place h l))
  removal_missing (Err fault) f = (λ e. let same : fault ≡ NoSuchEntry = cc in absurd (subst (IsFaultOf bytes) same f), λ l. absurd (no_fault bytes l.entries fault l.list f))

  pub removal_faults : (found : Result (Option Extent) KeytabFault) → MatchResult found (IsFoundEntry bytes index) (IsFaultOf bytes) → (other : KeytabFault) → other ≢ NoSuchEntry → removal_of found ≡ Err other ↔ IsFaultOf bytes other
  removal_faults (Ok None) l other differs = (λ e. absurd (differs cc), λ f. absurd (searched bytes index None other l f))
  removal_faults (Ok (Some place)) h other differs = (λ e. absurd cc, λ f. absurd (searched bytes index (Some place) other h f))
  removal_faults (Err fault) g other differs = (λ e. let same : fault ≡ other = cc in subst (IsFaultOf bytes) same g, λ f. ap (λ x. removal_of (Err x)) (same_fault bytes fault other g f))
