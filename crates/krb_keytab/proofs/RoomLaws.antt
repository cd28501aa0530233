-- The holes of a file to which entries are added one after another.
use Rattle.std.proofs.Common.{◌≡◌, ℕ, ◌+◌, ◌<◌, List, [], ◌∷◌, ◌++◌, length, refl, sym, ap, subst, ◌∙◌, arith, append-nil, add-one, suc, take, drop, get_or, drop-cons}
use Rattle.std.specs.List.{flat_map, AllByRecursion}
use Rattle.std.specs.Prelude.{All}
use Rattle.std.proofs.lemmas.List.{length-append, take-append-drop}
use Rattle.std.proofs.lemmas.List.Elements.{recursion_from_All, All-from_recursion}
use Rattle.krb_keytab.specs.Format.{version, KeytabRecord, hole, entry, record_bytes}
use Rattle.krb_keytab.specs.Entry.{KeytabEntry}
use Rattle.krb_keytab.specs.Edit.{LacksRoom}
use Rattle.krb_keytab.specs.Inner.Room.{holes_of}
use Rattle.krb_keytab.specs.declared.holes.Hole.{Hole}

further : (one : KeytabRecord) (before : List KeytabRecord) (at : ℕ) → at + length (record_bytes one) + length (flat_map record_bytes before) ≡ at + length (flat_map record_bytes (one ∷ before))
further one before at = omega (arith, length-append (record_bytes one) (flat_map record_bytes before))

pub holes_joined : (at : ℕ) (before after : List KeytabRecord) → holes_of at (before ++ after) ≡ holes_of at before ++ holes_of (at + length (flat_map record_bytes before)) after
holes_joined at [] after = ap (λ (n : ℕ). holes_of n after) (omega arith)
holes_joined at (hole ignored ∷ before) after =
    let there : ℕ = at + length (record_bytes (hole ignored)) in
    ap (λ (t : List Hole). record { from = at; size = length (record_bytes (hole ignored)) } ∷ t)
    (holes_joined there before after ∙ ap (λ (n : ℕ). holes_of there before ++ holes_of n after) (further (hole ignored) before at))
holes_joined at (entry e short_kvno rest ∷ before) after =
    let there : ℕ = at + length (record_bytes (entry e short_kvno rest)) in
    holes_joined there before after ∙ ap (λ (n : ℕ). holes_of there before ++ holes_of n after) (further (entry e short_kvno rest) before at)

-- the record of a hole of the list
pub record StandsFor (at : ℕ) (records : List KeytabRecord) (front : List Hole) (one : Hole) (back : List Hole) : Type 0 where
  pub before : List KeytabRecord
  pub ignored : List ℕ
  pub after : List KeytabRecord
  pub records_are : records ≡ before ++ hole ignored ∷ after
  pub from : one.from ≡ at + length (flat_map record_bytes before)
  pub size : one.size ≡ length (record_bytes (hole ignored))
  pub front_is : holes_of at before ≡ front
  pub back_is : holes_of (one.from + one.size) after ≡ back

behind : {at : ℕ} {records : List KeytabRecord} {front : List Hole} {one : Hole} {back : List Hole} (first : KeytabRecord) (holes : List Hole)
    → ((before : List KeytabRecord) → holes_of (at + length (record_bytes first)) before ≡ front → holes_of at (first ∷ before) ≡ holes)
    → StandsFor (at + length (record_bytes first)) records front one back → StandsFor at (first ∷ records) holes one back
behind {at} first holes joins s = record {
  before = first ∷ s.before;
  ignored = s.ignored;
  after = s.after;
  records_are = ap (λ (t : List KeytabRecord). first ∷ t) s.records_are;
  from = s.from ∙ further first s.before at;
  size = s.size;
  front_is = joins s.before s.front_is;
  back_is = s.back_is;
}

pub stands_for : (at : ℕ) (records : List KeytabRecord) (front : List Hole) (one : Hole) (back : List Hole) → holes_of at records ≡ front ++ one ∷ back → StandsFor at records front one back
stands_for at [] front one back e = absurd (omega (arith, ap length e, length-append front (one ∷ back)))
stands_for at (entry e short_kvno rest ∷ records) front one back is =
    behind (entry e short_kvno rest) front (λ before joined. joined) (stands_for (at + length (record_bytes (entry e short_kvno rest))) records front one back is)
stands_for at (hole ignored ∷ records) [] one back is =
    let there : ℕ = length (record_bytes (hole ignored)) in
    let this : record { from = at; size = there } ≡ one = cc in
    let others : holes_of (at + there) records ≡ back = cc in
    let from : at ≡ one.from = ap (λ (h : Hole). h.from) this in
    let size : there ≡ one.size = ap (λ (h : Hole). h.size) this in
    record {
      before = [];
      ignored = ignored;
      after = records;
      records_are = refl;
      from = omega (arith, from);
      size = sym size;
      front_is = refl;
      back_is = ap (λ (n : ℕ). holes_of n records) (omega (arith, from, size)) ∙ others;
    }
stands_for at (hole ignored ∷ records) (first ∷ front) one back is =
    let there : ℕ = length (record_bytes (hole ignored)) in
    let this : record { from = at; size = there } ≡ first = cc in
    let others : holes_of (at + there) records ≡ front ++ one ∷ back = cc in
    behind (hole ignored) (first ∷ front)
    (λ before joined. ap (λ (h : Hole). h ∷ holes_of (at + there) before) this ∙ ap (λ (t : List Hole). first ∷ t) joined)
    (stands_for (at + there) records front one back others)

-- holes that are too short are no room
too_short : (size at : ℕ) (records : List KeytabRecord) → AllByRecursion (λ (h : Hole). h.size < size) (holes_of at records) → AllByRecursion (LacksRoom size) records
too_short size at [] all = tt
too_short size at (hole ignored ∷ others) all = (all.0, too_short size (at + length (record_bytes (hole ignored))) others all.1)
too_short size at (entry e short_kvno rest ∷ others) all = (tt, too_short size (at + length (record_bytes (entry e short_kvno rest))) others all)

pub none_fits : (size at : ℕ) (records : List KeytabRecord) (holes : List Hole) → holes_of at records ≡ holes → All (λ (h : Hole). h.size < size) holes → All (LacksRoom size) records
none_fits size at records holes is all =
    All-from_recursion (LacksRoom size) records (too_short size at records (subst (AllByRecursion (λ (h : Hole). h.size < size)) (sym is) (recursion_from_All (λ (h : Hole). h.size < size) holes all)))

-- one more record was read
pub hole_more : (records : List KeytabRecord) (ignored : List ℕ) (holes : List Hole) (from size : ℕ) → holes ≡ holes_of (length version) records
    → from ≡ length version + length (flat_map record_bytes records) → size ≡ length (record_bytes (hole ignored))
    → holes ++ record { from = from; size = size } ∷ [] ≡ holes_of (length version) (records ++ hole ignored ∷ [])
hole_more records ignored holes from size are at is =
    ap (λ (t : List Hole). t ++ record { from = from; size = size } ∷ []) are
    ∙ ap (λ (n : ℕ). holes_of (length version) records ++ record { from = n; size = size } ∷ []) at
    ∙ ap (λ (n : ℕ). holes_of (length version) records ++ record { from = length version + length (flat_map record_bytes records); size = n } ∷ []) is
    ∙ sym (holes_joined (length version) records (hole ignored ∷ []))

pub entry_more : (records : List KeytabRecord) (e : KeytabEntry) (short_kvno : ℕ) (rest : List ℕ) (holes : List Hole) → holes ≡ holes_of (length version) records
    → holes ≡ holes_of (length version) (records ++ entry e short_kvno rest ∷ [])
entry_more records e short_kvno rest holes are =
    are ∙ sym (append-nil (holes_of (length version) records)) ∙ sym (holes_joined (length version) records (entry e short_kvno rest ∷ []))

-- ---- the list of holes

pub hole_at : (holes : List Hole) (at : ℕ) (one : Hole) → at < length holes → one ≡ get_or holes at one → holes ≡ take at holes ++ one ∷ drop (at + 1) holes
hole_at holes at one within is =
    sym (take-append-drop at holes) ∙ ap (λ (t : List Hole). take at holes ++ t)
    (drop-cons holes at one within ∙ ap (λ (h : Hole). h ∷ drop (suc at) holes) (sym is) ∙ ap (λ (n : ℕ). one ∷ drop n holes) (sym (add-one at)))
