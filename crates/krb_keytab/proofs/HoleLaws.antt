-- The holes that no entry has taken, and the first of them that is long enough.
use Rattle.std.proofs.Common.{◌≡◌, ℕ, ◌+◌, ◌<◌, ◌≤◌, List, [], ◌∷◌, ◌++◌, length, take, drop, map, get_or, refl, sym, ap, subst, ◌∙◌, cond, arith, add-one, length-take}
use Rattle.std.specs.List.{AllByRecursion}
use Rattle.std.specs.Prelude.{All, nat_lt, slice_index, slice_set}
use Rattle.std.proofs.lemmas.Bool.{lt-ltb}
use Rattle.std.proofs.lemmas.List.{get_or-map, get_or-take, length-map, set_split}
use Rattle.std.proofs.lemmas.List.Elements.{All-filter, All-from_recursion, All-head, All-tail, filter-append}
use Rattle.krb_index.specs.Places.{IsFirstAtLeast}
use Rattle.krb_keytab.specs.Format.{KeytabRecord, hole, entry, record_bytes}
use Rattle.krb_keytab.specs.Inner.Holes.{free}
use Rattle.krb_keytab.specs.Inner.Room.{holes_of, IsTaken}
use Rattle.krb_keytab.specs.declared.holes.Hole.{Hole}
use Rattle.krb_keytab.proofs.RoomLaws.{hole_at}

-- ---- none was taken yet

has_bytes : (holes : List Hole) (first : Hole) → 0 < first.size → free (first ∷ holes) ≡ first ∷ free holes
has_bytes holes first some = ap (λ b. cond b (first ∷ free holes) (free holes)) (lt-ltb 0 first.size some)

pub all_free : (holes : List Hole) → All (λ hole. 0 < hole.size) holes → free holes ≡ holes
all_free [] some = refl
all_free (first ∷ holes) some =
    has_bytes holes first (All-head (λ (hole : Hole). 0 < hole.size) first holes some)
    ∙ ap (λ (l : List Hole). first ∷ l) (all_free holes (All-tail (λ (hole : Hole). 0 < hole.size) first holes some))

have_bytes : (at : ℕ) (records : List KeytabRecord) → AllByRecursion (λ (h : Hole). 0 < h.size) (holes_of at records)
have_bytes at [] = tt
have_bytes at (hole ignored ∷ others) = (omega arith, have_bytes (at + length (record_bytes (hole ignored))) others)
have_bytes at (entry e short_kvno rest ∷ others) = have_bytes (at + length (record_bytes (entry e short_kvno rest))) others

pub have_bytes_all : (at : ℕ) (records : List KeytabRecord) (holes : List Hole) → holes ≡ holes_of at records → All (λ hole. 0 < hole.size) holes
have_bytes_all at records holes are = subst (All (λ (hole : Hole). 0 < hole.size)) (sym are) (All-from_recursion (λ (hole : Hole). 0 < hole.size) (holes_of at records) (have_bytes at records))

-- ---- the first that is long enough

size_at : (holes : List Hole) (sizes : List ℕ) (k : ℕ) (d : Hole) → sizes ≡ map (λ (hole : Hole). hole.size) holes → k < length holes → (get_or holes k d).size ≡ slice_index sizes k
size_at holes sizes k d are within = sym (ap (λ (l : List ℕ). slice_index l k) are ∙ get_or-map (λ (hole : Hole). hole.size) holes k d 0 within)

pub none_long : (holes : List Hole) (sizes : List ℕ) (size : ℕ) → sizes ≡ map (λ (hole : Hole). hole.size) holes → All (λ number. number < size) sizes → All (λ hole. hole.size < size) (free holes)
none_long holes sizes size are less =
    All-filter (λ (hole : Hole). nat_lt 0 hole.size) (λ (hole : Hole). hole.size < size) holes
    (λ k d within.
    let inside : k < length sizes = omega (arith, ap length are, length-map holes (λ (hole : Hole). hole.size)) in
    subst (λ n. n < size) (sym (size_at holes sizes k d are within)) (less k 0 inside))

before_short : (holes : List Hole) (sizes : List ℕ) (size at : ℕ) → sizes ≡ map (λ (hole : Hole). hole.size) holes → IsFirstAtLeast sizes size at → at < length holes → All (λ hole. hole.size < size) (take at holes)
before_short holes sizes size at are is inside = λ k d within.
    let below : k < at = omega (arith, length-take at holes) in
    let there = size_at holes sizes k d are (omega arith) in
    rw (get_or-take at holes k d below) (subst (λ n. n < size) (sym there) (is.before k below))

pub in_holes : (holes : List Hole) (sizes : List ℕ) (size at : ℕ) → sizes ≡ map (λ (hole : Hole). hole.size) holes → IsFirstAtLeast sizes size at → at < length holes
in_holes holes sizes size at are is = omega (arith, is.within, ap length are, length-map holes (λ (hole : Hole). hole.size))

pub is_taken : (holes : List Hole) (sizes : List ℕ) (size at : ℕ) (one : Hole) → 0 < size → sizes ≡ map (λ (hole : Hole). hole.size) holes → IsFirstAtLeast sizes size at → one ≡ get_or holes at one
    → IsTaken (free holes) size one (free (slice_set holes at (record one { size = 0 })))
is_taken holes sizes size at one some are is there =
    let within = in_holes holes sizes size at are is in
    let room : size ≤ one.size = subst (λ n. size ≤ n) (sym (size_at holes sizes at one are within) ∙ ap (λ (h : Hole). h.size) (sym there)) is.here in
    let none : Hole = record one { size = 0 } in
    let before = take at holes in
    let after = drop (at + 1) holes in
    record {
      before = free before;
      after = free after;
      old_is = ap free (hole_at holes at one within there) ∙ filter-append (λ (hole : Hole). nat_lt 0 hole.size) before (one ∷ after)
          ∙ ap (λ (l : List Hole). free before ++ l) (has_bytes after one (omega arith));
      new_is = ap free (set_split holes at none within ∙ ap (λ n. before ++ none ∷ drop n holes) (sym (add-one at))) ∙ filter-append (λ (hole : Hole). nat_lt 0 hole.size) before (none ∷ after);
      small = All-filter (λ (hole : Hole). nat_lt 0 hole.size) (λ (hole : Hole). hole.size < size) before (before_short holes sizes size at are is within);
      room = room;
    }
