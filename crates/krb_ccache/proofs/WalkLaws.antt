-- A walk over parts, one after the other, is a walk over the whole.
use Rattle.std.proofs.Common.{◌≡◌, ℕ, suc, ◌+◌, ◌-◌, ◌<◌, ◌≤◌, Bool, true, false, List, [], ◌++◌, length, take, drop, leb, Option, Some, None, Result, Ok, Err, refl, sym, ap, ◌∙◌, append_assoc, append-nil, arith, inl, inr}
use Rattle.std.specs.Int.{Width, w32, byte_len, from_be_bytes}
use Rattle.std.proofs.lemmas.Bool.{cases_lt, lt-leb}
use Rattle.std.proofs.KnownBytes.{Consumes-nil, Consumes-trans}
use Rattle.std.proofs.lemmas.List.{length-append, length-take, length-drop, drop-drop, take_at, drop_at, take-append-drop, take-append-le}
use Rattle.krb_file.specs.Window.{Keeps}
use Rattle.krb_file.specs.Hand.{Hand}
use Rattle.krb_file.specs.File.{file_limit}
use Rattle.krb_file.specs.Cursor.{Place, ◌>>=◌, bytes_at, number_at}
use Rattle.krb_file.proofs.CursorLaws.{IsField-bytes}
use Rattle.krb_ccache.specs.declared.walking.TakeFault.{TakeFault}
use Rattle.krb_ccache.specs.Inner.Walking.{Pass, Same, skip_at, and_then, pass_none, pass_if, pass_number, pass_times, pass_data, Goes, Stops, IsWalk, Taken, TookFewer, IsTaken, last_number}
use Rattle.krb_ccache.proofs.Fields.{bind_assoc, bind_same}

-- ---- lists

-- as many bytes at the front of one list are those of the other
pub front_same : (xs ys more others : List ℕ) → length xs ≡ length ys → xs ++ more ≡ ys ++ others → (xs ≡ ys) × (more ≡ others)
front_same xs ys more others len e = (
  sym (take_at xs more (length ys) len) ∙ ap (take (length ys)) e ∙ take_at ys others (length ys) refl,
  sym (drop_at xs more (length ys) len) ∙ ap (drop (length ys)) e ∙ drop_at ys others (length ys) refl,
)

-- the shorter front of one list is the front of the other
pub shorter_front : (xs ys more others : List ℕ) → length xs ≤ length ys → xs ++ more ≡ ys ++ others → ys ≡ xs ++ drop (length xs) ys
shorter_front xs ys more others le e =
    let front : take (length xs) ys ≡ xs = sym (take-append-le (length xs) ys others le) ∙ ap (take (length xs)) (sym e) ∙ take_at xs more (length xs) refl in
    sym (take-append-drop (length xs) ys) ∙ ap (λ (t : List ℕ). t ++ drop (length xs) ys) front

-- ---- what is at hand

joined : (old middle new : Hand) (front bytes : List ℕ) → Keeps old.source middle.source old middle front → Keeps middle.source new.source middle new bytes → Keeps old.source new.source old new (front ++ bytes)
joined old middle new front bytes p q = record {
  consumed = Consumes-trans old.source middle.source new.source front bytes p.consumed q.consumed;
  bytes = q.bytes ∙ ap (λ (t : List ℕ). t ++ bytes) p.bytes ∙ append_assoc old.bytes front bytes;
  peak = omega (arith, p.peak, q.peak, ap length q.bytes, length-append middle.bytes bytes);
  given = omega (arith, p.given, q.given, length-append front bytes);
}

-- ---- two ways to pass over the same

pub also : (p q r : Pass) → Same p q → Same q r → Same p r
also p q r e f place = e place ∙ f place

pub grouped : (p q r : Pass) → Same (and_then (and_then p q) r) (and_then p (and_then q r))
grouped p q r place = bind_assoc (p place) q r

pub same_both : (p p' q q' : Pass) → Same p p' → Same q q' → Same (and_then p q) (and_then p' q')
same_both p p' q q' e f place = ap (λ (o : Option Place). o >>= q) (e place) ∙ bind_same (p' place) q q' f

pub same_then : (p q q' : Pass) → Same q q' → Same (and_then p q) (and_then p q')
same_then p q q' f = same_both p p q q' (λ place. refl) f

pub nothing_then : (p : Pass) → Same (and_then p pass_none) p
nothing_then p place = from_first (p place)
  where
    from_first : (o : Option Place) → (o >>= pass_none) ≡ o
    from_first None = refl
    from_first (Some next) = refl

-- ---- so many bytes, and a number

pub skips : (count at : ℕ) (bytes rest : List ℕ) → length bytes ≡ count → skip_at count (record { at = at; rest = bytes ++ rest }) ≡ Some (record { at = at + length bytes; rest = rest })
skips count at bytes rest len = ap (λ (o : Option (List ℕ × Place)). o >>= λ x. Some x.1) ((IsField-bytes count).again at bytes rest len)

-- nothing is passed over of fewer bytes than these
abbrev pub NeedsBytes : Pass → ℕ → Type 0
NeedsBytes p count = (at : ℕ) (rest : List ℕ) → length rest < count → p (record { at = at; rest = rest }) ≡ None

pub no_skip : (count : ℕ) → NeedsBytes (skip_at count) count
unfolding bytes_at
no_skip count at rest few = let short : leb count (length rest) ≡ false = lt-leb count (length rest) few in rw short refl

abbrev number_of : Width → List ℕ × Place → Option (ℕ × Place)
number_of w read = Some (from_be_bytes w read.0, read.1)

pub numbers : (w : Width) (others : ℕ → Pass) (number at : ℕ) (bytes rest : List ℕ) → length bytes ≡ byte_len w → number ≡ from_be_bytes w bytes → pass_number w others (record { at = at; rest = bytes ++ rest }) ≡ others number (record { at = at + length bytes; rest = rest })
unfolding number_at
numbers w others number at bytes rest len is =
    ap (λ (o : Option (List ℕ × Place)). (o >>= number_of w) >>= λ n. others n.0 n.1) ((IsField-bytes (byte_len w)).again at bytes rest len) ∙ ap (λ (n : ℕ). others n (record { at = at + length bytes; rest = rest })) (sym is)

no_number : (w : Width) (others : ℕ → Pass) → NeedsBytes (pass_number w others) (byte_len w)
unfolding number_at bytes_at
no_number w others at rest few = let short : leb (byte_len w) (length rest) ≡ false = lt-leb (byte_len w) (length rest) few in rw short refl

-- where the second of two has too few bytes
module _ (count more : ℕ) (p : Pass) (none : NeedsBytes p more) where
  too_few : NeedsBytes (and_then (skip_at count) p) (count + more)
  too_few at rest few =
      elim (cases_lt (length rest) count) [
        | inl lt ↦ ap (λ (o : Option Place). o >>= p) (no_skip count at rest lt)
        | inr le ↦
            let first = skips count at (take count rest) (drop count rest) (omega (arith, length-take count rest, le)) in
            let whole = ap (λ (t : List ℕ). skip_at count (record { at = at; rest = t })) (sym (take-append-drop count rest)) ∙ first in
            ap (λ (o : Option Place). o >>= p) whole ∙ none (at + length (take count rest)) (drop count rest) (omega (arith, length-drop count rest, few, le))
      ]

-- as many bytes as both have are skipped at once
pub skip_both : (one other : ℕ) → Same (skip_at (one + other)) (and_then (skip_at one) (skip_at other))
skip_both one other place =
    elim (cases_lt (length place.rest) (one + other)) [
      | inl lt ↦ no_skip (one + other) place.at place.rest lt ∙ sym (too_few one other (skip_at other) (no_skip other) place.at place.rest lt)
      | inr le ↦
          let a : List ℕ = take one place.rest in
          let b : List ℕ = take other (drop one place.rest) in
          let rest : List ℕ = drop other (drop one place.rest) in
          let first : length a ≡ one = omega (arith, length-take one place.rest, le) in
          let second : length b ≡ other = omega (arith, length-take other (drop one place.rest), length-drop one place.rest, le) in
          let parts : place.rest ≡ a ++ (b ++ rest) = sym (take-append-drop one place.rest) ∙ ap (λ (t : List ℕ). a ++ t) (sym (take-append-drop other (drop one place.rest))) in
          let both : length (a ++ b) ≡ one + other = omega (arith, length-append a b, first, second) in
          let at : (place.at + length a) + length b ≡ place.at + length (a ++ b) = omega (arith, length-append a b) in
          let here = ap (λ (t : List ℕ). record { at = place.at; rest = t }) parts in
          let once = ap (λ (t : List ℕ). skip_at (one + other) (record { at = place.at; rest = t })) (parts ∙ sym (append_assoc a b rest)) ∙ skips (one + other) place.at (a ++ b) rest both in
          let twice = ap (λ (p : Place). and_then (skip_at one) (skip_at other) p) here ∙ ap (λ (o : Option Place). o >>= skip_at other) (skips one place.at a (b ++ rest) first) ∙ skips other (place.at + length a) b rest second in
          once ∙ sym (twice ∙ ap (λ (n : ℕ). Some (record { at = n; rest = rest })) at)
    ]

pub skip_zero : Same (skip_at 0) pass_none
skip_zero place = skips 0 place.at [] place.rest refl ∙ ap (λ (n : ℕ). Some (record { at = n; rest = place.rest })) (omega arith)

pub skip_more : (one other : ℕ) (p : Pass) → Same (and_then (skip_at one) (and_then (skip_at other) p)) (and_then (skip_at (one + other)) p)
skip_more one other p place = sym (grouped (skip_at one) (skip_at other) p place) ∙ sym (same_both (skip_at (one + other)) (and_then (skip_at one) (skip_at other)) p p (skip_both one other) (λ next. refl) place)

pub none_skipped : (p : Pass) → Same (and_then (skip_at 0) p) p
none_skipped p = same_both (skip_at 0) pass_none p p skip_zero (λ next. refl)

-- ---- how a walk goes on

pub goes_same : (p p' q q' : Pass) (old new : Hand) → Same p' p → Same q q' → Goes p q old new → Goes p' q' old new
goes_same p p' q q' old new e f g = record {
  piece = g.piece;
  keeps = g.keeps;
  within = g.within;
  same = λ at rest. e _ ∙ g.same at rest ∙ f _;
}

pub goes_then : (p q r : Pass) (old middle new : Hand) → Goes p q old middle → Goes q r middle new → Goes p r old new
goes_then p q r old middle new g h = record {
  piece = g.piece ++ h.piece;
  keeps = joined old middle new g.piece h.piece g.keeps h.keeps;
  within = h.within;
  same = λ at rest.
      ap (λ (t : List ℕ). p (record { at = at; rest = t })) (append_assoc g.piece h.piece rest) ∙ g.same at (h.piece ++ rest) ∙ h.same (at + length g.piece) rest
      ∙ ap (λ (n : ℕ). r (record { at = n; rest = rest })) (omega (arith, length-append g.piece h.piece));
}

pub goes_more : (p q r : Pass) (old new : Hand) → Goes p q old new → Goes (and_then p r) (and_then q r) old new
goes_more p q r old new g = record { piece = g.piece; keeps = g.keeps; within = g.within; same = λ at rest. ap (λ (o : Option Place). o >>= r) (g.same at rest) }

-- nothing was taken
pub goes_none : (p : Pass) (old : Hand) → length old.bytes ≤ old.peak → old.given ≤ file_limit → Goes p p old old
goes_none p old peak within = record {
  piece = [];
  keeps = record { consumed = Consumes-nil old.source; bytes = sym (append-nil old.bytes); peak = omega (arith, peak); given = omega arith };
  within = within;
  same = λ at rest. ap (λ (n : ℕ). p (record { at = n; rest = rest })) (omega arith);
}

pub goes_if : (b : Bool) (p : Pass) (old new : Hand) → Goes p pass_none old new → Goes (and_then (pass_if b) p) (pass_if b) old new
goes_if true p old new g = g
goes_if false p old new g = record { piece = g.piece; keeps = g.keeps; within = g.within; same = λ at rest. refl }

-- the same, if a test before it has passed
pub goes_guarded : (b : Bool) (p q r : Pass) (old new : Hand) → Goes (and_then p q) r old new → Goes (and_then (and_then (pass_if b) p) q) (and_then (pass_if b) r) old new
goes_guarded true p q r old new g = g
goes_guarded false p q r old new g = record { piece = g.piece; keeps = g.keeps; within = g.within; same = λ at rest. refl }

pub bytes_goes : (count : ℕ) (old new : Hand) → Taken count old new → Goes (skip_at count) pass_none old new
bytes_goes count old new t = record { piece = t.piece; keeps = t.keeps; within = t.within; same = λ at rest. skips count at t.piece rest t.length_is }

module _ (memory : Type 0) where
  pub stops_same : (p p' : Pass) (old new : Hand) (stop : TakeFault) → Same p' p → Stops p memory old new stop → Stops p' memory old new stop
  stops_same p p' old new stop e h = record { piece = h.piece; keeps = h.keeps; within = h.within; count = h.count; some = h.some; none = λ at rest few. e _ ∙ h.none at rest few; lacks = h.lacks }

  pub stops_then : (p q : Pass) (old middle new : Hand) (stop : TakeFault) → Goes p q old middle → Stops q memory middle new stop → Stops p memory old new stop
  stops_then p q old middle new stop g h = record {
    piece = g.piece ++ h.piece;
    keeps = joined old middle new g.piece h.piece g.keeps h.keeps;
    within = h.within;
    count = h.count;
    some = h.some;
    none = λ at rest few. ap (λ (t : List ℕ). p (record { at = at; rest = t })) (append_assoc g.piece h.piece rest) ∙ g.same at (h.piece ++ rest) ∙ h.none (at + length g.piece) rest few;
    lacks = h.lacks;
  }

  pub stops_more : (p r : Pass) (old new : Hand) (stop : TakeFault) → Stops p memory old new stop → Stops (and_then p r) memory old new stop
  stops_more p r old new stop h = record { piece = h.piece; keeps = h.keeps; within = h.within; count = h.count; some = h.some; none = λ at rest few. ap (λ (o : Option Place). o >>= r) (h.none at rest few); lacks = h.lacks }

  pub stops_if : (b : Bool) (p : Pass) (old new : Hand) (stop : TakeFault) → Stops p memory old new stop → Stops (and_then (pass_if b) p) memory old new stop
  stops_if true p old new stop h = h
  stops_if false p old new stop h = record { piece = h.piece; keeps = h.keeps; within = h.within; count = h.count; some = h.some; none = λ at rest few. refl; lacks = h.lacks }

  pub stops_guarded : (b : Bool) (p q : Pass) (old new : Hand) (stop : TakeFault) → Stops (and_then p q) memory old new stop → Stops (and_then (and_then (pass_if b) p) q) memory old new stop
  stops_guarded true p q old new stop h = h
  stops_guarded false p q old new stop h = record { piece = h.piece; keeps = h.keeps; within = h.within; count = h.count; some = h.some; none = λ at rest few. refl; lacks = h.lacks }

  pub walk_same : {T : Type 0} (p p' : Pass) (q : T → Pass) (old new : Hand) (result : Result T TakeFault) → Same p' p → IsWalk p q memory old new result → IsWalk p' q memory old new result
  walk_same p p' q old new (Ok x) e g = goes_same p p' (q x) (q x) old new e (λ place. refl) g
  walk_same p p' q old new (Err stop) e h = stops_same p p' old new stop e h

  pub walk_then : {T : Type 0} (p q : Pass) (r : T → Pass) (old middle new : Hand) (result : Result T TakeFault) → Goes p q old middle → IsWalk q r memory middle new result → IsWalk p r memory old new result
  walk_then p q r old middle new (Ok x) g h = goes_then p q (r x) old middle new g h
  walk_then p q r old middle new (Err stop) g h = stops_then p q old middle new stop g h

  -- ---- what is taken at once

  -- nothing is passed over of fewer bytes
  pub fewer_stop : (p : Pass) (count : ℕ) → NeedsBytes p count → (old new : Hand) (stop : TakeFault) → TookFewer memory count old new stop → Stops p memory old new stop
  fewer_stop p count needs old new stop t = record {
    piece = t.piece;
    keeps = t.keeps;
    within = t.within;
    count = count - length t.piece;
    some = omega (arith, t.fewer);
    none = λ at rest few. needs at (t.piece ++ rest) (omega (arith, few, length-append t.piece rest, t.fewer));
    lacks = t.lacks;
  }

  pub bytes_stops : (count : ℕ) (old new : Hand) (stop : TakeFault) → TookFewer memory count old new stop → Stops (skip_at count) memory old new stop
  bytes_stops count = fewer_stop (skip_at count) count (no_skip count)

  pub bytes_walk : {T : Type 0} (count : ℕ) (old new : Hand) (result : Result T TakeFault) → IsTaken memory count old new result → IsWalk (skip_at count) (λ x. pass_none) memory old new result
  bytes_walk count old new (Ok x) t = bytes_goes count old new t
  bytes_walk count old new (Err stop) t = bytes_stops count old new stop t

  -- so many bytes, and a number after them
  module _ (w : Width) (skip : ℕ) (others : ℕ → Pass) where
    pub number_stops : (old new : Hand) (stop : TakeFault) → TookFewer memory (skip + byte_len w) old new stop → Stops (and_then (skip_at skip) (pass_number w others)) memory old new stop
    number_stops = fewer_stop (and_then (skip_at skip) (pass_number w others)) (skip + byte_len w) (too_few skip (byte_len w) (pass_number w others) (no_number w others))

-- so many bytes are skipped, and the others passed over
pub skipped_goes : (skip more : ℕ) (p q : Pass) (old new : Hand) → Taken (skip + more) old new
    → ((at : ℕ) (back rest : List ℕ) → length back ≡ more → back ≡ drop (length old.bytes + skip) new.bytes → p (record { at = at; rest = back ++ rest }) ≡ q (record { at = at + length back; rest = rest }))
    → Goes (and_then (skip_at skip) p) q old new
skipped_goes skip more p q old new t passes =
    let front : List ℕ = take skip t.piece in
    let back : List ℕ = drop skip t.piece in
    let parts : t.piece ≡ front ++ back = sym (take-append-drop skip t.piece) in
    let first : length front ≡ skip = omega (arith, length-take skip t.piece, t.length_is) in
    let second : length back ≡ more = omega (arith, length-drop skip t.piece, t.length_is) in
    let last = ap (drop (length old.bytes + skip)) t.keeps.bytes ∙ sym (drop-drop skip (length old.bytes) (old.bytes ++ t.piece)) ∙ ap (drop skip) (drop_at old.bytes t.piece (length old.bytes) refl) in
    record {
      piece = t.piece;
      keeps = t.keeps;
      within = t.within;
      same = λ at rest.
          ap (λ (l : List ℕ). and_then (skip_at skip) p (record { at = at; rest = l })) (ap (λ (l : List ℕ). l ++ rest) parts ∙ append_assoc front back rest)
          ∙ ap (λ (o : Option Place). o >>= p) (skips skip at front (back ++ rest) first) ∙ passes (at + length front) back rest second (sym last)
          ∙ ap (λ (n : ℕ). q (record { at = n; rest = rest })) (omega (arith, ap length parts, length-append front back));
    }

module _ (w : Width) (skip : ℕ) (others : ℕ → Pass) where
  pub number_goes : (old new : Hand) (number : ℕ) → Taken (skip + byte_len w) old new → number ≡ last_number w skip old.bytes new.bytes → Goes (and_then (skip_at skip) (pass_number w others)) (others number) old new
  number_goes old new number t last =
      skipped_goes skip (byte_len w) (pass_number w others) (others number) old new t (λ at back rest len is. numbers w others number at back rest len (last ∙ ap (from_be_bytes w) (sym is)))

-- ---- so many times bytes after their length

module _ (skip gap : ℕ) where
  abbrev whole : ℕ → Pass
  whole count = and_then (skip_at skip) (pass_times count (pass_data gap))

  -- so many were passed over, but for the bytes of the last
  abbrev pub Front : Hand → Hand → ℕ → ℕ → ℕ → Type 0
  Front old now count i last = Goes (whole count) (and_then (skip_at last) (pass_times (count - i) (pass_data gap))) old now

  pub front_none : (old : Hand) (count : ℕ) → length old.bytes ≤ old.peak → old.given ≤ file_limit → Front old old count 0 skip
  front_none old count peak within =
      let same : count ≡ count - 0 = omega arith in
      goes_same _ _ _ _ old old (λ place. refl) (λ place. ap (λ (n : ℕ). whole n place) same) (goes_none (whole count) old peak within)

  -- what comes next of those that are left
  next : (count i last : ℕ) → i < count → Same (and_then (skip_at last) (pass_times (count - i) (pass_data gap))) (and_then (and_then (skip_at (last + gap)) (pass_number w32 skip_at)) (pass_times (count - (i + 1)) (pass_data gap)))
  next count i last lt place =
      let one : count - i ≡ suc (count - (i + 1)) = omega (arith, lt) in
      let others : Pass = pass_times (count - (i + 1)) (pass_data gap) in
      ap (λ (n : ℕ). and_then (skip_at last) (pass_times n (pass_data gap)) place) one ∙ sym (grouped (skip_at last) (pass_data gap) others place)
      ∙ same_both (and_then (skip_at last) (pass_data gap)) (and_then (skip_at (last + gap)) (pass_number w32 skip_at)) others others (skip_more last gap (pass_number w32 skip_at)) (λ p. refl) place

  module _ (old middle new : Hand) (count i last : ℕ) (f : Front old middle count i last) (lt : i < count) where
    abbrev one_number : Pass
    one_number = and_then (skip_at (last + gap)) (pass_number w32 skip_at)

    abbrev others_left : Pass
    others_left = pass_times (count - (i + 1)) (pass_data gap)

    begun : Goes (whole count) (and_then one_number others_left) old middle
    begun = goes_same _ _ _ _ old middle (λ place. refl) (next count i last lt) f

    pub front_more : (number : ℕ) → Taken ((last + gap) + 4) middle new → number ≡ last_number w32 (last + gap) middle.bytes new.bytes → Front old new count (i + 1) number
    front_more number t is = goes_then _ _ _ old middle new begun (goes_more one_number (skip_at number) others_left middle new (number_goes w32 (last + gap) skip_at middle new number t is))

    pub front_stops : (memory : Type 0) (stop : TakeFault) → TookFewer memory ((last + gap) + 4) middle new stop → Stops (whole count) memory old new stop
    front_stops memory stop t = stops_then memory _ _ old middle new stop begun (stops_more memory one_number others_left middle new stop (number_stops memory w32 (last + gap) skip_at middle new stop t))

  pub front_all : (old now : Hand) (count i last : ℕ) → Front old now count i last → count ≤ i → Goes (whole count) (skip_at last) old now
  front_all old now count i last f le =
      let none : count - i ≡ 0 = omega (arith, le) in
      goes_same _ _ _ _ old now (λ place. refl) (λ place. ap (λ (n : ℕ). and_then (skip_at last) (pass_times n (pass_data gap)) place) none ∙ nothing_then (skip_at last) place) f
