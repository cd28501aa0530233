-- How a walk goes over the parts of a cache.
use Rattle.std.proofs.Common.{◌≡◌, ℕ, zero, suc, ◌+◌, ◌≤◌, Bool, true, false, cond, List, ◌∷◌, Option, Some, None, Result, Ok, Err, IfOk, length, refl, sym, ap, subst, ◌∙◌}
use Rattle.std.specs.Prelude.{◌&&◌}
use Rattle.std.specs.Int.{Width, w8, w16, w32, byte_len, from_be_bytes, cast_signed}
use Rattle.krb_file.specs.Cursor.{Place, ◌>>=◌, bytes_at, number_at, signed_at, data_at, times_at}
use Rattle.krb_file.specs.Hand.{Hand}
use Rattle.krb_file.specs.File.{file_limit}
use Rattle.krb_ccache.specs.declared.walking.TakeFault.{TakeFault}
use Rattle.krb_ccache.specs.declared.walking.Left.{Left}
use Rattle.krb_ccache.specs.Inner.Reading.{then_at, both_at, made_at, name_of, name_at, is_flag, allowed, byte_at, typed_of, typed_at, list_at}
use Rattle.krb_ccache.specs.Inner.Walking.{Pass, passed_at, skip_at, and_then, pass_none, pass_if, pass_number, pass_times, pass_data, left_at, Same, Goes, Stops, IsWalk, Taken, TookFewer, IsTaken, last_number}
use Rattle.krb_ccache.proofs.Fields.{bind_assoc, bind_same}
use Rattle.krb_ccache.proofs.WalkLaws.{also, grouped, same_both, same_then, none_skipped, skip_zero, skip_both, skip_more, goes_none, goes_guarded, bytes_goes, goes_same, goes_then, goes_more, goes_if, stops_same, stops_then, stops_more, stops_if, stops_guarded, bytes_stops, walk_same, walk_then, bytes_walk, number_goes, number_stops}

-- ---- what is passed over of what is read

-- the place after what is read
abbrev behind : {X : Type 0} → X × Place → Option Place
behind x = Some x.1

-- what is made of two things doesn't matter
pair_passed : {X Y Z : Type 0} (make : X → Y → Z) (o : Option (X × Place)) (other : Place → Option (Y × Place)) → ((o >>= λ x. other x.1 >>= λ y. Some (make x.0 y.0, y.1)) >>= behind) ≡ ((o >>= behind) >>= λ p. other p >>= behind)
pair_passed make None other = refl
pair_passed make (Some x) other = bind_assoc (other x.1) (λ y. Some (make x.0 y.0, y.1)) behind

pub both_passed : {X Y : Type 0} (one : Place → Option (X × Place)) (other : Place → Option (Y × Place)) → Same (passed_at (both_at one other)) (and_then (passed_at one) (passed_at other))
both_passed {X} {Y} one other place = pair_passed (λ (x : X) (y : Y). (x, y)) (one place) other

number_then : {Y : Type 0} (w : Width) (other : ℕ → Place → Option (Y × Place)) → Same (passed_at (then_at (number_at w) other)) (pass_number w (λ n. passed_at (other n)))
number_then {Y} w other place = from_number (number_at w place)
  where
    from_number : (o : Option (ℕ × Place)) → ((o >>= λ n. other n.0 n.1 >>= λ y. Some ((n.0, y.0), y.1)) >>= behind {X = ℕ × Y}) ≡ (o >>= λ n. passed_at (other n.0) n.1)
    from_number None = refl
    from_number (Some n) = bind_assoc (other n.0 n.1) (λ y. Some ((n.0, y.0), y.1)) (behind {X = ℕ × Y})

made_passed : {X Y : Type 0} (make : X → Y) (read : Place → Option (X × Place)) → Same (passed_at (made_at make read)) (passed_at read)
made_passed make read place = bind_assoc (read place) (λ x. Some (make x.0, x.1)) behind

both_as : {X Y : Type 0} (one : Place → Option (X × Place)) (p : Pass) → Same (passed_at one) p → (other : Place → Option (Y × Place)) (q : Pass) → Same (passed_at other) q → Same (passed_at (both_at one other)) (and_then p q)
both_as one p e other q f = also _ _ _ (both_passed one other) (same_both (passed_at one) p (passed_at other) q e f)

pub number_passed : (w : Width) → Same (passed_at (number_at w)) (skip_at (byte_len w))
unfolding number_at
number_passed w = made_passed (from_be_bytes w) (bytes_at (byte_len w))

pub signed_passed : (w : Width) → Same (passed_at (signed_at w)) (skip_at (byte_len w))
unfolding signed_at
signed_passed w = also _ _ _ (made_passed (cast_signed w) (number_at w)) (number_passed w)

pub key_type_passed : (count : ℕ) → Same (passed_at (both_at (signed_at w16) (bytes_at count))) (skip_at (2 + count))
key_type_passed count = also _ _ _ (both_as (signed_at w16) (skip_at 2) (signed_passed w16) (bytes_at count) (skip_at count) (λ place. refl)) (λ place. sym (skip_both 2 count place))

number_same : (w : Width) (p q : ℕ → Pass) → ((n : ℕ) → Same (p n) (q n)) → Same (pass_number w p) (pass_number w q)
number_same w p q e place = bind_same (number_at w place) (λ n. p n.0 n.1) (λ n. q n.0 n.1) (λ n. e n.0 n.1)

pub data_passed : (w : Width) → Same (passed_at (data_at w)) (pass_number w skip_at)
unfolding data_at
data_passed w place = bind_assoc (number_at w place) (λ n. bytes_at n.0 n.1) behind

times_passed : {X : Type 0} (read : Place → Option (X × Place)) (p : Pass) → Same (passed_at read) p → (count : ℕ) → Same (passed_at (times_at read count)) (pass_times count p)
unfolding times_at
times_passed read p e zero place = refl
times_passed {X} read p e (suc count) place =
    pair_passed (λ (x : X) (xs : List X). x ∷ xs) (read place) (times_at read count) ∙ same_both (passed_at read) p (passed_at (times_at read count)) (pass_times count p) e (times_passed read p e count) place

-- ---- the parts

abbrev pub from_realm : ℕ → ℕ → Pass
from_realm count realm = and_then (skip_at realm) (pass_times count (pass_data 0))

abbrev from_count : ℕ → Pass
from_count count = pass_number w32 (from_realm count)

strings_passed : (count : ℕ) → Same (and_then (passed_at (data_at w32)) (passed_at (times_at (data_at w32) count))) (from_count count)
strings_passed count =
    let one = also _ _ _ (data_passed w32) (λ place. sym (none_skipped (pass_number w32 skip_at) place)) in
    also _ _ _ (same_both (passed_at (data_at w32)) (pass_number w32 skip_at) _ _ (data_passed w32) (times_passed (data_at w32) (pass_data 0) one count)) (λ place. bind_assoc (number_at w32 place) (λ n. skip_at n.0 n.1) (pass_times count (pass_data 0)))

name_passed : Same (passed_at name_at) (and_then (skip_at 4) (pass_number w32 from_count))
unfolding name_at
name_passed =
    let names = λ (count : ℕ). also _ _ _ (both_passed (data_at w32) (times_at (data_at w32) count)) (strings_passed count) in
    also _ _ _ (made_passed name_of _) (both_as (signed_at w32) (skip_at 4) (signed_passed w32) _ _ (also _ _ _ (number_then w32 (λ count. both_at (data_at w32) (times_at (data_at w32) count))) (number_same w32 _ from_count names)))

typed_passed : Same (passed_at typed_at) (pass_data 2)
unfolding typed_at
typed_passed = also _ _ _ (made_passed typed_of (both_at (number_at w16) (data_at w32))) (both_as (number_at w16) (skip_at 2) (number_passed w16) (data_at w32) (pass_number w32 skip_at) (data_passed w32))

abbrev pub from_length : ℕ → Pass
from_length count = pass_times count (pass_data 2)

pub list_passed : Same (passed_at list_at) (pass_number w32 from_length)
unfolding list_at
list_passed = also _ _ _ (made_passed (λ counted. counted.1) _) (also _ _ _ (number_then w32 (times_at typed_at)) (number_same w32 _ from_length (times_passed typed_at (pass_data 2) typed_passed)))

pub passed_some : {X : Type 0} (o : Option (X × Place)) (behind : Place) → (o >>= λ x. Some x.1) ≡ Some behind → (x : X) × (o ≡ Some (x, behind))
passed_some None behind e = absurd cc
passed_some (Some (x, next)) behind e = let same : next ≡ behind = cc in (x, ap (λ (p : Place). Some (x, p)) same)

-- ---- the walks

module _ (memory : Type 0) where
  module _ {T : Type 0} (old middle new : Hand) (number : ℕ) (result : Result T TakeFault) where
    pub data_then : (w : Width) → Taken (0 + byte_len w) old middle → number ≡ last_number w 0 old.bytes middle.bytes → IsTaken memory number middle new result → IsWalk (passed_at (data_at w)) (λ x. pass_none) memory old new result
    data_then w t is h =
        walk_same memory _ _ _ old new result (also _ _ _ (data_passed w) (λ place. sym (none_skipped (pass_number w skip_at) place)))
        (walk_then memory _ (skip_at number) _ old middle new result (number_goes w 0 skip_at old middle number t is) (bytes_walk memory number middle new result h))

  pub data_first : (w : Width) (old new : Hand) (stop : TakeFault) → TookFewer memory (0 + byte_len w) old new stop → Stops (passed_at (data_at w)) memory old new stop
  data_first w old new stop t = stops_same memory _ _ old new stop (also _ _ _ (data_passed w) (λ place. sym (none_skipped (pass_number w skip_at) place))) (number_stops memory w 0 skip_at old new stop t)

  -- ---- what is left of the parts before, and one part

  module _ (strict : Bool) (left : Left) where
    abbrev passes : Bool
    passes = allowed strict left.good

    -- all but so many bytes of the part were taken
    abbrev pub behind_part : ℕ → Left
    behind_part last = record { skip = last; good = left.good }

    module _ (p q : Pass) (e : Same p q) where
      part_same : Same (and_then (skip_at left.skip) p) (and_then (skip_at left.skip) q)
      part_same = same_then (skip_at left.skip) p q e

      left_goes : (last : ℕ) (old new : Hand) → Goes (and_then (skip_at left.skip) q) (skip_at last) old new → Goes (and_then (left_at strict left) p) (left_at strict (behind_part last)) old new
      left_goes last old new g = goes_guarded passes (skip_at left.skip) p (skip_at last) old new (goes_same _ _ _ _ old new part_same (λ place. refl) g)

      left_stops : (old new : Hand) (stop : TakeFault) → Stops (and_then (skip_at left.skip) q) memory old new stop → Stops (and_then (left_at strict left) p) memory old new stop
      left_stops old new stop h = stops_guarded memory passes (skip_at left.skip) p old new stop (stops_same memory _ _ old new stop part_same h)

      left_walk : (old new : Hand) (result : Result Left TakeFault) → IfOk result (λ next. next.good ≡ left.good) → IsWalk (and_then (skip_at left.skip) q) (λ next. skip_at next.skip) memory old new result → IsWalk (and_then (left_at strict left) p) (left_at strict) memory old new result
      left_walk old new (Ok next) good g = subst (λ (b : Bool). Goes (and_then (left_at strict left) p) (left_at strict (record { skip = next.skip; good = b })) old new) (sym good) (left_goes next.skip old new g)
      left_walk old new (Err stop) good h = left_stops old new stop h

    -- a number, and what it says comes after it

    pub number_first : (p : Pass) (w : Width) (others : ℕ → Pass) → Same p (pass_number w others) → (old new : Hand) (stop : TakeFault) → TookFewer memory (left.skip + byte_len w) old new stop → Stops (and_then (left_at strict left) p) memory old new stop
    number_first p w others e old new stop t = left_stops p _ e old new stop (number_stops memory w left.skip others old new stop t)

    -- bytes after their length

    pub data_goes : (last : ℕ) (old new : Hand) → Taken (left.skip + 4) old new → last ≡ last_number w32 left.skip old.bytes new.bytes → Goes (and_then (left_at strict left) (passed_at (data_at w32))) (left_at strict (behind_part last)) old new
    data_goes last old new t is = left_goes _ _ (data_passed w32) last old new (number_goes w32 left.skip skip_at old new last t is)

    -- a list: its count, and its elements

    module _ (old middle new : Hand) (count : ℕ) (t : Taken (left.skip + 4) old middle) (is : count ≡ last_number w32 left.skip old.bytes middle.bytes) where
      counted : Goes (and_then (skip_at left.skip) (pass_number w32 from_length)) (and_then (skip_at 0) (from_length count)) old middle
      counted = goes_same _ _ _ _ old middle (λ place. refl) (λ place. sym (none_skipped (from_length count) place)) (number_goes w32 left.skip from_length old middle count t is)

      pub list_walk : (result : Result Left TakeFault) → IfOk result (λ next. next.good ≡ left.good) → IsWalk (and_then (skip_at 0) (from_length count)) (λ next. skip_at next.skip) memory middle new result
          → IsWalk (and_then (left_at strict left) (passed_at list_at)) (left_at strict) memory old new result
      list_walk result good h = left_walk _ _ list_passed old new result good (walk_then memory _ _ _ old middle new result counted h)

    -- a principal: its type, the number of its components, the length of its realm, and what comes after

    abbrev name_start : Pass
    name_start = and_then (skip_at (left.skip + 4)) (pass_number w32 from_count)

    name_same : Same (and_then (skip_at left.skip) (and_then (skip_at 4) (pass_number w32 from_count))) name_start
    name_same = skip_more left.skip 4 (pass_number w32 from_count)

    pub name_first : (old new : Hand) (stop : TakeFault) → TookFewer memory ((left.skip + 4) + 4) old new stop → Stops (and_then (left_at strict left) (passed_at name_at)) memory old new stop
    name_first old new stop t = left_stops _ _ name_passed old new stop (stops_same memory _ _ old new stop name_same (number_stops memory w32 (left.skip + 4) from_count old new stop t))

    module _ (old first : Hand) (count : ℕ) (t : Taken ((left.skip + 4) + 4) old first) (is : count ≡ last_number w32 (left.skip + 4) old.bytes first.bytes) where
      begun : Goes (and_then (skip_at left.skip) (and_then (skip_at 4) (pass_number w32 from_count))) (and_then (skip_at 0) (from_count count)) old first
      begun = goes_same _ _ _ _ old first name_same (λ place. sym (none_skipped (from_count count) place)) (number_goes w32 (left.skip + 4) from_count old first count t is)

      pub name_second : (new : Hand) (stop : TakeFault) → TookFewer memory (0 + 4) first new stop → Stops (and_then (left_at strict left) (passed_at name_at)) memory old new stop
      name_second new stop few = left_stops _ _ name_passed old new stop (stops_then memory _ _ old first new stop begun (number_stops memory w32 0 (from_realm count) first new stop few))

      pub name_walk : (middle new : Hand) (realm : ℕ) → Taken (0 + 4) first middle → realm ≡ last_number w32 0 first.bytes middle.bytes → (result : Result Left TakeFault) → IfOk result (λ next. next.good ≡ left.good)
          → IsWalk (from_realm count realm) (λ next. skip_at next.skip) memory middle new result → IsWalk (and_then (left_at strict left) (passed_at name_at)) (left_at strict) memory old new result
      name_walk middle new realm u also result good h =
          left_walk _ _ name_passed old new result good (walk_then memory _ _ _ old middle new result (goes_then _ _ _ old first middle begun (number_goes w32 0 (from_realm count) first middle realm u also)) h)

    -- the byte of a flag

    abbrev pub tested : ℕ → Pass
    tested byte = pass_if (allowed strict (is_flag byte))

    pub byte_passed : Same (passed_at (byte_at strict)) (pass_number w8 tested)
    byte_passed place = from_number (number_at w8 place)
      where
        by_test : (n : ℕ × Place) (b : Bool) → (cond b (Some n) None >>= behind) ≡ pass_if b n.1
        by_test n true = refl
        by_test n false = refl

        from_number : (o : Option (ℕ × Place)) → ((o >>= λ n. cond (allowed strict (is_flag n.0)) (Some n) None) >>= behind) ≡ (o >>= λ n. tested n.0 n.1)
        from_number None = refl
        from_number (Some n) = by_test n (allowed strict (is_flag n.0))

    abbrev pub behind_flag : Bool → Left
    behind_flag flag = record { skip = 0; good = left.good && flag }

    both_tested : (flag : Bool) → Same (and_then (pass_if passes) (pass_if (allowed strict flag))) (left_at strict (behind_flag flag))
    both_tested flag place = by_cases strict left.good flag
      where
        by_cases : (s good flag : Bool) → and_then (pass_if (allowed s good)) (pass_if (allowed s flag)) place ≡ and_then (pass_if (allowed s (good && flag))) (skip_at 0) place
        by_cases false good flag = sym (skip_zero place)
        by_cases true true true = sym (skip_zero place)
        by_cases true true false = refl
        by_cases true false flag = refl

    pub flag_goes : (byte : ℕ) (old new : Hand) → Taken (left.skip + 1) old new → byte ≡ last_number w8 left.skip old.bytes new.bytes → Goes (and_then (left_at strict left) (passed_at (byte_at strict))) (left_at strict (behind_flag (is_flag byte))) old new
    flag_goes byte old new t is =
        goes_same _ _ _ _ old new (same_then (left_at strict left) _ _ byte_passed) (both_tested (is_flag byte))
        (goes_guarded passes (skip_at left.skip) (pass_number w8 tested) (tested byte) old new (number_goes w8 left.skip tested old new byte t is))

    -- so many bytes, none of them taken yet
    pub size_goes : (size : ℕ) (old : Hand) → length old.bytes ≤ old.peak → old.given ≤ file_limit → (p : Pass) → Same p (skip_at size) → Goes (and_then (left_at strict left) p) (left_at strict (behind_part (left.skip + size))) old old
    size_goes size old peak within p e =
        goes_same _ _ _ _ old old
        (λ place. grouped (pass_if passes) (skip_at left.skip) p place ∙ same_then (pass_if passes) _ (skip_at (left.skip + size)) (λ next. part_same p (skip_at size) e next ∙ sym (skip_both left.skip size next)) place) (λ place. refl)
        (goes_none (left_at strict (behind_part (left.skip + size))) old peak within)

    -- two fields, one after the other
    module _ {X Y : Type 0} (one : Place → Option (X × Place)) (other : Place → Option (Y × Place)) where
      both_same : Same (and_then (left_at strict left) (passed_at (both_at one other))) (and_then (and_then (left_at strict left) (passed_at one)) (passed_at other))
      both_same place = same_then (left_at strict left) _ _ (both_passed one other) place ∙ sym (grouped (left_at strict left) (passed_at one) (passed_at other) place)

      pub both_stop : (old new : Hand) (stop : TakeFault) → Stops (and_then (left_at strict left) (passed_at one)) memory old new stop → Stops (and_then (left_at strict left) (passed_at (both_at one other))) memory old new stop
      both_stop old new stop h = stops_same memory _ _ old new stop both_same (stops_more memory _ (passed_at other) old new stop h)

      pub both_walk : (old middle new : Hand) (next : Left) (result : Result Left TakeFault) → Goes (and_then (left_at strict left) (passed_at one)) (left_at strict next) old middle
          → IsWalk (and_then (left_at strict next) (passed_at other)) (left_at strict) memory middle new result → IsWalk (and_then (left_at strict left) (passed_at (both_at one other))) (left_at strict) memory old new result
      both_walk old middle new next result g h = walk_same memory _ _ _ old new result both_same (walk_then memory _ (and_then (left_at strict next) (passed_at other)) _ old middle new result (goes_more _ (left_at strict next) (passed_at other) old middle g) h)

  -- ---- a whole part, whose last bytes were left

  module _ (strict : Bool) (p : Pass) (start : Left) (is_start : start ≡ record { skip = 0; good = true }) where
    started : Same p (and_then (left_at strict start) p)
    started place = sym (ap (λ (left : Left). and_then (left_at strict left) p place) is_start ∙ by_case strict)
      where
        by_case : (s : Bool) → and_then (left_at s (record { skip = 0; good = true })) p place ≡ p place
        by_case true = none_skipped p place
        by_case false = none_skipped p place

    pub all_stop : (old new : Hand) (stop : TakeFault) → Stops (and_then (left_at strict start) p) memory old new stop → Stops p memory old new stop
    all_stop old new stop h = stops_same memory _ _ old new stop started h

    module _ (old middle new : Hand) (left : Left) (g : Goes (and_then (left_at strict start) p) (left_at strict left) old middle) where
      pub all_walk : {T : Type 0} (result : Result T TakeFault) → IsTaken memory left.skip middle new result → IsWalk p (λ x. pass_if (allowed strict left.good)) memory old new result
      all_walk (Ok x) t = goes_then p (left_at strict left) _ old middle new (goes_same _ _ _ _ old middle started (λ place. refl) g) (goes_if (allowed strict left.good) (skip_at left.skip) middle new (bytes_goes left.skip middle new t))
      all_walk (Err stop) t =
          stops_then memory p (left_at strict left) old middle new stop (goes_same _ _ _ _ old middle started (λ place. refl) g)
          (stops_if memory (allowed strict left.good) (skip_at left.skip) middle new stop (bytes_stops memory left.skip middle new stop t))
