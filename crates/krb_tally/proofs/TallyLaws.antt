-- The items of all buckets, and after a change of one of them.
use Rattle.std.proofs.Common.{◌≡◌, ℕ, zero, suc, ℤ, ◌≤ℤ◌, ◌<ℤ◌, ◌+◌, ◌<◌, ◌≤◌, Bool, List, [], ◌∷◌, ◌++◌, All, Contains, length, get_or, set, take, drop, refl, sym, ap, subst, ◌∙◌, append_assoc, length-append, int_lt, not, ◌-◌, Option, Some, is_some, slice_get, unwrap_or, true≢false, arith}
use Rattle.std.specs.List.{insert, remove}
use Rattle.std.specs.List.Sorted.{IsPermutation}
use Rattle.std.proofs.lemmas.Int.{ints}
use Rattle.std.proofs.lemmas.List.{append-nil, get_or_read, take-append-drop, take_more}
use Rattle.std.proofs.lemmas.List.Elements.{All-append, All-contains, All-nil, All-weaker, Contains-append_left, Contains-append_right}
use Rattle.std.proofs.lemmas.List.Sorted.{IsPermutation-middle, IsPermutation-sym}
use Rattle.std.proofs.lemmas.List.Sums.{count_by-le-length, length-filter}
use Rattle.krb_tally.specs.Times.{HasEqual, number_since}
use Rattle.krb_tally.specs.Inner.Buckets.{AddsIn, Fits, Halves, IsRising, Reaches, TakesOut, all_of}
use Rattle.krb_tally.proofs.BucketLaws.{all_left, all_right, all_since, apart, at_place, both_parts, has_right, none_since, rising_less, rising_more, rising_right}

pub all_append : {X : Type 0} (a b : List (List X)) → all_of (a ++ b) ≡ all_of a ++ all_of b
all_append [] b = refl
all_append (x ∷ a) b = ap (λ rest. x ++ rest) (all_append a b) ∙ sym (append_assoc x (all_of a) (all_of b))

module _ {X : Type 0} where
  -- the buckets before a place, and the rest
  pub cut : (buckets : List (List X)) (at : ℕ) → all_of buckets ≡ all_of (take at buckets) ++ all_of (drop at buckets)
  cut buckets at = ap (λ (all : List (List X)). all_of all) (sym (take-append-drop at buckets)) ∙ all_append (take at buckets) (drop at buckets)

  -- the buckets before a place, the one there, and the rest
  pub at_bucket : (buckets : List (List X)) (at : ℕ) → at < length buckets
      → all_of buckets ≡ all_of (take at buckets) ++ (get_or buckets at [] ++ all_of (drop (suc at) buckets))
  at_bucket [] at within = absurd (omega arith)
  at_bucket (x ∷ xs) zero within = refl
  at_bucket (x ∷ xs) (suc at) within =
      ap (λ (rest : List X). x ++ rest) (at_bucket xs at (omega arith))
      ∙ sym (append_assoc x (all_of (take at xs)) (get_or xs at [] ++ all_of (drop (suc at) xs)))

  pub set_bucket : (buckets : List (List X)) (at : ℕ) (new : List X) → at < length buckets
      → all_of (set buckets at new) ≡ all_of (take at buckets) ++ (new ++ all_of (drop (suc at) buckets))
  set_bucket [] at new within = absurd (omega arith)
  set_bucket (x ∷ xs) zero new within = refl
  set_bucket (x ∷ xs) (suc at) new within =
      ap (λ (rest : List X). x ++ rest) (set_bucket xs at new (omega arith))
      ∙ sym (append_assoc x (all_of (take at xs)) (new ++ all_of (drop (suc at) xs)))

  pub insert_bucket : (buckets : List (List X)) (at : ℕ) (new : List X) → all_of (insert buckets at new) ≡ all_of (take at buckets) ++ (new ++ all_of (drop at buckets))
  insert_bucket buckets at new = all_append (take at buckets) (new ∷ drop at buckets)

  pub remove_bucket : (buckets : List (List X)) (at : ℕ) → all_of (remove buckets at) ≡ all_of (take at buckets) ++ all_of (drop (suc at) buckets)
  remove_bucket buckets at = all_append (take at buckets) (drop (suc at) buckets)

  -- two buckets have the halves of one
  pub halved : (buckets : List (List X)) (at : ℕ) (lower upper here : List X) → at < length buckets → here ≡ get_or buckets at here → here ≡ lower ++ upper
      → all_of (insert (set buckets at lower) (suc at) upper) ≡ all_of buckets
  halved [] at lower upper here within is both = absurd (omega arith)
  halved (x ∷ xs) zero lower upper here within is both =
      sym (append_assoc lower upper (all_of xs)) ∙ ap (λ (one : List X). one ++ all_of xs) (sym both ∙ is)
  halved (x ∷ xs) (suc at) lower upper here within is both =
      ap (λ (rest : List X). x ++ rest) (halved xs at lower upper here (omega arith) is both)

  -- and there is room in both
  pub halves : (buckets : List (List X)) (at : ℕ) (lower upper : List X) → at < length buckets → length lower < 1024 → length upper < 1024
      → Halves buckets at (insert (set buckets at lower) (suc at) upper)
  halves [] at lower upper within few also = absurd (omega arith)
  halves (x ∷ xs) zero lower upper within few also = record { within = omega arith; before = refl; lower = few; upper = also; after = refl }
  halves (x ∷ xs) (suc at) lower upper within few also =
      let rest = halves xs at lower upper (omega arith) few also in
      record {
        within = let more = rest.within in omega arith;
        before = ap (λ (some : List (List X)). x ∷ some) rest.before;
        lower = rest.lower;
        upper = rest.upper;
        after = rest.after;
      }

  -- the last item of two lists is that of the second
  pub last_right : (a b : List X) (last : X) → 0 < length b → slice_get b (length b - 1) ≡ Some last → slice_get (a ++ b) (length (a ++ b) - 1) ≡ Some last
  last_right [] b last some is = is
  last_right (x ∷ a) b last some is =
      let sum = length-append a b in
      let place : length (x ∷ a ++ b) - 1 ≡ suc (length (a ++ b) - 1) = omega arith in
      ap (λ (n : ℕ). slice_get (x ∷ a ++ b) n) place ∙ last_right a b last some is

  -- the last of the last bucket is the last of all
  pub last_of_all : (buckets : List (List X)) (at : ℕ) (last : X) → at < length buckets → length buckets ≤ suc at → 0 < length (get_or buckets at [])
      → slice_get (get_or buckets at []) (length (get_or buckets at []) - 1) ≡ Some last → slice_get (all_of buckets) (length (all_of buckets) - 1) ≡ Some last
  last_of_all [] at last within end some is = absurd (omega arith)
  last_of_all (x ∷ xs) (suc at) last within end some is =
      last_right x (all_of xs) last
      (let sum = ap (λ (items : List X). length items) (at_bucket xs at (omega arith)) in
      let one = length-append (all_of (take at xs)) (get_or xs at [] ++ all_of (drop (suc at) xs)) in
      let two = length-append (get_or xs at []) (all_of (drop (suc at) xs)) in
      omega arith)
      (last_of_all xs at last (omega arith) (omega arith) some is)
  last_of_all (x ∷ y ∷ xs) zero last within end some is = absurd (omega arith)
  last_of_all (x ∷ []) zero last within end some is = subst (λ (items : List X). slice_get items (length items - 1) ≡ Some last) (sym (append-nil x)) is

  pub take_fewer : (P : X → Type 0) (buckets : List (List X)) (n : ℕ) → All P (all_of (take (suc n) buckets)) → All P (all_of (take n buckets))
  take_fewer P buckets zero all = All-nil P
  take_fewer P [] (suc n) all = All-nil P
  take_fewer P (x ∷ xs) (suc n) all =
      All-append P x (all_of (take n xs)) (all_left P x (all_of (take (suc n) xs)) all) (take_fewer P xs n (all_right P x (all_of (take (suc n) xs)) all))

  pub drop_fewer : (P : X → Type 0) (buckets : List (List X)) (n : ℕ) → All P (all_of (drop n buckets)) → All P (all_of (drop (suc n) buckets))
  drop_fewer P [] n all = All-nil P
  drop_fewer P (x ∷ xs) zero all = all_right P x (all_of xs) all
  drop_fewer P (x ∷ xs) (suc n) all = drop_fewer P xs n all

  pub drop_here : (P : X → Type 0) (buckets : List (List X)) (at : ℕ) → at < length buckets → All P (get_or buckets at []) → All P (all_of (drop (suc at) buckets))
      → All P (all_of (drop at buckets))
  drop_here P [] at within here rest = absurd (omega arith)
  drop_here P (x ∷ xs) zero within here rest = All-append P x (all_of xs) here rest
  drop_here P (x ∷ xs) (suc at) within here rest = drop_here P xs at (omega arith) here rest

  -- what is taken out was there
  pub taken : (old new : List (List X)) (bucket at : ℕ) (item : X) → TakesOut old bucket at item new → IsPermutation (all_of old) (item ∷ all_of new)
  taken old new bucket at item out =
      subst (λ (items : List X). IsPermutation items (item ∷ all_of new)) (sym out.old_is)
      (subst (λ (items : List X). IsPermutation ((all_of (take bucket old) ++ take at (get_or old bucket [])) ++ item ∷ out.after) (item ∷ items)) (sym out.new_is)
      (IsPermutation-middle (all_of (take bucket old) ++ take at (get_or old bucket [])) item out.after))

  -- part of the buckets has at most all items
  pub length_part : (buckets : List (List X)) (n : ℕ) → length (all_of (take n buckets)) + length (all_of (drop n buckets)) ≡ length (all_of buckets)
  length_part buckets n =
      let whole = ap (λ (items : List X). length items) (cut buckets n) in
      let sum = length-append (all_of (take n buckets)) (all_of (drop n buckets)) in
      omega arith

  past : (P : X → Type 0) (buckets : List (List X)) (at : ℕ) → length buckets ≤ at → All P (all_of (drop at buckets))
  past P [] zero end = All-nil P
  past P [] (suc at) end = All-nil P
  past P (x ∷ xs) zero end = absurd (omega arith)
  past P (x ∷ xs) (suc at) end = past P xs at (omega arith)

  one_alone : (items : List X) (at : ℕ) (item : X) → length items ≤ 1 → at < length items → item ≡ get_or items at item → items ≡ take at items ++ item ∷ []
  one_alone [] at item one within is = absurd (omega arith)
  one_alone (x ∷ y ∷ items) at item one within is = absurd (omega arith)
  one_alone (x ∷ []) (suc at) item one within is = absurd (omega arith)
  one_alone (x ∷ []) zero item one within is = ap (λ (it : X). it ∷ []) (sym is)

  none_before : (items : List X) (at : ℕ) → length items ≤ 1 → at < length items → take at items ≡ []
  none_before items zero one within = refl
  none_before items (suc at) one within = absurd (omega arith)

  module _ (buckets : List (List X)) (at : ℕ) (here : List X) (within : at < length buckets) (is : here ≡ get_or buckets at here) where
    pub stands : here ≡ get_or buckets at []
    stands = get_or_read buckets at here within is []

    -- an item is taken out of a bucket
    pub less_in : (place : ℕ) (item : X) (new : List X) → place < length here → item ≡ get_or here place item → new ≡ remove here place
        → TakesOut buckets at place item (set buckets at new)
    less_in place item new inside item_is gone = record {
      after = drop (suc place) here ++ all_of (drop (suc at) buckets);
      old_is = at_bucket buckets at within
          ∙ (ap (λ (one : List X). all_of (take at buckets) ++ (one ++ all_of (drop (suc at) buckets)))
          (sym stands ∙ (at_place here place item inside ∙ ap (λ (it : X). take place here ++ it ∷ drop (suc place) here) (sym item_is)))
          ∙ (ap (λ (rest : List X). all_of (take at buckets) ++ rest) (append_assoc (take place here) (item ∷ drop (suc place) here) (all_of (drop (suc at) buckets)))
          ∙ (sym (append_assoc (all_of (take at buckets)) (take place here) (item ∷ (drop (suc place) here ++ all_of (drop (suc at) buckets))))
          ∙ ap (λ (one : List X). (all_of (take at buckets) ++ take place one) ++ item ∷ (drop (suc place) here ++ all_of (drop (suc at) buckets))) stands)));
      new_is = set_bucket buckets at new within
          ∙ (ap (λ (one : List X). all_of (take at buckets) ++ (one ++ all_of (drop (suc at) buckets))) gone
          ∙ (ap (λ (rest : List X). all_of (take at buckets) ++ rest) (append_assoc (take place here) (drop (suc place) here) (all_of (drop (suc at) buckets)))
          ∙ (sym (append_assoc (all_of (take at buckets)) (take place here) (drop (suc place) here ++ all_of (drop (suc at) buckets)))
          ∙ ap (λ (one : List X). (all_of (take at buckets) ++ take place one) ++ (drop (suc place) here ++ all_of (drop (suc at) buckets))) stands)));
    }

    -- a bucket is removed with its one item
    pub gone_in : (place : ℕ) (item : X) → length here ≤ 1 → place < length here → item ≡ get_or here place item
        → TakesOut buckets at place item (remove buckets at)
    gone_in place item one inside item_is = record {
      after = all_of (drop (suc at) buckets);
      old_is = at_bucket buckets at within
          ∙ (ap (λ (it : List X). all_of (take at buckets) ++ (it ++ all_of (drop (suc at) buckets))) (sym stands ∙ one_alone here place item one inside item_is)
          ∙ (ap (λ (rest : List X). all_of (take at buckets) ++ rest) (append_assoc (take place here) (item ∷ []) (all_of (drop (suc at) buckets)))
          ∙ (sym (append_assoc (all_of (take at buckets)) (take place here) (item ∷ all_of (drop (suc at) buckets)))
          ∙ ap (λ (it : List X). (all_of (take at buckets) ++ take place it) ++ item ∷ all_of (drop (suc at) buckets)) stands)));
      new_is = remove_bucket buckets at
          ∙ (ap (λ (none : List X). all_of (take at buckets) ++ (none ++ all_of (drop (suc at) buckets))) (sym (none_before here place one inside))
          ∙ (sym (append_assoc (all_of (take at buckets)) (take place here) (all_of (drop (suc at) buckets)))
          ∙ ap (λ (it : List X). (all_of (take at buckets) ++ take place it) ++ all_of (drop (suc at) buckets)) stands));
    }

    pub length_more : length (all_of (take (at + 1) buckets)) ≡ length (all_of (take at buckets)) + length here
    length_more =
        let next = ap (λ (all : List (List X)). length (all_of all)) (take_more buckets at here within) in
        let parts = ap (λ (items : List X). length items) (all_append (take at buckets) (get_or buckets at here ∷ [])) in
        let sum = length-append (all_of (take at buckets)) (get_or buckets at here ++ []) in
        let last = length-append (get_or buckets at here) [] in
        let same = ap (λ (items : List X). length items) is in
        omega arith

module _ {X : Type 0} (when : X → ℤ) where
  -- one item more
  pub more : (a b c d old new : List X) (item : X) → old ≡ a ++ ((b ++ c) ++ d) → new ≡ a ++ ((b ++ item ∷ c) ++ d) → IsRising when old
      → All (λ x. when x ≤ℤ when item) a → All (λ x. when x ≤ℤ when item) b → All (λ x. when item ≤ℤ when x) c → All (λ x. when item ≤ℤ when x) d
      → IsPermutation (item ∷ old) new × IsRising when new
  more a b c d old new item old_is new_is rising early_a early_b late_c late_d =
      let was : old ≡ (a ++ b) ++ (c ++ d) =
      old_is ∙ (ap (λ (rest : List X). a ++ rest) (append_assoc b c d) ∙ sym (append_assoc a b (c ++ d))) in
      let now : new ≡ (a ++ b) ++ item ∷ (c ++ d) =
      new_is ∙ (ap (λ (rest : List X). a ++ rest) (append_assoc b (item ∷ c) d) ∙ sym (append_assoc a b (item ∷ (c ++ d)))) in (
        subst (λ (items : List X). IsPermutation (item ∷ items) new) (sym was)
            (subst (λ (items : List X). IsPermutation (item ∷ ((a ++ b) ++ (c ++ d))) items) (sym now)
            (IsPermutation-sym ((a ++ b) ++ item ∷ (c ++ d)) (item ∷ ((a ++ b) ++ (c ++ d))) (IsPermutation-middle (a ++ b) item (c ++ d)))),
        subst (λ (items : List X). IsRising when items) (sym now)
            (rising_more when (a ++ b) item (c ++ d) (subst (λ (items : List X). IsRising when items) was rising)
            (All-append (λ x. when x ≤ℤ when item) a b early_a early_b) (All-append (λ x. when item ≤ℤ when x) c d late_c late_d)),
      )

  pub no_more_than_all : (oldest : ℤ) (items : List X) → number_since when oldest items ≤ length items
  no_more_than_all oldest items =
      let counted = length-filter (λ (item : X). not (int_lt (when item) oldest)) items in
      let most = count_by-le-length (λ (item : X). not (int_lt (when item) oldest)) items in
      omega arith

  -- what is taken out leaves the others in order
  pub taken_rising : (old new : List (List X)) (bucket at : ℕ) (item : X) → TakesOut old bucket at item new → IsRising when (all_of old) → IsRising when (all_of new)
  taken_rising old new bucket at item out rising =
      subst (λ (items : List X). IsRising when items) (sym out.new_is)
      (rising_less when (all_of (take bucket old) ++ take at (get_or old bucket [])) item out.after (subst (λ (items : List X). IsRising when items) out.old_is rising))

  module _ (buckets : List (List X)) (at : ℕ) (within : at < length buckets) (rising : IsRising when (all_of buckets)) where
    abbrev before : List X
    before = all_of (take at buckets)

    abbrev here : List X
    here = get_or buckets at []

    abbrev after : List X
    after = all_of (drop (suc at) buckets)

    in_parts : IsRising when (before ++ (here ++ after))
    in_parts = subst (λ (items : List X). IsRising when items) (at_bucket buckets at within) rising

    pub after_it : (last : X) → Contains here last → All (λ item. when last ≤ℤ when item) after
    after_it last there =
        All-contains (λ x. All (λ y. when x ≤ℤ when y) after) here last (apart when here after (rising_right when before (here ++ after) in_parts)) there

    before_it : (last : X) → Contains here last → All (λ item. when item ≤ℤ when last) before
    before_it last there =
        All-weaker (λ x. All (λ y. when x ≤ℤ when y) (here ++ after)) (λ x. when x ≤ℤ when last)
        (λ x all. All-contains (λ y. when x ≤ℤ when y) (here ++ after) last all (Contains-append_left here after last there))
        before (apart when before (here ++ after) in_parts)

    -- a search goes on after a bucket whose items are early
    pub all_before : (last : X) (moment : ℤ) → Contains here last → All (λ item. when item ≤ℤ when last) here → when last <ℤ moment
        → All (λ item. when item <ℤ moment) (all_of (take (at + 1) buckets))
    all_before last moment there greatest early =
        let next : all_of (take (at + 1) buckets) ≡ before ++ (here ++ []) =
        ap (λ (all : List (List X)). all_of all) (take_more buckets at [] within) ∙ all_append (take at buckets) (here ∷ []) in
        subst (λ (items : List X). All (λ item. when item <ℤ moment) items) (sym next)
        (All-append (λ item. when item <ℤ moment) before (here ++ [])
        (All-weaker (λ x. when x ≤ℤ when last) (λ x. when x <ℤ moment) (λ x upto. omega (arith, ints)) before (before_it last there))
        (All-append (λ item. when item <ℤ moment) here []
        (All-weaker (λ x. when x ≤ℤ when last) (λ x. when x <ℤ moment) (λ x upto. omega (arith, ints)) here greatest) (All-nil (λ item. when item <ℤ moment))))

    -- a search ends by a bucket with a late item
    pub reaches : (last : X) (moment : ℤ) → Contains here last → moment ≤ℤ when last → Reaches when buckets at moment
    reaches last moment there late = record { late = last; there = there; not_before = late; later = after_it last there }

    -- no item is of a time if none in the bucket for it is
    pub lacks_all : (moment : ℤ) → All (λ x. when x <ℤ moment) before → Reaches when buckets at moment → All (λ x. when x ≡ moment → ⊥) here
        → All (λ x. when x ≡ moment → ⊥) (all_of buckets)
    lacks_all moment early reached none =
        subst (λ (items : List X). All (λ x. when x ≡ moment → ⊥) items) (sym (at_bucket buckets at within))
        (All-append (λ x. when x ≡ moment → ⊥) before (here ++ after)
        (All-weaker (λ x. when x <ℤ moment) (λ x. when x ≡ moment → ⊥) (λ x upto same. omega (arith, ints)) before early)
        (All-append (λ x. when x ≡ moment → ⊥) here after none
        (All-weaker (λ x. when reached.late ≤ℤ when x) (λ x. when x ≡ moment → ⊥)
        (λ x from same.
        let late = reached.not_before in
        All-contains (λ y. when y ≡ moment → ⊥) here reached.late none reached.there (omega (arith, ints))) after reached.later)))

    -- those that count are in the bucket and the later ones
    pub number_from : (oldest : ℤ) → All (λ x. when x <ℤ oldest) before → Reaches when buckets at oldest
        → number_since when oldest here + length after ≡ number_since when oldest (all_of buckets)
    number_from oldest early reached =
        let whole = ap (λ (items : List X). number_since when oldest items) (at_bucket buckets at within) in
        let one = both_parts when oldest before (here ++ after) in
        let two = both_parts when oldest here after in
        let none = none_since when oldest before early in
        let all = all_since when oldest after (All-weaker (λ x. when reached.late ≤ℤ when x) (λ x. oldest ≤ℤ when x)
        (λ x from. let late = reached.not_before in omega (arith, ints)) after reached.later) in
        omega arith

    pub new_fits : (first : X) (moment : ℤ) → All (λ x. when x <ℤ moment) before → Reaches when buckets at moment → All (λ x. when first ≤ℤ when x) here → moment ≤ℤ when first
        → Fits when buckets moment at at
    new_fits first moment early reached least from = record {
      early = All-weaker (λ x. when x <ℤ moment) (λ x. when x ≤ℤ moment) (λ x upto. omega (arith, ints)) before early;
      late = drop_here (λ x. moment ≤ℤ when x) buckets at within
          (All-weaker (λ x. when first ≤ℤ when x) (λ x. moment ≤ℤ when x) (λ x late. omega (arith, ints)) here least)
          (All-weaker (λ x. when reached.late ≤ℤ when x) (λ x. moment ≤ℤ when x) (λ x late. let from = reached.not_before in omega (arith, ints)) after reached.later);
    }

    pub somewhere : (item : X) → Contains here item → Contains (all_of buckets) item
    somewhere item there =
        subst (λ (items : List X). Contains items item) (sym (at_bucket buckets at within))
        (Contains-append_right before (here ++ after) item (Contains-append_left here after item there))

    -- no item is after the last of the last bucket
    pub last_greatest : (last : X) → Contains here last → All (λ item. when item ≤ℤ when last) here → length buckets ≤ suc at
        → All (λ item. when item ≤ℤ when last) (all_of buckets)
    last_greatest last there greatest end =
        subst (λ (items : List X). All (λ item. when item ≤ℤ when last) items) (sym (at_bucket buckets at within))
        (All-append (λ item. when item ≤ℤ when last) before (here ++ after) (before_it last there)
        (All-append (λ item. when item ≤ℤ when last) here after greatest (past (λ item. when item ≤ℤ when last) buckets (suc at) end)))

  -- a search goes on after a bucket, or ends by it, by its last item
  module _ (buckets : List (List X)) (at : ℕ) (here : List X) (last : X) (moment : ℤ) (within : at < length buckets) (is : here ≡ get_or buckets at here) (rising : IsRising when (all_of buckets)) (there : Contains here last) where
    pub goes_on : All (λ x. when x ≤ℤ when last) here → when last <ℤ moment → All (λ x. when x <ℤ moment) (all_of (take (at + 1) buckets))
    goes_on greatest early =
        let stands = get_or_read buckets at here within is [] in
        all_before buckets at within rising last moment (subst (λ items. Contains items last) stands there)
        (subst (λ items. All (λ x. when x ≤ℤ when last) items) stands greatest) early

    pub ends_by : moment ≤ℤ when last → Reaches when buckets at moment
    ends_by late = reaches buckets at within rising last moment (subst (λ items. Contains items last) (get_or_read buckets at here within is []) there) late

  -- the buckets before the place that a search finds
  pub early_buckets : (buckets : List (List X)) (at : ℕ) (moment : ℤ) → (0 < at → All (λ x. when x <ℤ moment) (all_of (take (at - 1 + 1) buckets)))
      → All (λ x. when x <ℤ moment) (all_of (take at buckets))
  early_buckets buckets zero moment early k d inside = absurd (omega arith)
  early_buckets buckets (suc at) moment early k d inside =
      let here : suc at - 1 + 1 ≡ suc at = omega arith in
      subst (λ (n : ℕ). All (λ x. when x <ℤ moment) (all_of (take n buckets))) here (early (omega arith)) k d inside

  pub end_fits : (buckets : List (List X)) (at : ℕ) (moment : ℤ) → length buckets ≤ at → All (λ x. when x <ℤ moment) (all_of (take at buckets)) → Fits when buckets moment at at
  end_fits buckets at moment end early = record {
    early = All-weaker (λ x. when x <ℤ moment) (λ x. when x ≤ℤ moment) (λ x upto. omega (arith, ints)) (all_of (take at buckets)) early;
    late = past (λ x. moment ≤ℤ when x) buckets at end;
  }

  -- what fits into two buckets fits into the first if it isn't after the second one's first item
  pub half_lower : (buckets : List (List X)) (lower : ℕ) (first : X) (moment : ℤ) → suc lower < length buckets → Fits when buckets moment lower (suc (suc lower))
      → All (λ x. when first ≤ℤ when x) (get_or buckets (suc lower) []) → moment ≤ℤ when first → Fits when buckets moment lower (suc lower)
  half_lower buckets lower first moment within fits least upto = record {
    early = fits.early;
    late = drop_here (λ x. moment ≤ℤ when x) buckets (suc lower) within
        (All-weaker (λ x. when first ≤ℤ when x) (λ x. moment ≤ℤ when x) (λ x from. omega (arith, ints)) (get_or buckets (suc lower) []) least) fits.late;
  }

  -- and into the second if it isn't before that
  pub half_upper : (buckets : List (List X)) (lower : ℕ) (first : X) (moment : ℤ) → suc lower < length buckets → IsRising when (all_of buckets) → Fits when buckets moment lower (suc (suc lower))
      → Contains (get_or buckets (suc lower) []) first → when first ≤ℤ moment → Fits when buckets moment (suc lower) (suc (suc lower))
  half_upper buckets lower first moment within rising fits there from = record {
    early = All-weaker (λ x. when x ≤ℤ when first) (λ x. when x ≤ℤ moment) (λ x upto. omega (arith, ints)) (all_of (take (suc lower) buckets))
        (before_it buckets (suc lower) within rising first there);
    late = fits.late;
  }

  -- what fits between two buckets fits into the one before
  pub fits_before : (buckets : List (List X)) (moment : ℤ) (next n : ℕ) → next ≡ suc n → Fits when buckets moment next next → Fits when buckets moment n (suc n)
  fits_before buckets moment next n is fits = record {
    early = take_fewer (λ x. when x ≤ℤ moment) buckets n (subst (λ (k : ℕ). All (λ x. when x ≤ℤ moment) (all_of (take k buckets))) is fits.early);
    late = subst (λ (k : ℕ). All (λ x. moment ≤ℤ when x) (all_of (drop k buckets))) is fits.late;
  }

  -- and into the next
  pub fits_next : (buckets : List (List X)) (moment : ℤ) (next : ℕ) → Fits when buckets moment next next → Fits when buckets moment next (suc next)
  fits_next buckets moment next fits = record { early = fits.early; late = drop_fewer (λ x. moment ≤ℤ when x) buckets next fits.late }

  -- a bucket of one item is put where it fits
  pub new_in : (buckets : List (List X)) (at : ℕ) (item : X) → Fits when buckets (when item) at at → IsRising when (all_of buckets)
      → IsPermutation (item ∷ all_of buckets) (all_of (insert buckets at (item ∷ []))) × IsRising when (all_of (insert buckets at (item ∷ [])))
  new_in buckets at item fits rising =
      more (all_of (take at buckets)) [] [] (all_of (drop at buckets)) (all_of buckets) (all_of (insert buckets at (item ∷ []))) item
      (cut buckets at) (insert_bucket buckets at (item ∷ [])) rising fits.early (All-nil (λ x. when x ≤ℤ when item)) (All-nil (λ x. when item ≤ℤ when x)) fits.late

  -- an item is added to a bucket where it fits
  pub more_in : (buckets : List (List X)) (at : ℕ) (here : List X) → at < length buckets → here ≡ get_or buckets at here
      → (item : X) (new : List X) → AddsIn when here item new → Fits when buckets (when item) at (suc at) → IsRising when (all_of buckets)
      → IsPermutation (item ∷ all_of buckets) (all_of (set buckets at new)) × IsRising when (all_of (set buckets at new))
  more_in buckets at here within is item new adds fits rising =
      more (all_of (take at buckets)) adds.early adds.late (all_of (drop (suc at) buckets)) (all_of buckets) (all_of (set buckets at new)) item
      (at_bucket buckets at within ∙ ap (λ (one : List X). all_of (take at buckets) ++ (one ++ all_of (drop (suc at) buckets))) (sym (stands buckets at here within is) ∙ adds.old_is))
      (set_bucket buckets at new within ∙ ap (λ (one : List X). all_of (take at buckets) ++ (one ++ all_of (drop (suc at) buckets))) adds.new_is)
      rising fits.early adds.not_after adds.not_before fits.late

  -- no item is before the first of the first bucket
  pub first_least : (buckets : List (List X)) (here : List X) (first : X) → Some here ≡ slice_get buckets 0 → IsRising when (all_of buckets) → Contains here first
      → All (λ item. when first ≤ℤ when item) here → All (λ item. when first ≤ℤ when item) (all_of buckets)
  first_least [] here first is rising there least = absurd (true≢false (ap (λ (one : Option (List X)). is_some one) is))
  first_least (x ∷ xs) here first is rising there least =
      let same : here ≡ x = ap (λ (one : Option (List X)). unwrap_or one here) is in
      All-append (λ item. when first ≤ℤ when item) x (all_of xs) (subst (λ (items : List X). All (λ item. when first ≤ℤ when item) items) same least)
      (after_it (x ∷ xs) 0 (omega arith) rising first (subst (λ (items : List X). Contains items first) same there))

-- the first of the first bucket is the first of all
pub head_of : {X : Type 0} (buckets : List (List X)) (here : List X) (first : X) → Some here ≡ slice_get buckets 0 → Contains here first → first ≡ get_or here 0 first
    → slice_get (all_of buckets) 0 ≡ Some first
head_of [] here first is there place = absurd (true≢false (ap (λ (one : Option _). is_some one) is))
head_of ([] ∷ xs) here first is there place =
    let none : here ≡ [] = ap (λ one. unwrap_or one here) is in
    absurd (let within = there.1 in let length_is = ap (λ items. length items) none in omega arith)
head_of ((y ∷ ys) ∷ xs) here first is there place =
    let same : here ≡ y ∷ ys = ap (λ one. unwrap_or one here) is in
    sym (ap (λ it. Some it) (place ∙ ap (λ items. get_or items 0 first) same))

-- what is found in a bucket is one of all items
pub found_in : {X : Type 0} (when : X → ℤ) (eq : X → X → Bool) (buckets : List (List X)) (at : ℕ) (item : X) → at < length buckets → HasEqual when eq (get_or buckets at []) item
    → HasEqual when eq (all_of buckets) item
found_in when eq buckets at item within has =
    subst (λ items. HasEqual when eq items item) (sym (at_bucket buckets at within))
    (has_right when eq (all_of (take at buckets)) (get_or buckets at [] ++ all_of (drop (suc at) buckets)) item
    (record {
      one = has.one;
      there = Contains-append_left (get_or buckets at []) (all_of (drop (suc at) buckets)) has.one has.there;
      same_time = has.same_time;
      equal = has.equal;
    }))
