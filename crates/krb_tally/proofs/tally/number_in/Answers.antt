use Rattle.std.proofs.Common.{◌≡◌, ◌∙◌, ◌+◌, ◌<◌, ◌≤◌, ◌<ℤ◌, ℕ, suc, ℤ, List, [], All, length, get_or, take, drop, add-one, ap, sym, subst, arith, to_z, of_z}
use Rattle.std.specs.Int.{w64}
use Rattle.std.proofs.lemmas.Int.{ints}
use Rattle.std.proofs.lemmas.List.{get_or_read, take_all, take_rest}
use Rattle.krb_tally.specs.Times.{number_since}
use Rattle.krb_tally.specs.Inner.Buckets.{IsRising, Reaches, all_of}
use Rattle.krb_tally.proofs.BucketLaws.{none_since}
use Rattle.krb_tally.proofs.TallyLaws.{length_part, no_more_than_all, number_from}
use Rattle.krb_tally.proofs.tally.number_in.Goals as goal

counted : {X : Type 0} (when : X → ℤ) (buckets rest_slice : List (List X)) (at : ℕ) (here : List X) (said oldest : ℤ) (one rest : ℕ) → said ≡ oldest → at < length buckets → here ≡ get_or buckets at here → IsRising when (all_of buckets)
    → All (λ x. when x <ℤ said) (all_of (take at buckets)) → Reaches when buckets at said → one ≡ number_since when said here
    → rest ≡ length (all_of rest_slice) → rest_slice ≡ drop (at + 1) buckets → one + rest ≡ number_since when oldest (all_of buckets)
counted when buckets rest_slice at here said oldest one rest t within is rising early reached one_is rest_is slice_is =
    let whole = number_from when buckets at within rising said early reached in
    let stands = ap (λ items. number_since when said items) (get_or_read buckets at here within is []) in
    let same = ap (λ (moment : ℤ). number_since when moment (all_of buckets)) t in
    let others : rest ≡ length (all_of (drop (suc at) buckets)) = rest_is ∙ (ap (λ all. length (all_of all)) slice_is ∙ ap (λ (n : ℕ). length (all_of (drop n buckets))) (add-one at)) in
    omega arith

none : {X : Type 0} (when : X → ℤ) (buckets : List (List X)) (at : ℕ) (said oldest : ℤ) → said ≡ oldest → length buckets ≤ at → All (λ x. when x <ℤ said) (all_of (take at buckets)) → 0 ≡ number_since when oldest (all_of buckets)
none when buckets at said oldest t end early =
    sym (ap (λ (moment : ℤ). number_since when moment (all_of buckets)) (sym t)
    ∙ none_since when said (all_of buckets) (subst (λ all. All (λ x. when x <ℤ said) (all_of all)) (take_all at buckets end) early))

pub returns-then-bucket-buckets : goal.returns-then-bucket-buckets
returns-then-bucket-buckets g c =
    let t : to_z w64 (of_z w64 c.args.oldest) ≡ c.args.oldest = omega (arith, ints) in
    let end = c.if-bucket-buckets.true in
    none g.T.Timed.timestamp c.args.buckets.now c.bucket_for-bucket.result (to_z w64 (of_z w64 c.args.oldest)) c.args.oldest t (omega arith) c.bucket_for-bucket.ensures.before

pub number_of_all-requires : goal.number_of_all-requires
number_of_all-requires g c =
    let few = c.requires.few in
    let part = length_part c.args.buckets.now (c.bucket_for-bucket.result + 1) in
    let rest = ap (λ all. length (all_of all)) (take_rest c.args.buckets.now (c.bucket_for-bucket.result + 1)) in
    omega arith

pub overflow_add-result : goal.overflow_add-result
overflow_add-result g c =
    let t : to_z w64 (of_z w64 c.args.oldest) ≡ c.args.oldest = omega (arith, ints) in
    let apart = c.if-bucket-buckets.false in
    let upto = c.bucket_for-bucket.ensures.within in
    let within : c.bucket_for-bucket.result < length c.args.buckets.now = omega arith in
    let total = counted g.T.Timed.timestamp c.args.buckets.now _ c.bucket_for-bucket.result c.index-buckets-bucket.result (to_z w64 (of_z w64 c.args.oldest)) c.args.oldest c.since.result c.number_of_all.result t within
    c.index-buckets-bucket.is c.requires.rising c.bucket_for-bucket.ensures.before (c.bucket_for-bucket.ensures.reached within) c.since.ensures c.number_of_all.ensures (take_rest c.args.buckets.now (c.bucket_for-bucket.result + 1)) in
    let most = no_more_than_all g.T.Timed.timestamp c.args.oldest (all_of c.args.buckets.now) in
    let few = c.requires.few in
    omega arith

pub returns : goal.returns
returns g c =
    let t : to_z w64 (of_z w64 c.args.oldest) ≡ c.args.oldest = omega (arith, ints) in
    let apart = c.if-bucket-buckets.false in
    let upto = c.bucket_for-bucket.ensures.within in
    let within : c.bucket_for-bucket.result < length c.args.buckets.now = omega arith in
    counted g.T.Timed.timestamp c.args.buckets.now _ c.bucket_for-bucket.result c.index-buckets-bucket.result (to_z w64 (of_z w64 c.args.oldest)) c.args.oldest c.since.result c.number_of_all.result t within
    c.index-buckets-bucket.is c.requires.rising c.bucket_for-bucket.ensures.before (c.bucket_for-bucket.ensures.reached within) c.since.ensures c.number_of_all.ensures (take_rest c.args.buckets.now (c.bucket_for-bucket.result + 1))
