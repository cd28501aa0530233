use Rattle.std.proofs.Common.{◌≡◌, ◌<◌, ◌≤ℤ◌, ◌<ℤ◌, ℕ, ℤ, List, [], All, length, get_or, pos, take, subst, arith}
use Rattle.std.proofs.lemmas.List.{get_or_read}
use Rattle.krb_tally.specs.Inner.Buckets.{Fits, IsRising, Reaches, all_of, place_from}
use Rattle.krb_tally.proofs.TallyLaws.{end_fits, new_fits}
use Rattle.krb_tally.proofs.tally.room_for.Goals.{then-bucket-buckets-via-then-bucket-buckets, then-bucket-buckets-via-else-bucket-buckets+then-not-is_before}
use Rattle.krb_tally.proofs.tally.room_for.Goals as goal

before_it : {X : Type 0} (when : X → ℤ) (buckets : List (List X)) (at : ℕ) (here : List X) (first : X) (time : ℤ) → at < length buckets → here ≡ get_or buckets at here → IsRising when (all_of buckets)
    → All (λ x. when x <ℤ time) (all_of (take at buckets)) → Reaches when buckets at time → All (λ x. when first ≤ℤ when x) here → time ≤ℤ when first → Fits when buckets time at at
before_it when buckets at here first time within is rising early reached least from =
    new_fits when buckets at within rising first time early reached
    (subst (λ items. All (λ x. when first ≤ℤ when x) items) (get_or_read buckets at here within is []) least) from

pub room_between-requires-clause-fits : goal.room_between-requires-clause-fits
room_between-requires-clause-fits g c =
    let upto = c.bucket_of-bucket.ensures.within in
    elim c.then-bucket-buckets.branch [
      | then-bucket-buckets-via-then-bucket-buckets w ↦
          let end = w.if-bucket-buckets.true in
          end_fits (place_from g.T.Ord.cmp c.args.item.now) c.args.buckets.now c.bucket_of-bucket.result (pos 1) (omega arith) c.bucket_of-bucket.ensures.before
      | then-bucket-buckets-via-else-bucket-buckets+then-not-is_before w ↦
          let apart = w.if-bucket-buckets.false in
          let within : c.bucket_of-bucket.result < length c.args.buckets.now = omega arith in
          before_it (place_from g.T.Ord.cmp c.args.item.now) c.args.buckets.now c.bucket_of-bucket.result w.index-buckets-bucket.result w.first.result.now (pos 1) within w.index-buckets-bucket.is (c.requires.from c.args.item.now)
          c.bucket_of-bucket.ensures.before (c.bucket_of-bucket.ensures.reached within) (w.first.ensures.least_from c.args.item.now) (w.is_before.ensures.from w.if-not-is_before.true)
    ]
