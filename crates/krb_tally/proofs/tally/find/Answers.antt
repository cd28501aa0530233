use Rattle.std.proofs.Common.{◌≡◌, ◌≢◌, ◌<◌, ◌<ℤ◌, ℕ, ℤ, List, [], All, length, get_or, take, subst, arith, to_z, of_z}
use Rattle.std.specs.Int.{w64}
use Rattle.std.proofs.lemmas.Int.{ints}
use Rattle.std.proofs.lemmas.List.{get_or_read, take_all}
use Rattle.std.proofs.lemmas.List.Elements.{All-weaker}
use Rattle.krb_tally.specs.Inner.Buckets.{IsRising, Reaches, all_of}
use Rattle.krb_tally.proofs.TallyLaws.{lacks_all}
use Rattle.krb_tally.proofs.tally.find.Goals as goal

nowhere : {X : Type 0} (when : X → ℤ) (buckets : List (List X)) (at : ℕ) (here : List X) (said time : ℤ) → said ≡ time → at < length buckets → here ≡ get_or buckets at here → IsRising when (all_of buckets)
    → All (λ x. when x <ℤ said) (all_of (take at buckets)) → Reaches when buckets at said → All (λ x. when x ≢ said) here → All (λ x. when x ≢ time) (all_of buckets)
nowhere when buckets at here said time t within is rising early reached none =
    subst (λ (one : ℤ). All (λ x. when x ≢ one) (all_of buckets)) t
    (lacks_all when buckets at within rising said early reached (subst (λ items. All (λ x. when x ≢ said) items) (get_or_read buckets at here within is []) none))

past : {X : Type 0} (when : X → ℤ) (buckets : List (List X)) (at : ℕ) (said time : ℤ) → said ≡ time → length buckets ≡ at → All (λ x. when x <ℤ said) (all_of (take at buckets)) → All (λ x. when x ≢ time) (all_of buckets)
past when buckets at said time t end early =
    subst (λ all. All (λ x. when x ≢ time) (all_of all)) (take_all at buckets (omega arith))
    (All-weaker (λ x. when x <ℤ said) (λ x. when x ≢ time) (λ x upto same. omega (arith, ints)) (all_of (take at buckets)) early)

pub returns-then-bucket-buckets : goal.returns-then-bucket-buckets
returns-then-bucket-buckets g c =
    let end = c.if-bucket-buckets.true in
    past g.T.Timed.timestamp c.args.buckets.now c.bucket_for-bucket.result (to_z w64 (of_z w64 c.args.time)) c.args.time (omega (arith, ints)) (omega arith) c.bucket_for-bucket.ensures.before

pub returns-in-None : goal.returns-in-None
returns-in-None g c =
    let t : to_z w64 (of_z w64 c.args.time) ≡ c.args.time = omega (arith, ints) in
    let apart = c.if-bucket-buckets.false in
    let upto = c.bucket_for-bucket.ensures.within in
    let within : c.bucket_for-bucket.result < length c.args.buckets.now = omega arith in
    nowhere g.T.Timed.timestamp c.args.buckets.now c.bucket_for-bucket.result c.index-buckets-bucket.result (to_z w64 (of_z w64 c.args.time)) c.args.time t within c.index-buckets-bucket.is c.requires
    c.bucket_for-bucket.ensures.before (c.bucket_for-bucket.ensures.reached within) c.in-None.ensures
