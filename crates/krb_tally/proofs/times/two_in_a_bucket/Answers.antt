use Rattle.std.proofs.Common.{◌≡◌, ◌∙◌, ◌∷◌, ℤ, [], ap, arith, of_z, sym, to_z}
use Rattle.std.specs.Int.{w64}
use Rattle.std.proofs.lemmas.Int.{ints}
use Rattle.krb_tally.proofs.AddedLaws.{one_more}
use Rattle.krb_tally.proofs.times.two_in_a_bucket.Goals as goal

pub returns : goal.returns
returns c =
    let first : to_z w64 (of_z w64 c.args.one) ≡ c.args.one = omega (arith, ints) in
    one_more _ (c.args.one ∷ []) c.in_ok-times.times c.add.new.self c.in_ok-new.field-0.value _ c.args.other (omega (arith, ints))
    (c.in_ok-times.ensures ∙ ap (λ (time : ℤ). time ∷ []) first)
    (sym c.in_ok-new.ensures.ok) c.in_ok-add.ensures.ok
