use Rattle.std.proofs.Common.{◌≡◌, ℤ, pos, arith}
use Rattle.std.proofs.lemmas.Bool.{false≢true}
use Rattle.std.proofs.lemmas.Int.{ints}
use Rattle.jiff_core.specs.Calendar.{IsDate}
use Rattle.krb_time.specs.Time.{Civil, IsCivil}
use Rattle.krb_time.specs.Clock.{civil_of}
use Rattle.krb_time.proofs.Calendar.{same_civil}
use Rattle.krb_time.proofs.civil.civil_in.Goals as goal

date_is : (y m d : ℤ) (t : Civil) → y ≡ pos t.year → m ≡ pos t.month → d ≡ pos t.day → IsCivil t → IsDate y m d
date_is y m d t year month day v =
    rw (year, month, day) (v.date.0, (omega (arith, ints, v.date.1), omega (arith, ints, v.date.1)), (omega (arith, ints, v.date.2), omega (arith, ints, v.date.2)))

pub returns-in_default-clause-none : goal.returns-in_default-clause-none
unfolding civil_of
returns-in_default-clause-none c =
    λ v. false≢true (c.in_default.ensures.succeeds.1 (date_is _ _ _ (civil_of c.args.content.now) (omega (arith, ints, c.pair.ensures, c.pair-2.ensures, c.from.ensures, c.from-2.ensures)) (omega (arith, ints, c.pair-3.ensures)) (omega (arith, ints, c.pair-4.ensures)) v))

pub returns-in_default-new-clause-none : goal.returns-in_default-new-clause-none
unfolding civil_of
returns-in_default-new-clause-none c =
    λ v. false≢true (c.in_default-new.ensures.succeeds.1 (
      (omega (arith, ints, c.pair-5.ensures, v.hour), omega (arith, ints, c.pair-5.ensures, v.hour)),
      (omega (arith, ints, c.pair-6.ensures, v.minute), omega (arith, ints, c.pair-6.ensures, v.minute)),
      (omega (arith, ints, c.pair-7.ensures, v.second), omega (arith, ints, c.pair-7.ensures, v.second)),
      (omega (arith, ints), omega (arith, ints)),
    ))

pub returns-clause-value : goal.returns-clause-value
unfolding civil_of
returns-clause-value c =
    let date = c.in-Ok.ensures.value in
    let time = c.in-Ok-new.ensures.value in
    same_civil _ _ (omega (arith, ints, date.0, c.pair.ensures, c.pair-2.ensures, c.from.ensures, c.from-2.ensures)) (omega (arith, ints, date.1, c.pair-3.ensures)) (omega (arith, ints, date.2, c.pair-4.ensures))
    (omega (arith, ints, time.0, c.pair-5.ensures)) (omega (arith, ints, time.1, c.pair-6.ensures)) (omega (arith, ints, time.2, c.pair-7.ensures))
