use Rattle.std.proofs.Common.{◌≡◌, ℤ, pos, ◌≤ℤ◌, List, ℕ, length, to_z, of_z, w64, sym, ap, subst, ◌∙◌, arith}
use Rattle.std.proofs.lemmas.Bool.{both_ways}
use Rattle.std.proofs.lemmas.Bool.Decides.{Decides-eqb}
use Rattle.std.proofs.lemmas.Int.{ints}
use Rattle.std.proofs.lemmas.Slice.Eq.{slice_eq-Decides}
use Rattle.jiff_core.specs.DateTime.{civil_seconds}
use Rattle.jiff_core.specs.declared.civil.datetime.DateTime.{DateTime}
use Rattle.krb_time.specs.Inner.CivilView.{plain_civil}
use Rattle.krb_time.specs.Time.{IsCivil, IsTime, text_of}
use Rattle.krb_time.proofs.Calendar.{time_is, time_range}
use Rattle.krb_time.proofs.ClockLaws.{not_time, time_named, time_read}
use Rattle.krb_time.proofs.seconds.second_of.Goals as goal

-- what the code computes of a date-time with this text
spelled : (t : DateTime) (r : ℤ) (content text : List ℕ) → pos 0 ≤ℤ t.date.year → r ≡ civil_seconds t → text ≡ text_of (plain_civil t) → content ≡ text → IsTime (to_z w64 (of_z w64 r)) content
spelled t r content text year value is same =
    let time = time_is t content year (same ∙ is) in
    let range = time_range _ content time in
    let back : to_z w64 (of_z w64 r) ≡ civil_seconds t = omega (arith, ints) in
    subst (λ s. IsTime s content) (sym back) time

pub returns-then-text-ne15 : goal.returns-then-text-ne15
returns-then-text-ne15 c =
    sym (not_time c.args.text.now (λ s h. absurd (omega (arith, ap length h.whole, c.if-text-ne15.true))))

pub returns-in_err-civil : goal.returns-in_err-civil
returns-in_err-civil c =
    c.from_residual.ensures ∙ sym (not_time c.args.text.now (λ s h. c.in_err-civil.ensures.none (subst IsCivil (time_named s c.args.text.now h) h.valid)))

pub returns-else-eq : goal.returns-else-eq
returns-else-eq c =
    sym (not_time c.args.text.now (λ s h.
    let text : c.as_slice.result.now ≡ text_of h.civil = c.as_slice.ensures ∙ c.text_of.ensures ∙ ap text_of (c.in_ok-civil.ensures.value ∙ sym (time_named s c.args.text.now h)) in
    both_ways _ c.if-eq.false ((slice_eq-Decides Decides-eqb _ _ _ c.eq.ensures).1 (h.whole ∙ sym text))))

pub invariant_of-result : goal.invariant_of-result
invariant_of-result c =
    time_range _ c.args.text.now (spelled _ _ _ _ c.in_ok-civil.ensures.year c.to_second.ensures.value (c.as_slice.ensures ∙ c.text_of.ensures) ((slice_eq-Decides Decides-eqb _ _ _ c.eq.ensures).0 c.if-eq.true))

pub returns-then-eq : goal.returns-then-eq
returns-then-eq c =
    sym (time_read _ c.args.text.now (spelled _ _ _ _ c.in_ok-civil.ensures.year c.to_second.ensures.value (c.as_slice.ensures ∙ c.text_of.ensures) ((slice_eq-Decides Decides-eqb _ _ _ c.eq.ensures).0 c.if-eq.true)))
