use Rattle.std.proofs.Common.{◌≡◌, ◌≢◌, ◌<◌, ◌∙◌, ℤ, List, All, false, ap, arith, length, of_z, refl, subst, sym, to_z}
use Rattle.std.specs.Int.{w64}
use Rattle.std.proofs.lemmas.Int.{ints}
use Rattle.krb_tally.specs.Inner.Kept.{FitsTwo, times_of}
use Rattle.krb_tally.specs.Inner.Removal.{Removes}
use Rattle.krb_tally.specs.declared.times.Times.TheInside.{Inside}
use Rattle.krb_tally.specs.contracts.times.Times.{the_view}
use Rattle.krb_tally.proofs.RemovalLaws.{alone, lacking, one_of_two, removes_as, still_some}
use Rattle.krb_tally.proofs.times.Times.remove.Goals.{in-One, in-Two, in-Few, in-Many}
use Rattle.krb_tally.proofs.times.Times.remove.Goals as goal

whole : (c : goal.After-free_if_one) → Removes c.args.self.now c.args.time c.match-self-2.removed (the_view c.match-self-2.self-inside)
whole c =
    let t : to_z w64 (of_z w64 c.args.time) ≡ c.args.time = omega (arith, ints) in
    elim c.match-self-2.branch [
      | in-One w ↦
          let one = ap (λ (items : List ℤ). length items) (ap times_of (sym w.in-One.is) ∙ c.self.view_is) in
          removes_as c.args.self.now c.args.self.now c.args.self.now (the_view c.match-self-2.self-inside) c.args.time false c.match-self-2.removed refl
          (ap the_view w.self-inside-is ∙ c.self.view_is) w.removed-is (alone c.args.self.now c.args.time (omega arith))
      | in-Two w ↦
          removes_as c.args.self.now c.args.self.now c.args.self.now (the_view c.match-self-2.self-inside) c.args.time false c.match-self-2.removed refl
          (ap the_view w.self-inside-is ∙ c.self.view_is) w.removed-is
          (lacking c.args.self.now c.args.time (subst (λ (times : List ℤ). All (λ one. one ≢ c.args.time) times) c.self.view_is
          (subst (λ (time : ℤ). All (λ one. one ≢ time) (times_of c.self.inside.kept)) t (c.other_of_two.ensures.none c.in_default.is w.in-Two.field-0 w.in-Two.field-1 w.in-Two.is))))
      | in-Few w ↦
          removes_as c.args.self.now w.deref_mut.result.now w.remove_few-removed.new.times (the_view c.match-self-2.self-inside) c.args.time w.remove_few-removed.result c.match-self-2.removed
          (w.deref_mut.ensures.value ∙ (ap times_of (sym w.in-Few.is) ∙ c.self.view_is)) (ap the_view w.self-inside-is) w.removed-is
          (subst (λ (time : ℤ). Removes w.deref_mut.result.now time w.remove_few-removed.result w.remove_few-removed.new.times) t w.remove_few-removed.ensures)
      | in-Many w ↦
          removes_as c.args.self.now w.deref_mut-in-Many.result.now w.remove_many-removed.new.times (the_view c.match-self-2.self-inside) c.args.time w.remove_many-removed.result c.match-self-2.removed
          (w.deref_mut-in-Many.ensures.value ∙ (ap times_of (sym w.in-Many.is) ∙ c.self.view_is)) (ap the_view w.self-inside-is) w.removed-is
          (subst (λ (time : ℤ). Removes w.deref_mut-in-Many.result.now time w.remove_many-removed.result w.remove_many-removed.new.times) t w.remove_many-removed.ensures)
    ]

fits : (c : goal.After-free_if_one) → FitsTwo c.match-self-2.self-inside.kept
fits c =
    elim c.match-self-2.branch [
      | in-One w ↦ subst (λ (inside : Inside). FitsTwo inside.kept) (sym w.self-inside-is) c.self.invariant.1
      | in-Two w ↦ subst (λ (inside : Inside). FitsTwo inside.kept) (sym w.self-inside-is) c.self.invariant.1
      | in-Few w ↦ subst (λ (inside : Inside). FitsTwo inside.kept) (sym w.self-inside-is) tt
      | in-Many w ↦ subst (λ (inside : Inside). FitsTwo inside.kept) (sym w.self-inside-is) tt
    ]

pub invariant_of-self-2 : goal.invariant_of-self-2
invariant_of-self-2 c =
    let some = c.self.invariant.0 in
    let long = ap (λ (items : List ℤ). length items) c.self.view_is in (
      subst (λ (times : List ℤ). 0 < length times) (sym c.free_if_one.ensures.times)
          (still_some c.args.self.now (the_view c.match-self-2.self-inside) c.args.time c.match-self-2.removed (whole c) (omega arith)),
      c.free_if_one.ensures.fits (fits c),
    )

pub returns-in-Some-clause-exactly : goal.returns-in-Some-clause-exactly
returns-in-Some-clause-exactly c =
    ((λ yes. one_of_two c.args.self.now (times_of c.self.inside.kept) c.args.time _ _ c.self.view_is (omega (arith, ints)) c.in-Some.ensures.other), (λ there. refl))

pub returns : goal.returns
returns c =
    let r = subst (λ (times : List ℤ). Removes c.args.self.now c.args.time c.match-self-2.removed times) (sym c.free_if_one.ensures.times) (whole c) in
    record {
      exactly = (λ e. (r.there e, r.others e), λ h. r.always h.0 h.1);
      removed = r.removed;
      kept = r.kept;
    }
