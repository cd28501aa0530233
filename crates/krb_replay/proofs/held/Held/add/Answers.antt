use Rattle.std.proofs.Common.{◌≡◌, ◌∙◌, ◌≤ℤ◌, ◌∷◌, ℤ, Bool, List, Option, Contains, ap, arith, length, refl, subst, sym, unwrap_or}
use Rattle.std.proofs.lemmas.Int.{ints}
use Rattle.std.proofs.lemmas.List.Sorted.{length_permutation}
use Rattle.std.specs.BTreeMap.{BTreeMap, get_key}
use Rattle.std.specs.declared.cmp.Ordering.{Ordering}
use Rattle.krb_replay.specs.Stamp.{Stamp}
use Rattle.krb_replay.specs.Memory.{AddsStamp}
use Rattle.krb_replay.specs.Inner.Counts.{AddsIf}
use Rattle.krb_replay.specs.Inner.Held.{AreCounted, AreTimed, IsOnce, differs, is_other, others}
use Rattle.krb_replay.specs.Inner.Order.{TwoNames, client_cmp, client_total, names_of, pair_cmp}
use Rattle.krb_replay.specs.Inner.Times.{AddsTime, SameTimes, kept_by}
use Rattle.krb_replay.proofs.SetLaws.{adds_nothing}
use Rattle.krb_replay.proofs.HeldLaws.{counted_still}
use Rattle.krb_replay.proofs.KeptLaws.{more_then_less_if, others_added, others_more, others_still, some_counted_if}
use Rattle.krb_replay.proofs.MostLaws.{most_more, most_still}
use Rattle.krb_replay.proofs.OnceLaws.{once_more}
use Rattle.krb_replay.proofs.TimesLaws.{added_by, added_there, found_by, more_then_less, none_before, timed_more, timed_still}
use Rattle.krb_replay.proofs.held.Held.add.Goals as goal

-- for the names and the time that were kept of the tuple
adds_for : (cmp : TwoNames → TwoNames → Ordering) (old new : BTreeMap TwoNames (List ℤ)) (names : TwoNames) (time : ℤ) (tuple : Stamp) → names ≡ names_of tuple → time ≡ tuple.time → AddsTime cmp old new names time
    → AddsTime cmp old new (names_of tuple) tuple.time
adds_for cmp old new names time tuple is at adds = subst (λ (t : ℤ). AddsTime cmp old new (names_of tuple) t) at (subst (λ (n : TwoNames). AddsTime cmp old new n time) is adds)

-- the names that were parted from it
names_are : (tuple held : Stamp) (names : TwoNames) → held ≡ tuple → names ≡ names_of tuple → names ≡ names_of held
names_are tuple held names same is = is ∙ ap names_of (sym same)

-- whether other names are kept, before and after
other_still : (before after : BTreeMap TwoNames (List ℤ)) (kept : Option TwoNames) (first asked names : TwoNames) (held : Stamp) (answer : Bool) → kept ≡ get_key client_cmp before first
    → answer ≡ differs (unwrap_or kept asked) asked → first ≡ asked → asked ≡ names → names ≡ names_of held → kept_by client_cmp after names ≡ kept_by client_cmp before names
    → is_other after (names_of held) ≡ answer
other_still before after kept first asked names held answer found says again same is own =
    ap (λ (n : TwoNames). is_other after n) (sym is)
    ∙ (ap (λ (k : TwoNames). differs k names) own
    ∙ (ap (λ (n : TwoNames). is_other before n) (sym same)
    ∙ (ap (λ (n : TwoNames). differs (unwrap_or (get_key client_cmp before n) asked) asked) (sym again)
    ∙ (ap (λ (k : Option TwoNames). differs (unwrap_or k asked) asked) (sym found) ∙ sym says))))

pub returns-then-has-clause-ok : goal.returns-then-has-clause-ok
returns-then-has-clause-ok c =
    adds_nothing c.args.self.now c.args.tuple
    (subst (λ (one : Stamp). Contains c.args.self.now one) c.held.ensures
    ((found_by c.self.inside.tuples c.args.self.now c.held.result.now c.has.result c.self.view_is c.has.ensures.found c.has.ensures.lacks).0 c.if-has.true))

pub invariant_of-self-in-Ok : goal.invariant_of-self-in-Ok
invariant_of-self-in-Ok c =
    let same : c.into_parts-held.result.0 ≡ c.args.tuple = c.into_parts-held.ensures.held ∙ c.in_ok-tuple.ensures in
    let absent : Contains c.self.inside.tuples c.into_parts-held.result.0 → ⊥ = λ there.
    let yes = (found_by c.self.inside.tuples c.self.inside.tuples c.held.result.now c.has.result refl c.has.ensures.found c.has.ensures.lacks).1
    (subst (λ (one : Stamp). Contains c.self.inside.tuples one) (same ∙ sym c.held.ensures) there) in
    let no = c.if-has.false in
    absurd (cc) in (
      once_more c.self.inside.tuples c.add.new.self c.into_parts-held.result.0 c.self.invariant.0 absent c.in-Ok.ensures.ok,
      (
        timed_more client_cmp c.self.inside.tuples c.add.new.self c.self.inside.clients.times c.count.new.clients.times c.into_parts-held.result.0 c.self.invariant.1.0 c.in-Ok.ensures.ok
            (adds_for client_cmp c.self.inside.clients.times c.count.new.clients.times c.into_parts-held.result.1 _ c.into_parts-held.result.0 (names_are _ _ _ c.into_parts-held.ensures.held c.into_parts-held.ensures.names)
            (let time = c.timestamp-time.ensures in omega (arith, ints)) c.in_ok-number.ensures.client),
        (
          others_more c.is_other-is_other.result c.self.inside.tuples c.add.new.self c.self.inside.clients.times c.count.new.clients.times c.self.inside.pairs.counts c.count.new.pairs.counts c.into_parts-held.result.0
              c.self.invariant.1.1.0 c.in-Ok.ensures.ok
              (others_added c.self.inside.tuples c.self.inside.clients.times c.count.new.clients.times c.into_parts-held.result.1 _ c.self.invariant.1.0 c.in_ok-number.ensures.client)
              (other_still c.self.inside.clients.times c.count.new.clients.times _ c.names.result.now c.names-2.result.now c.into_parts-held.result.1 c.into_parts-held.result.0 c.is_other-is_other.result
              c.kept-kept.ensures c.is_other-is_other.ensures (c.names.ensures ∙ sym c.names-2.ensures)
              (c.names-2.ensures ∙ (ap names_of (sym c.in_ok-tuple.ensures) ∙ sym c.into_parts-held.ensures.names)) (names_are _ _ _ c.into_parts-held.ensures.held c.into_parts-held.ensures.names) c.in_ok-number.ensures.client.own)
              (subst (λ (names : TwoNames). AddsIf pair_cmp c.is_other-is_other.result c.self.inside.pairs.counts c.count.new.pairs.counts names) (names_are _ _ _ c.into_parts-held.ensures.held c.into_parts-held.ensures.names) c.in_ok-number.ensures.pair),
          let above = c.max-self-inside.ensures in
              most_more c.self.inside.clients.times c.count.new.clients.times c.into_parts-held.result.1 _ c.in_ok-number.number c.self.inside.most _ c.in_ok-number.ensures.client c.in_ok-number.ensures.number
              (omega arith) (omega arith) c.self.invariant.1.1.1,
        ),
      ),
    )

pub uncount-requires-clause-client : goal.uncount-requires-clause-client
uncount-requires-clause-client c =
    added_there client_cmp client_total c.self.inside.clients.times c.count.new.clients.times c.into_parts-held.result.1 _ c.in_ok-number.ensures.client

pub uncount-requires-clause-pair : goal.uncount-requires-clause-pair
uncount-requires-clause-pair c = λ other.
    some_counted_if c.is_other-is_other.result c.self.inside.pairs.counts c.count.new.pairs.counts c.into_parts-held.result.1 c.in_ok-number.ensures.pair other

pub invariant_of-self-in-Err : goal.invariant_of-self-in-Err
invariant_of-self-in-Err c =
    let same : SameTimes client_cmp c.self.inside.clients.times c.uncount.new.clients.times =
    more_then_less client_cmp c.self.inside.clients.times c.count.new.clients.times c.uncount.new.clients.times c.into_parts-held.result.1 _ c.in_ok-number.ensures.client c.uncount.ensures.client in (
      subst (λ (stamps : List Stamp). IsOnce stamps) (sym c.in-Err.ensures.err) c.self.invariant.0,
      (
        subst (λ (stamps : List Stamp). AreTimed client_cmp stamps c.uncount.new.clients.times) (sym c.in-Err.ensures.err)
            (timed_still client_cmp c.self.inside.tuples c.self.inside.clients.times c.uncount.new.clients.times c.self.invariant.1.0 same),
        (
          subst (λ (stamps : List Stamp). AreCounted pair_cmp (others c.uncount.new.clients.times stamps) c.uncount.new.pairs.counts) (sym c.in-Err.ensures.err)
              (subst (λ (list : List Stamp). AreCounted pair_cmp list c.uncount.new.pairs.counts)
              (sym (others_still c.self.inside.tuples c.self.inside.clients.times c.uncount.new.clients.times c.self.invariant.1.0 same))
              (counted_still pair_cmp (others c.self.inside.clients.times c.self.inside.tuples) c.self.inside.pairs.counts c.uncount.new.pairs.counts c.self.invariant.1.1.0
              (more_then_less_if c.is_other-is_other.result c.self.inside.pairs.counts c.count.new.pairs.counts c.uncount.new.pairs.counts c.into_parts-held.result.1 c.in_ok-number.ensures.pair c.uncount.ensures.pair))),
          most_still c.self.inside.clients.times c.uncount.new.clients.times c.self.inside.most same c.self.invariant.1.1.1,
        ),
      ),
    )

pub returns-in-Ok-clause-ok : goal.returns-in-Ok-clause-ok
returns-in-Ok-clause-ok c =
    subst (λ (old : List Stamp). AddsStamp (Contains old) (Contains c.add.new.self) c.args.tuple) c.self.view_is
    (subst (λ (one : Stamp). AddsStamp (Contains c.self.inside.tuples) (Contains c.add.new.self) one) (c.into_parts-held.ensures.held ∙ c.in_ok-tuple.ensures)
    (added_by c.self.inside.tuples c.add.new.self c.into_parts-held.result.0 c.in-Ok.ensures.ok))

pub returns-in-Ok-clause-grows : goal.returns-in-Ok-clause-grows
returns-in-Ok-clause-grows c =
    let longer = length_permutation (c.into_parts-held.result.0 ∷ c.self.inside.tuples) c.add.new.self c.in-Ok.ensures.ok in
    let same = ap (λ (stamps : List Stamp). length stamps) c.self.view_is in
    omega arith

pub returns-in-Ok-clause-before : goal.returns-in-Ok-clause-before
returns-in-Ok-clause-before c = λ oldest recent.
    none_before oldest c.self.inside.tuples c.add.new.self c.args.self.now c.into_parts-held.result.0 c.in-Ok.ensures.ok c.self.view_is
    (subst (λ (tuple : Stamp). oldest ≤ℤ tuple.time) (sym (c.into_parts-held.ensures.held ∙ c.in_ok-tuple.ensures)) recent)

pub invariant_of-self : goal.invariant_of-self
invariant_of-self c = (
  c.self.invariant.0,
  (
    timed_still client_cmp c.self.inside.tuples c.self.inside.clients.times c.count.new.clients.times c.self.invariant.1.0 c.in_err-number.ensures.client_err,
    (
      subst (λ (list : List Stamp). AreCounted pair_cmp list c.count.new.pairs.counts)
          (sym (others_still c.self.inside.tuples c.self.inside.clients.times c.count.new.clients.times c.self.invariant.1.0 c.in_err-number.ensures.client_err))
          (counted_still pair_cmp (others c.self.inside.clients.times c.self.inside.tuples) c.self.inside.pairs.counts c.count.new.pairs.counts c.self.invariant.1.1.0 c.in_err-number.ensures.pair_err),
      most_still c.self.inside.clients.times c.count.new.clients.times c.self.inside.most c.in_err-number.ensures.client_err c.self.invariant.1.1.1,
    ),
  ),
)

pub returns-in_err-tuple-clause-repeat : goal.returns-in_err-tuple-clause-repeat
returns-in_err-tuple-clause-repeat c = λ there.
    let yes = (found_by c.self.inside.tuples c.args.self.now c.held.result.now c.has.result c.self.view_is c.has.ensures.found c.has.ensures.lacks).1
    (subst (λ (one : Stamp). Contains c.args.self.now one) (sym c.held.ensures) there) in
    let no = c.if-has.false in
    absurd (cc)

pub returns-in_err-number-clause-repeat : goal.returns-in_err-number-clause-repeat
returns-in_err-number-clause-repeat c = λ there.
    let yes = (found_by c.self.inside.tuples c.args.self.now c.held.result.now c.has.result c.self.view_is c.has.ensures.found c.has.ensures.lacks).1
    (subst (λ (one : Stamp). Contains c.args.self.now one) (sym c.held.ensures) there) in
    let no = c.if-has.false in
    absurd (cc)

pub returns-clause-repeat : goal.returns-clause-repeat
returns-clause-repeat c = λ there.
    let yes = (found_by c.self.inside.tuples c.args.self.now c.held.result.now c.has.result c.self.view_is c.has.ensures.found c.has.ensures.lacks).1
    (subst (λ (one : Stamp). Contains c.args.self.now one) (sym c.held.ensures) there) in
    let no = c.if-has.false in
    absurd (cc)
