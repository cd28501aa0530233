use Rattle.std.proofs.Common.{◌≡◌, ◌∙◌, ◌<◌, ℤ, Bool, List, Option, Contains, ap, arith, subst, sym, unwrap_or}
use Rattle.std.specs.BTreeMap.{BTreeMap, get_key}
use Rattle.std.proofs.lemmas.Int.{ints}
use Rattle.krb_replay.specs.Stamp.{Stamp}
use Rattle.krb_replay.specs.Inner.Counts.{TakesIf, count_by}
use Rattle.krb_replay.specs.Inner.Held.{AreCounted, AreTimed, IsOnce, differs, is_other, others}
use Rattle.krb_replay.specs.Inner.Order.{TwoNames, client_cmp, client_total, names_of, pair_cmp}
use Rattle.krb_replay.specs.Inner.Times.{TakesTime, times_by}
use Rattle.krb_replay.proofs.KeptLaws.{first_counted, others_less, others_taken}
use Rattle.krb_replay.proofs.MostLaws.{most_less}
use Rattle.krb_replay.proofs.OnceLaws.{once_rest_counts}
use Rattle.krb_replay.proofs.TimesLaws.{first_timed, timed_less}
use Rattle.krb_replay.proofs.held.Held.pop_first.Goals as goal

there_for : (times : BTreeMap TwoNames (List ℤ)) (names : TwoNames) (time : ℤ) (tuple : Stamp) → names ≡ names_of tuple → time ≡ tuple.time
    → Contains (times_by client_cmp times (names_of tuple)) tuple.time → Contains (times_by client_cmp times names) time
there_for times names time tuple is at there =
    subst (λ (n : TwoNames). Contains (times_by client_cmp times n) time) (sym is) (subst (λ (t : ℤ). Contains (times_by client_cmp times (names_of tuple)) t) (sym at) there)

takes_for : (old new : BTreeMap TwoNames (List ℤ)) (names : TwoNames) (time : ℤ) (tuple : Stamp) → names ≡ names_of tuple → time ≡ tuple.time → TakesTime client_cmp old new names time
    → TakesTime client_cmp old new (names_of tuple) tuple.time
takes_for old new names time tuple is at takes =
    subst (λ (t : ℤ). TakesTime client_cmp old new (names_of tuple) t) at (subst (λ (n : TwoNames). TakesTime client_cmp old new n time) is takes)

pub uncount-requires-clause-client : goal.uncount-requires-clause-client
uncount-requires-clause-client c =
    there_for c.self.inside.clients.times c.into_parts-time.result.1 _ c.in-Some.first c.into_parts-time.ensures.names (let time = c.micros-time.ensures in let at = c.into_parts-time.ensures.time in omega (arith, ints))
    (first_timed client_cmp client_total c.in-Some.first c.pop_first.new.self c.self.inside.clients.times
    (subst (λ (stamps : List Stamp). AreTimed client_cmp stamps c.self.inside.clients.times) c.in-Some.ensures c.self.invariant.1.0))

other_is : (times : BTreeMap TwoNames (List ℤ)) (kept : Option TwoNames) (names : TwoNames) (first : Stamp) (answer : Bool) → kept ≡ get_key client_cmp times names
    → answer ≡ differs (unwrap_or kept names) names → names ≡ names_of first → is_other times (names_of first) ≡ answer
other_is times kept names first answer found says is =
    ap (λ (n : TwoNames). is_other times n) (sym is) ∙ (ap (λ (k : Option TwoNames). differs (unwrap_or k names) names) (sym found) ∙ sym says)

pub uncount-requires-clause-pair : goal.uncount-requires-clause-pair
uncount-requires-clause-pair c = λ other.
    subst (λ (names : TwoNames). 0 < count_by pair_cmp c.self.inside.pairs.counts names) (sym c.into_parts-time.ensures.names)
    (first_counted c.in-Some.first c.pop_first.new.self c.self.inside.clients.times c.self.inside.pairs.counts
    (other_is c.self.inside.clients.times _ c.into_parts-time.result.1 c.in-Some.first c.is_other-is_other.result c.kept.ensures c.is_other-is_other.ensures c.into_parts-time.ensures.names ∙ other)
    (subst (λ (stamps : List Stamp). AreCounted pair_cmp (others c.self.inside.clients.times stamps) c.self.inside.pairs.counts) c.in-Some.ensures c.self.invariant.1.1.0))

pub invariant_of-self : goal.invariant_of-self
invariant_of-self c =
    let takes = takes_for c.self.inside.clients.times c.uncount.new.clients.times c.into_parts-time.result.1 _ c.in-Some.first c.into_parts-time.ensures.names
    (let time = c.micros-time.ensures in let at = c.into_parts-time.ensures.time in omega (arith, ints)) c.uncount.ensures.client in
    let timed = timed_less client_cmp c.in-Some.first c.pop_first.new.self c.self.inside.clients.times c.uncount.new.clients.times
    (subst (λ (stamps : List Stamp). AreTimed client_cmp stamps c.self.inside.clients.times) c.in-Some.ensures c.self.invariant.1.0) takes in (
      once_rest_counts c.in-Some.first c.pop_first.new.self (subst (λ (stamps : List Stamp). IsOnce stamps) c.in-Some.ensures c.self.invariant.0),
      (
        timed,
        (
          others_less c.is_other-is_other.result c.in-Some.first c.pop_first.new.self c.self.inside.clients.times c.uncount.new.clients.times c.self.inside.pairs.counts c.uncount.new.pairs.counts
              (subst (λ (stamps : List Stamp). AreCounted pair_cmp (others c.self.inside.clients.times stamps) c.self.inside.pairs.counts) c.in-Some.ensures c.self.invariant.1.1.0)
              (other_is c.self.inside.clients.times _ c.into_parts-time.result.1 c.in-Some.first c.is_other-is_other.result c.kept.ensures c.is_other-is_other.ensures c.into_parts-time.ensures.names)
              (subst (λ (names : TwoNames). TakesIf pair_cmp c.is_other-is_other.result c.self.inside.pairs.counts c.uncount.new.pairs.counts names) c.into_parts-time.ensures.names c.uncount.ensures.pair)
              (others_taken c.pop_first.new.self c.self.inside.clients.times c.uncount.new.clients.times (names_of c.in-Some.first) c.in-Some.first.time timed takes),
          most_less c.self.inside.clients.times c.uncount.new.clients.times (names_of c.in-Some.first) c.in-Some.first.time c.self.inside.most takes c.self.invariant.1.1.1,
        ),
      ),
    )
