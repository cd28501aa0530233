use Rattle.std.proofs.Common.{◌<◌, ◌∙◌, subst, sym}
use Rattle.krb_replay.specs.Inner.Counts.{AddsIf, count_by}
use Rattle.krb_replay.specs.Inner.Order.{TwoNames, pair_cmp}
use Rattle.krb_replay.proofs.KeptLaws.{more_then_less_if, some_counted_if}
use Rattle.krb_replay.proofs.held.count.Goals as goal

pub uncount_other-requires : goal.uncount_other-requires
uncount_other-requires c = λ other.
    subst (λ (names : TwoNames). 0 < count_by pair_cmp c.count_other.new.pairs.counts names) (c.pair-2.ensures ∙ sym c.pair-in-Err.ensures)
    (some_counted_if c.args.is_other c.args.pairs.now.counts c.count_other.new.pairs.counts c.pair-2.result.now c.in_ok-count_other.ensures.ok other)

pub returns-in-Err-clause-pair_err : goal.returns-in-Err-clause-pair_err
returns-in-Err-clause-pair_err c =
    more_then_less_if c.args.is_other c.args.pairs.now.counts c.count_other.new.pairs.counts c.uncount_other.new.pairs.counts c.pair-in-Err.result.now
    (subst (λ (names : TwoNames). AddsIf pair_cmp c.args.is_other c.args.pairs.now.counts c.count_other.new.pairs.counts names) (c.pair-2.ensures ∙ sym c.pair-in-Err.ensures) c.in_ok-count_other.ensures.ok)
    c.uncount_other.ensures
