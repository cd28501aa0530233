use Rattle.std.proofs.Common.{ℕ, List, [], Bool, Some, Ok, Err, refl, ap, subst, arith}
use Rattle.krb_file.specs.Window.{AtHand}
use Rattle.krb_file.specs.Hand.{slice_hand}
use Rattle.krb_file.proofs.Exits.{err_is}
use Rattle.krb_ccache.specs.Types.{CacheFault, Layout}
use Rattle.krb_ccache.specs.Reader.{HasTaken, GaveFault}
use Rattle.krb_ccache.specs.Value.{Cache, cache_of}
use Rattle.krb_ccache.proofs.ReaderLaws.{passed_taken, passed_end, passed_err, next_end, next_fault}
use Rattle.krb_ccache.proofs.SourceLaws.{answer_of_whole, fault_of_slice, taken_length}
use Rattle.krb_ccache.proofs.checking.check.Goals as goal

pub loop-count-init : goal.loop-count-init
loop-count-init c =
    let start = c.in_ok-layout.ensures.taken in
    let cache : Cache = cache_of start.0 start.1 [] in
    record {
      cache = cache;
      taken = subst (λ (slice : AtHand (List ℕ)). HasTaken c.in_ok-layout.layout (Some slice.source) (Some c.pass_start.new.feed.source) c.pass_start.new.feed.given cache) c.new-slice.ensures start.2;
      within = c.in_ok-layout.ensures.within;
      few = omega arith;
    }

pub loop-count-preserved : goal.loop-count-preserved
loop-count-preserved c =
    let now = c.loop-count.invariant in
    let step = rw c.if-branch.true at c.in_ok-step_past.ensures.step in
    let next = passed_taken c.in_ok-layout.layout (Some c.args.bytes.now) (slice_hand c.loop-count.slice) (slice_hand c.step_past.new.feed) now.cache step.0 step.1 step.2 now.taken in
    record { cache = next.0; taken = next.1; within = next.3; few = omega (arith, now.few, next.2) }

pub returns-clause-ok : goal.returns-clause-ok
returns-clause-ok c =
    let now = c.loop-count.invariant in
    let step = rw c.if-branch.false at c.in_ok-step_past.ensures.step in
    let ended = passed_end c.in_ok-layout.layout step.0 _ step.1 refl in
    let gave = next_end c.in_ok-layout.layout (Some c.args.bytes.now) (slice_hand c.loop-count.slice) (slice_hand c.step_past.new.feed) now.cache step.0 step.2 now.taken ended in
    (now.cache, answer_of_whole c.args.bytes.now gave.0 _ (Ok now.cache) gave.1 gave.2)

pub returns-clause-count : goal.returns-clause-count
returns-clause-count c =
    let now = c.loop-count.invariant in
    omega (arith, now.few, taken_length c.in_ok-layout.layout c.args.bytes.now _ c.loop-count.slice.given now.cache now.taken)

pub returns-in_err-layout-clause-fault : goal.returns-in_err-layout-clause-fault
returns-in_err-layout-clause-fault c =
    let fault = c.in_err-layout.field-0.0 in
    let gave = subst (λ (slice : AtHand (List ℕ)). GaveFault (Some slice.source) (Some c.pass_start.new.feed.source) fault) c.new-slice.ensures c.in_err-layout.ensures.fault in
    rw (err_is c.from_residual.result c.from_residual.ensures.1) (fault_of_slice Layout c.args.bytes.now _ fault gave (λ is. c.in_err-layout.ensures.memory (ap (λ (f : CacheFault). Err f) is)) c.in_err-layout.ensures.failed)

pub returns-in_err-step_past-clause-fault : goal.returns-in_err-step_past-clause-fault
returns-in_err-step_past-clause-fault c =
    let now = c.loop-count.invariant in
    let fault = c.in_err-step_past.field-0.0 in
    let step = c.in_err-step_past.ensures.step in
    let gave = passed_err c.in_ok-layout.layout step.0 (Err fault) _ step.1 (next_fault c.in_ok-layout.layout (Some c.args.bytes.now) (slice_hand c.loop-count.slice) (slice_hand c.step_past.new.feed) now.cache step.0 step.2 now.taken) in
    rw (err_is c.from_residual-in_err-step_past.result c.from_residual-in_err-step_past.ensures.1) (fault_of_slice Bool c.args.bytes.now _ fault gave (λ is. c.in_err-step_past.ensures.memory (ap (λ (f : CacheFault). Err f) is)) c.in_err-step_past.ensures.failed)
