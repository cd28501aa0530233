use Rattle.krb_ccache.specs.declared.walking.TakeFault.TheVariants as stop
use Rattle.krb_ccache.proofs.StepLaws.{passed_by, missed, halts_cleared, misses, lacks_memory, told_memory}
use Rattle.krb_ccache.proofs.stepping.pass.Goals as goal

pub returns-in-Ok-true-clause-passed : goal.returns-in-Ok-true-clause-passed
returns-in-Ok-true-clause-passed g c =
    let hand = g.F.Feed.hand in
    let there = rw c.in-Ok-true.field-0-test at c.in-Ok-true.ensures.there in
    passed_by (g.L.Leading.spelled c.args.layout) (g.L.Leading.InRange c.args.layout) (hand c.args.feed.now) (hand c.clear.new.self) (hand c.take.new.feed) c.in-Ok-true.ensures.walks c.clear.ensures.cleared there

pub returns-in-Ok-false-clause-misses : goal.returns-in-Ok-false-clause-misses
returns-in-Ok-false-clause-misses g c =
    let hand = g.F.Feed.hand in
    let s = g.L.Leading.spelled c.args.layout in
    let P = g.L.Leading.InRange c.args.layout in
    let none = rw c.in-Ok-false.field-0-test at c.in-Ok-false.ensures.there in
    misses s P {memory = g.F.Feed.allocates} (hand c.args.feed.now) (hand c.take.new.feed) (hand c.told.new.feed) stop.Long c.args.fault c.told.result
    (missed s P (hand c.args.feed.now) (hand c.clear.new.self) (hand c.take.new.feed) c.in-Ok-false.ensures.walks c.clear.ensures.cleared none) c.told.ensures.told

pub returns-in-Err-clause-misses : goal.returns-in-Err-clause-misses
returns-in-Err-clause-misses g c =
    let hand = g.F.Feed.hand in
    let s = g.L.Leading.spelled c.args.layout in
    let P = g.L.Leading.InRange c.args.layout in
    misses s P (hand c.args.feed.now) (hand c.take.new.feed) (hand c.told-in-Err.new.feed) c.in-Err.stop c.args.fault c.told-in-Err.result
    (halts_cleared s P (hand c.args.feed.now) (hand c.clear.new.self) (hand c.take.new.feed) c.in-Err.stop c.in-Err.ensures.halts c.clear.ensures.cleared) c.told-in-Err.ensures.told

pub returns-in-Err-clause-memory : goal.returns-in-Err-clause-memory
returns-in-Err-clause-memory g c =
    let hand = g.F.Feed.hand in
    told_memory c.args.fault c.told-in-Err.result c.in-Err.stop c.told-in-Err.ensures.memory c.requires.named
    (lacks_memory (g.L.Leading.spelled c.args.layout) (g.L.Leading.InRange c.args.layout) (hand c.clear.new.self) (hand c.take.new.feed) c.in-Err.stop c.in-Err.ensures.halts)

pub returns-in-Ok-false-clause-memory : goal.returns-in-Ok-false-clause-memory
returns-in-Ok-false-clause-memory g c = told_memory c.args.fault c.told.result stop.Long c.told.ensures.memory c.requires.named (λ e. absurd cc)
