use Rattle.std.proofs.Common.{Ok, Some, true, false, refl, ap, subst}
use Rattle.krb_file.specs.Field.{IsBytes}
use Rattle.krb_file.specs.Hand.{Hand}
use Rattle.krb_ccache.specs.Types.{BadItem}
use Rattle.krb_ccache.specs.declared.walking.TakeFault.TheVariants as stop
use Rattle.krb_ccache.specs.Format.{Spells}
use Rattle.krb_ccache.specs.Inner.Standing.{bytes_of}
use Rattle.krb_ccache.proofs.StepLaws.{came, missed, halts_cleared, lacks_memory, none_step, part_walked, part_halted, part_told}
use Rattle.krb_ccache.proofs.WalkEnds.{one_walks, one_halts, one_stands, none_stands}
use Rattle.krb_ccache.proofs.stepping.step_past.Goals as goal

pub none_past-requires : goal.none_past-requires
none_past-requires g c = record { within = (c.in-Ok.ensures.walk false).within }

pub none_past-requires-in-Err : goal.none_past-requires-in-Err
none_past-requires-in-Err g c = record { within = (c.in-Err.ensures.walk false).within }

pub returns-then-good-clause-step : goal.returns-then-good-clause-step
returns-then-good-clause-step g c =
    let hand = g.F.Feed.hand in
    let one = one_stands c.args.layout (hand c.clear.new.self) (hand c.take_all.new.feed) c.in-Ok.good (ap (λ (hand : Hand). hand.bytes) c.clear.ensures.cleared) (c.in-Ok.ensures.walk true) c.if-good.true (subst IsBytes c.bytes.ensures.bytes c.are_bytes.ensures) in
    let walks = one_walks c.args.layout (hand c.clear.new.self) (hand c.take_all.new.feed) (c.in-Ok.ensures.walk false) in
    (Ok (Some one.0.credential), refl, (one.0.bytes, came bytes_of (Spells c.args.layout) (hand c.args.feed.now) (hand c.clear.new.self) (hand c.take_all.new.feed) (hand c.take_all.new.feed).bytes one.0 walks.0 c.clear.ensures.cleared refl one.1), (one.0.bytes, one.1))

pub returns-else-good-clause-step : goal.returns-else-good-clause-step
returns-else-good-clause-step g c =
    let hand = g.F.Feed.hand in
    let walks = one_walks c.args.layout (hand c.clear.new.self) (hand c.take_all.new.feed) (c.in-Ok.ensures.walk false) in
    let missing = none_stands c.args.layout (hand c.clear.new.self) (hand c.take_all.new.feed) c.in-Ok.good (ap (λ (hand : Hand). hand.bytes) c.clear.ensures.cleared) (c.in-Ok.ensures.walk true) c.if-good.false in
    let halts = missed bytes_of (Spells c.args.layout) {memory = g.F.Feed.allocates} (hand c.args.feed.now) (hand c.clear.new.self) (hand c.take_all.new.feed) walks.0 c.clear.ensures.cleared missing in
    none_step c.args.layout (hand c.args.feed.now) (hand c.take_all.new.feed) (hand c.none_past.new.feed) stop.Long c.given-at.result c.none_past.ensures.none.0 c.given-at.ensures halts c.none_past.ensures.none.1 c.none_past.result c.none_past.ensures.none.2

pub returns-in-Err-clause-step : goal.returns-in-Err-clause-step
returns-in-Err-clause-step g c =
    let hand = g.F.Feed.hand in
    let none = c.none_past-in-Err.ensures.none in
    let halts = one_halts c.args.layout (hand c.clear.new.self) (hand c.take_all.new.feed) c.in-Err.stop (c.in-Err.ensures.walk false) in
    none_step c.args.layout (hand c.args.feed.now) (hand c.take_all.new.feed) (hand c.none_past-in-Err.new.feed) c.in-Err.stop c.given-at.result none.0 c.given-at.ensures
    (halts_cleared bytes_of (Spells c.args.layout) (hand c.args.feed.now) (hand c.clear.new.self) (hand c.take_all.new.feed) c.in-Err.stop halts.0 c.clear.ensures.cleared) none.1 c.none_past-in-Err.result none.2

pub returns-then-good-clause-part : goal.returns-then-good-clause-part
returns-then-good-clause-part g c =
    let hand = g.F.Feed.hand in
    part_walked c.args.layout (hand c.args.feed.now) (hand c.clear.new.self) (hand c.take_all.new.feed) (one_walks c.args.layout (hand c.clear.new.self) (hand c.take_all.new.feed) (c.in-Ok.ensures.walk false)).1 c.clear.ensures.cleared

pub returns-else-good-clause-part : goal.returns-else-good-clause-part
returns-else-good-clause-part g c =
    let hand = g.F.Feed.hand in
    let walks = one_walks c.args.layout (hand c.clear.new.self) (hand c.take_all.new.feed) (c.in-Ok.ensures.walk false) in
    part_told c.args.layout (hand c.args.feed.now) (hand c.take_all.new.feed) (hand c.none_past.new.feed) stop.Long (BadItem c.given-at.result) c.none_past.ensures.none.0
    (part_walked c.args.layout (hand c.args.feed.now) (hand c.clear.new.self) (hand c.take_all.new.feed) walks.1 c.clear.ensures.cleared) c.none_past.ensures.none.1

pub returns-in-Err-clause-part : goal.returns-in-Err-clause-part
returns-in-Err-clause-part g c =
    let hand = g.F.Feed.hand in
    let none = c.none_past-in-Err.ensures.none in
    let halts = one_halts c.args.layout (hand c.clear.new.self) (hand c.take_all.new.feed) c.in-Err.stop (c.in-Err.ensures.walk false) in
    part_told c.args.layout (hand c.args.feed.now) (hand c.take_all.new.feed) (hand c.none_past-in-Err.new.feed) c.in-Err.stop (BadItem c.given-at.result) none.0
    (part_halted c.args.layout (hand c.args.feed.now) (hand c.clear.new.self) (hand c.take_all.new.feed) c.in-Err.stop halts.1 c.clear.ensures.cleared) none.1

pub returns-in-Err-clause-memory : goal.returns-in-Err-clause-memory
returns-in-Err-clause-memory g c = λ e.
    let hand = g.F.Feed.hand in
    let halts = one_halts c.args.layout (hand c.clear.new.self) (hand c.take_all.new.feed) c.in-Err.stop (c.in-Err.ensures.walk false) in
    lacks_memory bytes_of (Spells c.args.layout) (hand c.clear.new.self) (hand c.take_all.new.feed) c.in-Err.stop halts.0 (c.none_past-in-Err.ensures.memory e)
