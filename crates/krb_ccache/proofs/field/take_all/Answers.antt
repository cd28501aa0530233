use Rattle.std.proofs.Common.{true, Ok, Err}
use Rattle.krb_file.proofs.Exits.{err_is}
use Rattle.krb_ccache.specs.Inner.Walking.{passed_at}
use Rattle.krb_ccache.specs.Inner.Row.{row_at}
use Rattle.krb_ccache.proofs.WalkParts.{all_stop, all_walk}
use Rattle.krb_ccache.proofs.field.take_all.Goals as goal

pub take-requires-2 : goal.take-requires-2
take-requires-2 g c = record { within = (c.in_ok-left.ensures.walk true).within }

pub returns-clause-walk : goal.returns-clause-walk
returns-clause-walk g c = λ strict.
    let hand = g.T.Feed.hand in
    all_walk g.T.Feed.allocates strict (passed_at (row_at g.F.Field.fields strict c.args.layout)) c.none.result c.none.ensures (hand c.args.feed.now) (hand c.take.new.feed) (hand c.take-2.new.feed) c.in_ok-left.left (c.in_ok-left.ensures.walk strict) (Ok c.in_ok-take.field-0) c.in_ok-take.ensures.taken

pub returns-in_err-left-clause-walk : goal.returns-in_err-left-clause-walk
returns-in_err-left-clause-walk g c = λ strict.
    let hand = g.T.Feed.hand in
    rw (err_is c.from_residual.result c.from_residual.ensures.1) (all_stop g.T.Feed.allocates strict (passed_at (row_at g.F.Field.fields strict c.args.layout)) c.none.result c.none.ensures (hand c.args.feed.now) (hand c.take.new.feed) c.in_err-left.field-0.0 (c.in_err-left.ensures.walk strict))

pub returns-in_err-take-clause-walk : goal.returns-in_err-take-clause-walk
returns-in_err-take-clause-walk g c = λ strict.
    let hand = g.T.Feed.hand in
    rw (err_is c.from_residual-in_err-take.result c.from_residual-in_err-take.ensures.1)
    (all_walk g.T.Feed.allocates strict (passed_at (row_at g.F.Field.fields strict c.args.layout)) c.none.result c.none.ensures (hand c.args.feed.now) (hand c.take.new.feed) (hand c.take-2.new.feed) c.in_ok-left.left (c.in_ok-left.ensures.walk strict) {T = Unit {0}} (Err c.in_err-take.field-0.0) c.in_err-take.ensures.taken)
