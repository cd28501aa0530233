use Rattle.std.proofs.Common.{true}
use Rattle.krb_file.proofs.Exits.{err_is}
use Rattle.krb_ccache.specs.Inner.Row.{row_at}
use Rattle.krb_ccache.proofs.WalkParts.{both_stop, both_walk}
use Rattle.krb_ccache.proofs.field.Tuple2Field.take.Goals as goal

pub take-requires-2-clause-within : goal.take-requires-2-clause-within
take-requires-2-clause-within g c = (c.in_ok-next.ensures.walk true).within

pub returns-in_err-next-clause-walk : goal.returns-in_err-next-clause-walk
returns-in_err-next-clause-walk g c = λ strict.
    let hand = g.T.Feed.hand in
    rw (err_is c.from_residual.result c.from_residual.ensures.1)
    (both_stop g.T.Feed.allocates strict c.args.left (row_at g.A.Field.fields strict c.args.layout) (row_at g.B.Field.fields strict c.args.layout) (hand c.args.feed.now) (hand c.take.new.feed) c.in_err-next.field-0.0 (c.in_err-next.ensures.walk strict))

pub returns-clause-walk : goal.returns-clause-walk
returns-clause-walk g c = λ strict.
    let hand = g.T.Feed.hand in
    both_walk g.T.Feed.allocates strict c.args.left (row_at g.A.Field.fields strict c.args.layout) (row_at g.B.Field.fields strict c.args.layout) (hand c.args.feed.now) (hand c.take.new.feed) (hand c.take-2.new.feed) c.in_ok-next.next c.take-2.result (c.in_ok-next.ensures.walk strict) (c.take-2.ensures.walk strict)
