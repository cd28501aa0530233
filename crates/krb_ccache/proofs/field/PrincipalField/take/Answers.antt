use Rattle.std.proofs.Common.{ap, ◌∙◌}
use Rattle.std.specs.Int.{w32, from_be_bytes}
use Rattle.krb_file.proofs.Exits.{err_is}
use Rattle.krb_ccache.proofs.WalkParts.{name_first, name_second, name_walk}
use Rattle.krb_ccache.proofs.field.PrincipalField.take.Goals as goal

pub returns-clause-walk : goal.returns-clause-walk
returns-clause-walk g c = λ strict.
    let hand = g.T.Feed.hand in
    name_walk g.T.Feed.allocates strict c.args.left (hand c.args.feed.now) (hand c.take_last.new.feed) c.from_be_bytes-count.result c.in_ok-take_last.ensures.taken (c.from_be_bytes-count.ensures ∙ ap (from_be_bytes w32) c.in_ok-take_last.ensures.last)
    (hand c.take_last-2.new.feed) (hand c.take_many.new.feed) c.from_be_bytes-realm.result c.in_ok-take_last-2.ensures.taken (c.from_be_bytes-realm.ensures ∙ ap (from_be_bytes w32) c.in_ok-take_last-2.ensures.last) c.take_many.result c.take_many.ensures.good c.take_many.ensures.walk

pub returns-in_err-take_last-clause-walk : goal.returns-in_err-take_last-clause-walk
returns-in_err-take_last-clause-walk g c = λ strict.
    let hand = g.T.Feed.hand in
    rw (err_is c.from_residual.result c.from_residual.ensures.1) (name_first g.T.Feed.allocates strict c.args.left (hand c.args.feed.now) (hand c.take_last.new.feed) c.in_err-take_last.field-0.0 c.in_err-take_last.ensures.taken)

pub returns-in_err-take_last-2-clause-walk : goal.returns-in_err-take_last-2-clause-walk
returns-in_err-take_last-2-clause-walk g c = λ strict.
    let hand = g.T.Feed.hand in
    rw (err_is c.from_residual-in_err-take_last-2.result c.from_residual-in_err-take_last-2.ensures.1)
    (name_second g.T.Feed.allocates strict c.args.left (hand c.args.feed.now) (hand c.take_last.new.feed) c.from_be_bytes-count.result c.in_ok-take_last.ensures.taken (c.from_be_bytes-count.ensures ∙ ap (from_be_bytes w32) c.in_ok-take_last.ensures.last)
    (hand c.take_last-2.new.feed) c.in_err-take_last-2.field-0.0 c.in_err-take_last-2.ensures.taken)
