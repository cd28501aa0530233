use Rattle.std.proofs.Common.{ap, ◌∙◌}
use Rattle.std.specs.Int.{w32, from_be_bytes}
use Rattle.krb_file.proofs.Exits.{err_is}
use Rattle.krb_ccache.proofs.WalkParts.{data_passed, data_goes, number_first}
use Rattle.krb_ccache.proofs.field.BytesField.take.Goals as goal

pub returns-clause-walk : goal.returns-clause-walk
returns-clause-walk g c = λ strict.
    let hand = g.T.Feed.hand in
    data_goes g.T.Feed.allocates strict c.args.left c.from_be_bytes-last.result (hand c.args.feed.now) (hand c.take_last.new.feed) c.in_ok-take_last.ensures.taken (c.from_be_bytes-last.ensures ∙ ap (from_be_bytes w32) c.in_ok-take_last.ensures.last)

pub returns-in_err-take_last-clause-walk : goal.returns-in_err-take_last-clause-walk
returns-in_err-take_last-clause-walk g c = λ strict.
    let hand = g.T.Feed.hand in
    rw (err_is c.from_residual.result c.from_residual.ensures.1) (number_first g.T.Feed.allocates strict c.args.left _ w32 _ (data_passed w32) (hand c.args.feed.now) (hand c.take_last.new.feed) c.in_err-take_last.field-0.0 c.in_err-take_last.ensures.taken)
