use Rattle.std.proofs.Common.{ℕ, List, ap, slice_index_or}
use Rattle.std.specs.Int.{w8}
use Rattle.krb_file.proofs.Exits.{err_is}
use Rattle.krb_ccache.proofs.WalkParts.{byte_passed, flag_goes, number_first}
use Rattle.krb_ccache.proofs.field.BoolField.take.Goals as goal

pub returns-clause-walk : goal.returns-clause-walk
returns-clause-walk g c = λ strict.
    let hand = g.T.Feed.hand in
    flag_goes g.T.Feed.allocates strict c.args.left (slice_index_or c.in_ok-byte.field-0 0 0) (hand c.args.feed.now) (hand c.take_last.new.feed) c.in_ok-byte.ensures.taken (ap (λ (last : List ℕ). slice_index_or last 0 0) c.in_ok-byte.ensures.last)

pub returns-in_err-byte-clause-walk : goal.returns-in_err-byte-clause-walk
returns-in_err-byte-clause-walk g c = λ strict.
    let hand = g.T.Feed.hand in
    rw (err_is c.from_residual.result c.from_residual.ensures.1) (number_first g.T.Feed.allocates strict c.args.left _ w8 _ (byte_passed g.T.Feed.allocates strict c.args.left) (hand c.args.feed.now) (hand c.take_last.new.feed) c.in_err-byte.field-0.0 c.in_err-byte.ensures.taken)
