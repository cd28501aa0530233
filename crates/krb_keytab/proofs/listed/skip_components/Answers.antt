use Rattle.std.proofs.Common.{[], ◌∷◌, ◌++◌}
use Rattle.std.specs.Int.{w16}
use Rattle.std.proofs.lemmas.Result.{err_from_is_err_and}
use Rattle.krb_file.specs.Cursor.{data_at}
use Rattle.krb_file.proofs.Repeated.{times_goes_on, times_stops, times_done}
use Rattle.krb_keytab.proofs.listed.skip_components.Goals as goal

pub loop-preserved : goal.loop-preserved
loop-preserved c = (
  c.loop.invariant.0 ++ c.in_ok-read_data16.field-0.now ∷ [],
  times_goes_on (data_at w16) c.loop.invariant.0 c.args.count c.loop.counter c.loop.cursor c.in_ok-read_data16.field-0.now _ _ c.loop-test.true c.in_ok-read_data16.ensures.read c.loop.invariant.1,
)

pub returns-clause-ok : goal.returns-clause-ok
returns-clause-ok c = (c.loop.invariant.0, times_done (data_at w16) c.loop.invariant.0 c.args.count c.loop.counter c.loop.cursor _ c.loop-test.false c.loop.invariant.1)

pub returns-in_err-read_data16-clause-short : goal.returns-in_err-read_data16-clause-short
returns-in_err-read_data16-clause-short c =
    let p = err_from_is_err_and c.from_residual.result c.from_residual.ensures.1 in
    rw p.1 (times_stops (data_at w16) c.loop.invariant.0 c.args.count c.loop.counter c.loop.cursor _ c.loop-test.true c.in_err-read_data16.ensures.short c.loop.invariant.1)
