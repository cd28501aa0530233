use Rattle.std.proofs.Common.{◌≢◌, take}
use Rattle.std.specs.Prelude.{All}
use Rattle.krb_ccache.proofs.configuration.offset_in.Given as goal

abbrev pub invariant-loop-field : goal.invariant-loop-field
invariant-loop-field l = All (λ field. field.tag ≢ 1) (take l.field-index l.header)
