use Rattle.std.proofs.Common.{◌≤◌, ◌-◌, Some}
use Rattle.krb_file.specs.File.{file_limit}
use Rattle.krb_ccache.specs.Reader.{HasTaken}
use Rattle.krb_ccache.specs.Value.{Cache}
use Rattle.krb_ccache.proofs.checking.check.Given as goal

abbrev pub invariant-loop-count : goal.invariant-loop-count
invariant-loop-count l = record {
  cache : Cache;
  taken : HasTaken l.layout (Some l.bytes) (Some l.slice.source) l.slice.given cache;
  within : l.slice.given ≤ file_limit;
  few : l.count ≤ l.slice.given;
}

abbrev pub decreases-loop-count : goal.decreases-loop-count
decreases-loop-count l = file_limit - l.slice.given
