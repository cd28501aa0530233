use Rattle.std.proofs.Common.{◌≡◌, ◌≤◌, ◌-◌, Option, List, ℕ, []}
use Rattle.std.specs.Prelude.{All}
use Rattle.krb_ccache.specs.Types.{Principal, HeaderField}
use Rattle.krb_file.specs.File.{file_limit, GivesWithin}
use Rattle.krb_ccache.specs.Reader.{HasTaken}
use Rattle.krb_ccache.specs.Value.{cache_of, FitsCredential}
use Rattle.krb_ccache.proofs.stepping.steps.Given as goal

abbrev pub invariant-loop-credentials : goal.invariant-loop-credentials
invariant-loop-credentials g l = record {
  within : (g.F.Feed.hand l.feed).given ≤ file_limit;
  failures : g.F.Feed.failure_count l.feed ≡ g.F.Feed.failure_count l.fn.feed;
  fits : All FitsCredential l.credentials;
  lent : g.F.Feed.lender l.feed ≡ g.F.Feed.lender l.fn.feed;
  gave : GivesWithin (g.F.Feed.hand l.fn.feed).source (g.F.Feed.hand l.feed).source (g.F.Feed.hand l.fn.feed).given (g.F.Feed.hand l.feed).given;
  taken : (from : Option (List ℕ)) (header : List HeaderField) (name : Principal) → HasTaken l.layout from (g.F.Feed.hand l.fn.feed).source (g.F.Feed.hand l.fn.feed).given (cache_of header name [])
      → HasTaken l.layout from (g.F.Feed.hand l.feed).source (g.F.Feed.hand l.feed).given (cache_of header name l.credentials);
}

abbrev pub decreases-loop-credentials : goal.decreases-loop-credentials
decreases-loop-credentials g l = file_limit - (g.F.Feed.hand l.feed).given
