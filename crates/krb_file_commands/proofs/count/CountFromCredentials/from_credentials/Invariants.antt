use Rattle.std.proofs.Common.{◌≡◌, ◌-◌, ◌≤◌, List, ℕ, Option, None}
use Rattle.krb_file.specs.File.{file_limit}
use Rattle.krb_file_commands.specs.Inner.Walk.{CredentialsCounted, IsOpened}
use Rattle.krb_file_commands.proofs.count.CountFromCredentials.from_credentials.Given as goal

abbrev pub invariant-loop-count : goal.invariant-loop-count
invariant-loop-count g l = record {
  counted : (from : Option (List ℕ)) → IsOpened g.S.Source.remaining from l.fn.reader → CredentialsCounted g.S.Source.remaining from l.reader l.count;
  going : l.reader.ended ≡ None;
  few : l.count ≤ l.reader.given;
  limit : l.count ≤ file_limit;
  failures : g.S.Source.failure_count l.reader.source ≡ g.S.Source.failure_count l.fn.reader.source;
  lent : g.S.Source.lender l.reader.source ≡ g.S.Source.lender l.fn.reader.source;
}

abbrev pub decreases-loop-count : goal.decreases-loop-count
decreases-loop-count g l = file_limit - l.reader.given
