use Rattle.std.proofs.Common.{◌≡◌, ◌-◌, List, ℕ, Option, None, string_bytes}
use Rattle.krb_file.specs.File.{file_limit}
use Rattle.krb_file_commands.specs.Inner.Walk.{CredentialsListed, IsOpened}
use Rattle.krb_file_commands.proofs.lines.LinesFromCredentials.from_credentials.Given as goal

abbrev pub invariant-loop-lines : goal.invariant-loop-lines
invariant-loop-lines g l = record {
  listed : (from : Option (List ℕ)) → IsOpened g.S.Source.remaining from l.fn.reader → CredentialsListed g.S.Source.remaining from l.reader (string_bytes l.lines);
  going : l.reader.ended ≡ None;
  failures : g.S.Source.failure_count l.reader.source ≡ g.S.Source.failure_count l.fn.reader.source;
  lent : g.S.Source.lender l.reader.source ≡ g.S.Source.lender l.fn.reader.source;
}

abbrev pub decreases-loop-lines : goal.decreases-loop-lines
decreases-loop-lines g l = file_limit - l.reader.given
