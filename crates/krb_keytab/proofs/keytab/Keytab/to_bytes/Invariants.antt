use Rattle.std.proofs.Common.{◌≡◌, ◌≤◌, length, take}
use Rattle.std.specs.Prelude.{All}
use Rattle.krb_keytab.specs.Entry.{FitsEntry}
use Rattle.krb_file.specs.File.{file_limit}
use Rattle.krb_keytab.specs.Written.{written}
use Rattle.krb_keytab.proofs.keytab.Keytab.to_bytes.Given as goal

abbrev pub invariant-loop-entry : goal.invariant-loop-entry
invariant-loop-entry l = record {
  written : l.bytes.items ≡ written (take l.entry-index l.entry-items);
  limit : length l.bytes.items ≤ file_limit;
  fit : All FitsEntry (take l.entry-index l.entry-items);
}
