use Rattle.std.proofs.Common.{◌≡◌, ◌-◌, None}
use Rattle.krb_file.specs.File.{file_limit}
use Rattle.krb_keytab.specs.Items.{last_answer}
use Rattle.krb_example.proofs.files.print_versions.Given as goal

abbrev pub invariant-loop-reader : goal.invariant-loop-reader
invariant-loop-reader l = record {
  going : last_answer l.reader.stage ≡ None;
}

abbrev pub decreases-loop-reader : goal.decreases-loop-reader
decreases-loop-reader l = file_limit - l.reader.given
