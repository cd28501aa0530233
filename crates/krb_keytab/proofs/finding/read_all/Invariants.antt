use Rattle.std.proofs.Common.{◌≤◌, List, length}
use Rattle.krb_file.specs.File.{file_limit}
use Rattle.krb_keytab.specs.Format.{KeytabRecord}
use Rattle.krb_keytab.proofs.ScanLaws.{Spans}
use Rattle.krb_keytab.proofs.finding.read_all.Given as goal

abbrev pub invariant-each_record : goal.invariant-each_record
invariant-each_record g l = record {
  records : List KeytabRecord;
  spans : Spans l.bytes l.slice records;
  limit : l.slice.given ≤ file_limit;
  has : g.G.Gather.has l.fn.gathered records l.gathered;
}

abbrev pub decreases-each_record : goal.decreases-each_record
decreases-each_record g l = length l.slice.source
