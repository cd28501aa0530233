use Rattle.std.proofs.Common.{◌%◌, ◌^◌}
use Rattle.std.specs.Int.{w32}
use Rattle.krb_file.specs.Cursor.{number_bytes}
use Rattle.krb_keytab.proofs.EntryLaws.{row_spelled}
use Rattle.krb_keytab.proofs.entry.Entry.body.Goals as goal

pub returns-clause-spelled : goal.returns-clause-spelled
returns-clause-spelled c =
    let entry = c.args.self.now in
    rw (c.bytes_of_u16-count.ensures, c.bytes_of_u32.ensures, c.dated.ensures.spelled, c.kvno.ensures, c.as_slice-bytes.ensures, c.len.ensures, c.principal-name.ensures) (row_spelled entry (entry.kvno % 2 ^ 8) (number_bytes w32 entry.kvno))
