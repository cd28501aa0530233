use Rattle.std.proofs.Common.{length}
use Rattle.std.specs.List.{flat_map}
use Rattle.krb_keytab.specs.Format.{entries_of, version}
use Rattle.krb_keytab.proofs.EditLaws.{no_fault}
use Rattle.krb_keytab.proofs.HoleLaws.{have_bytes_all}
use Rattle.krb_keytab.proofs.MadeLaws.{made_keytab}
use Rattle.krb_keytab.proofs.adder.read_room.Goals as goal

pub new-requires : goal.new-requires
new-requires c =
    let room = c.in-Ok.ensures.all in
    have_bytes_all (length version) room.records c.read_all.new.gathered.items room.holds.1

pub returns-in_ok-new-in-Ok-clause-faulty : goal.returns-in_ok-new-in-Ok-clause-faulty
returns-in_ok-new-in-Ok-clause-faulty c = λ fault f.
    let room = c.in-Ok.ensures.all in
    absurd (no_fault c.args.bytes.now (flat_map entries_of room.records) fault (made_keytab room.is) f)

pub returns-in_err-new-in-Ok-clause-faulty : goal.returns-in_err-new-in-Ok-clause-faulty
returns-in_err-new-in-Ok-clause-faulty c = λ fault f.
    let room = c.in-Ok.ensures.all in
    absurd (no_fault c.args.bytes.now (flat_map entries_of room.records) fault (made_keytab room.is) f)
