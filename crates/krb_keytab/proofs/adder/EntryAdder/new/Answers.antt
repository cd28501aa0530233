use Rattle.std.specs.List.{flat_map}
use Rattle.krb_keytab.specs.Format.{entries_of}
use Rattle.krb_keytab.proofs.MadeLaws.{made_keytab}
use Rattle.krb_keytab.proofs.adder.EntryAdder.new.Goals as goal

pub returns-clause-keytab : goal.returns-clause-keytab
returns-clause-keytab c =
    let room = rw c.deref.ensures.value at c.in_ok-holes.ensures.room in
    (flat_map entries_of room.records, made_keytab room.is)
