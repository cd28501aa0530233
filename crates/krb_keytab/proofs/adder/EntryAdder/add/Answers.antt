use Rattle.std.proofs.Common.{arith}
use Rattle.krb_keytab.proofs.AdderLaws.{place_of, at_length, has_room, has_none, filled_always, knows_filled, knows_appended, ends_within}
use Rattle.krb_keytab.proofs.adder.EntryAdder.add.Goals as goal

pub overflow_add-to : goal.overflow_add-to
overflow_add-to c =
    let ends = ends_within (has_room c.self.invariant c.in-Some.ensures) in
    omega (arith, ends.0, ends.1)

pub put_in-requires-clause-room : goal.put_in-requires-clause-room
put_in-requires-clause-room c = has_room c.self.invariant (at_length c.record_length-size.ensures.length c.in-Some.ensures)

pub invariant_of-self : goal.invariant_of-self
invariant_of-self c =
    let filled = filled_always (place_of c.in-Some.hole) c.args.entry.now c.self.inside.file.items c.put_in.new.file.items c.put_in.result c.put_in.ensures.puts in
    knows_filled c.args.entry.now c.self.invariant (at_length c.record_length-size.ensures.length c.in-Some.ensures) filled.0 filled.1

pub put_in-requires-in-None-clause-room : goal.put_in-requires-in-None-clause-room
put_in-requires-in-None-clause-room c = rw c.record_length-size.ensures.length at (has_none c.record_length-size.result c.self.invariant c.in-None.ensures.0)

pub invariant_of-self-in-None : goal.invariant_of-self-in-None
invariant_of-self-in-None c = rw c.record_length-size.ensures.length (knows_appended c.args.entry.now c.self.invariant c.in-None.ensures.1 c.in_ok-put_in-in-None.ensures.puts)
