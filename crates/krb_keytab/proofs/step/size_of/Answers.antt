use Rattle.std.proofs.Common.{arith}
use Rattle.krb_keytab.proofs.MeetLaws.{size_read, size_short}
use Rattle.krb_keytab.proofs.step.size_of.Goals as goal

pub returns-clause-size : goal.returns-clause-size
returns-clause-size c = size_read c.args.bytes.now c.new.result c.read_i32.new.self c.read_i32.result (λ i. omega (arith, c.type_inv.bytes i)) c.requires c.new.ensures c.read_i32.ensures.read

pub returns-clause-short : goal.returns-clause-short
returns-clause-short c = size_short c.args.bytes.now c.new.result c.read_i32.result c.new.ensures c.read_i32.ensures.short
