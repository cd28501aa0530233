use Rattle.std.proofs.Common.{arith, refl}
use Rattle.krb_keytab.proofs.PutLaws.{puts_mid}
use Rattle.krb_keytab.proofs.part.put_bytes.Goals as goal

pub returns : goal.returns
returns c = record {
  puts = puts_mid c.args.out.now c.args.at _ c.args.bytes.now c.copy_from_slice.new.self c.requires (omega arith) c.copy_from_slice.ensures.after;
  end_is = refl;
}
