use Rattle.krb_keytab.proofs.HoleLaws.{all_free}
use Rattle.krb_keytab.proofs.holes.Holes.new.Goals as goal

pub returns : goal.returns
returns c = all_free c.args.holes.items c.requires
