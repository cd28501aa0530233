use Rattle.std.proofs.Common.{refl}
use Rattle.krb_c.specs.Messages.{limited, unlimited}
use Rattle.krb_c.proofs.messages.limit.Goals as goal

pub returns-in-Some : goal.returns-in-Some
returns-in-Some c = limited c.in-Some.limit c.in-Some.ensures.fits c.sized.ensures

pub returns-in-None : goal.returns-in-None
returns-in-None c = unlimited (c.in-None.ensures.none refl) c.plain.ensures
