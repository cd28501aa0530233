use Rattle.krb_ccache.proofs.FitsLaws.{tested_as}
use Rattle.krb_ccache.proofs.part.CredentialPart.fits.Goals as goal

pub returns : goal.returns
returns c = tested_as c.fits.result _ _ _ _ c.row.ensures.range c.row.ensures.fits c.fits.ensures
