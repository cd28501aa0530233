use Rattle.krb_gss.proofs.ListingLaws.{listing-one}
use Rattle.krb_gss.proofs.laws.one_listing.Goals as goal

pub returns : goal.returns
returns c m n a b bytes = listing-one m n a b bytes
