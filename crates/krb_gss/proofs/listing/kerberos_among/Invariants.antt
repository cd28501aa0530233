use Rattle.std.proofs.Common.{length}
use Rattle.krb_gss.proofs.ListingLaws.{SameNames}
use Rattle.krb_gss.proofs.listing.kerberos_among.Given as goal

abbrev pub invariant-loop-oid : goal.invariant-loop-oid
invariant-loop-oid l = SameNames l.left l.names

abbrev pub decreases-loop-oid : goal.decreases-loop-oid
decreases-loop-oid l = length l.left.rest
