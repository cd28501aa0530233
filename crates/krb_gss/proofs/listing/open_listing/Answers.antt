use Rattle.krb_gss.proofs.NegotiationLaws.{match-map}
use Rattle.krb_gss.proofs.ListingLaws.{listing-none, listing-is, listing-not}
use Rattle.krb_gss.proofs.listing.open_listing.Goals as goal

pub returns-in-None : goal.returns-in-None
returns-in-None c = listing-none c.args.bytes.now c.in-None.ensures

pub returns-in-Some : goal.returns-in-Some
returns-in-Some c =
    let e = c.in-Some.ensures in
    match-map c.listing_of.result c.listing_of.ensures (λ n. listing-not e n) (λ l k. listing-is e l.mechanism l.list.now k.0 k.1)
