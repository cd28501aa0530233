use Rattle.std.proofs.Common.{sym, ap, ◌∙◌}
use Rattle.krb_gss.specs.Mechanism.{named_of}
use Rattle.krb_gss.proofs.ListingLaws.{named-among, goes-on, none-among}
use Rattle.krb_gss.proofs.listing.kerberos_among.Goals as goal

pub returns-in-Ok-named : goal.returns-in-Ok-named
returns-in-Ok-named c = named-among c.enter.ensures c.loop-oid.invariant c.in-Ok.is c.in-Ok-named.mechanism (sym (c.in-Ok-named.ensures ∙ ap named_of c.rest.ensures))

pub loop-oid-preserved : goal.loop-oid-preserved
loop-oid-preserved c = goes-on c.enter.ensures c.loop-oid.invariant c.in-Ok.is c.in-Err.field-0 (sym (c.in-Err.ensures ∙ ap named_of c.rest.ensures))

pub returns : goal.returns
returns c m k = none-among c.enter.ensures c.loop-oid.invariant c.in_default.field-0 c.in_default.is m k
