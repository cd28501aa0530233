use Rattle.krb_aes.proofs.LaneRules.{places_fit, swz_is_map}
use Rattle.krb_aes.proofs.tower.looked_up.Goals as goal

pub swizzle : goal.swizzle
swizzle c = places_fit c.args.places c.requires

pub returns : goal.returns
returns c = swz_is_map c.args.table.now c.args.places c.requires
