use Rattle.krb_aes.proofs.LaneRules.{places_below, xor_places, io_places, jo_places, io_lanes, jo_lanes}
use Rattle.krb_aes.proofs.tower.inverted.Goals as goal

pub looked_up-a_over_k-requires : goal.looked_up-a_over_k-requires
looked_up-a_over_k-requires c = places_below c.args.k c.requires.k

pub looked_up-requires : goal.looked_up-requires
looked_up-requires c = places_below c.args.i c.requires.i

pub looked_up-requires-2 : goal.looked_up-requires-2
looked_up-requires-2 c =
    io_places c.args.i c.args.k _ _ c.requires.i c.requires.k c.looked_up.ensures c.looked_up-a_over_k.ensures

pub looked_up-requires-3 : goal.looked_up-requires-3
looked_up-requires-3 c = xor_places c.args.i c.args.k c.requires.i c.requires.k

pub looked_up-requires-4 : goal.looked_up-requires-4
looked_up-requires-4 c =
    jo_places c.args.i c.args.k _ _ c.requires.i c.requires.k c.looked_up-3.ensures c.looked_up-a_over_k.ensures

pub returns-clause-io : goal.returns-clause-io
returns-clause-io c =
    io_lanes c.args.i c.args.k _ _ _ c.looked_up.ensures c.looked_up-a_over_k.ensures c.looked_up-2.ensures

pub returns-clause-jo : goal.returns-clause-jo
returns-clause-jo c =
    jo_lanes c.args.i c.args.k _ _ _ c.looked_up-3.ensures c.looked_up-a_over_k.ensures c.looked_up-4.ensures
