use Rattle.std.proofs.Common.{refl, sym, subst}
use Rattle.krb_aes.specs.Inner.Tower.{ArePlaces}
use Rattle.krb_aes.proofs.LaneRules.{bytes_in_lanes, by_nibbles_lanes, low_halves, high_halves, places_of_bytes}
use Rattle.krb_aes.proofs.tower.by_nibbles.Goals as goal

pub looked_up-requires : goal.looked_up-requires
looked_up-requires c =
    subst ArePlaces (sym (low_halves c.args.bytes c.fits-bytes.0)) (places_of_bytes _ refl c.args.bytes (bytes_in_lanes c.args.bytes c.fits-bytes))

pub looked_up-requires-2 : goal.looked_up-requires-2
looked_up-requires-2 c =
    subst ArePlaces (sym (high_halves c.args.bytes c.fits-bytes.0)) (places_of_bytes _ refl c.args.bytes (bytes_in_lanes c.args.bytes c.fits-bytes))

pub returns : goal.returns
returns c =
    by_nibbles_lanes _ _ c.args.bytes _ _ c.fits-bytes.0 c.looked_up.ensures c.looked_up-2.ensures
