use Rattle.std.proofs.Common.{◌∙◌}
use Rattle.krb_aes.proofs.LaneRules.{bytes_in_lanes, map_same}
use Rattle.krb_aes.proofs.LaneTests.{times_0d_is}
use Rattle.krb_aes.proofs.tower.times_0d.Goals as goal

pub returns : goal.returns
returns c = c.by_nibbles.ensures ∙ map_same _ _ times_0d_is c.args.bytes (bytes_in_lanes c.args.bytes c.fits-bytes).each
