use Rattle.std.proofs.Common.{ap, map, ◌∙◌}
use Rattle.krb_aes.specs.Inner.Tower.{substituted_of, tower_form}
use Rattle.krb_aes.proofs.LaneRules.{bytes_in_lanes, map_after}
use Rattle.krb_aes.proofs.LaneTests.{sub_is}
use Rattle.krb_aes.specs.SBox.{s_box}
use Rattle.krb_aes.proofs.tower.substituted.Goals as goal

pub returns : goal.returns
returns c =
    c.substituted_form.ensures ∙ ap (map substituted_of) c.formed.ensures
    ∙ map_after tower_form substituted_of s_box sub_is c.args.bytes (bytes_in_lanes c.args.bytes c.fits-bytes).each
