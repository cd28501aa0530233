use Rattle.std.proofs.Common.{ap, map, replicate, refl, ◌∙◌}
use Rattle.krb_aes.specs.State.{add_round_key}
use Rattle.krb_aes.specs.Inner.Schedule.{three_rows}
use Rattle.krb_aes.specs.Inner.Tower.{tower_form}
use Rattle.krb_aes.specs.declared.lanes.TheConstants.{KEPT}
use Rattle.krb_aes.proofs.LaneRounds.{three_rows_lanes, turned_lanes, kept_lanes}
use Rattle.krb_aes.proofs.lanes.form_key.Goals as goal

pub returns : goal.returns
unfolding three_rows
returns c =
    c.turned.ensures
    ∙ ap (turned_lanes KEPT c.args.shifts) (c.formed.ensures ∙ ap (map tower_form) (three_rows_lanes c.args.key.now c.requires.key))
    ∙ kept_lanes c.args.shifts (map tower_form (three_rows (add_round_key (replicate 16 0x63) c.args.key.now))) c.requires.shifts refl
