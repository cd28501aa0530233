use Rattle.std.proofs.Common.{refl, ap, map, ◌∙◌}
use Rattle.krb_aes.specs.State.{inv_mix_columns}
use Rattle.krb_aes.specs.Inner.Tower.{inv_form}
use Rattle.krb_aes.specs.declared.lanes.TheConstants.{KEPT}
use Rattle.krb_aes.proofs.LaneRounds.{chunk_16, turned_lanes, kept_lanes}
use Rattle.krb_aes.proofs.lanes.inv_key.Goals as goal

pub returns : goal.returns
unfolding inv_mix_columns
returns c =
    c.turned.ensures
    ∙ ap (turned_lanes KEPT c.args.shifts)
    (c.inv_formed-form.ensures ∙ ap (map inv_form) (c.inv_mix_columns.ensures ∙ ap inv_mix_columns (chunk_16 c.args.key.now c.requires.key)))
    ∙ kept_lanes c.args.shifts (map inv_form (inv_mix_columns c.args.key.now)) c.requires.shifts refl
