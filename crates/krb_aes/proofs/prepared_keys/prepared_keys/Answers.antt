use Rattle.std.proofs.Common.{◌≡◌, ◌≤◌, ◌+◌, ◌-◌, ◌*◌, length, ◌∙◌, arith}
use Rattle.krb_aes.specs.Inner.Schedule.{form_round_key, inv_round_key}
use Rattle.krb_aes.proofs.ExpansionRules.{put_next, length-form_round_key, length-inv_round_key}
use borrow.Rule.Slice.PartMut.{same_len_mid}
use Rattle.krb_aes.proofs.prepared_keys.prepared_keys.Goals as goal

pub loop-at-preserved : goal.loop-at-preserved
loop-at-preserved c =
    let at = c.loop-at.at in
    let words = c.args.words.now in
    let form_room : 16 * at + 16 ≤ length c.loop-at.form_words = omega (arith, c.loop-at.invariant.form_long) in
    let inv_room : 16 * at + 16 ≤ length c.loop-at.inv_words = omega (arith, c.loop-at.invariant.inv_long) in
    let sixteen : 16 * at + 16 - 16 * at ≡ 16 = omega arith in
    let form : c.copy_from_slice.new.self ≡ form_round_key words at = cc (rw sixteen at c.form_key.ensures) in
    let inv : c.copy_from_slice-in-loop-at.new.self ≡ inv_round_key words at = cc (rw sixteen at c.inv_key.ensures) in
    record {
      formed = put_next (form_round_key words) c.loop-at.form_words _ at form_room form (length-form_round_key words at) c.loop-at.invariant.formed;
      inverse = put_next (inv_round_key words) c.loop-at.inv_words _ at inv_room inv (length-inv_round_key words at) c.loop-at.invariant.inverse;
      form_long = same_len_mid _ _ _ _ c.copy_from_slice.ensures.len ∙ c.loop-at.invariant.form_long;
      inv_long = same_len_mid _ _ _ _ c.copy_from_slice-in-loop-at.ensures.len ∙ c.loop-at.invariant.inv_long;
    }
