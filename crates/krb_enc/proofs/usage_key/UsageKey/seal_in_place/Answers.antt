use Rattle.std.proofs.Common.{◌≡◌, ◌∙◌, length, ap, arith}
use Rattle.krb_enc.specs.Key.{profile_of}
use Rattle.krb_enc.proofs.KeyLaws.{known_profile}
use Rattle.krb_enc.proofs.Tags.{length-tag_of}
use Rattle.krb_enc.proofs.usage_key.UsageKey.seal_in_place.Goals as goal

pub copy_from_slice-requires-2 : goal.copy_from_slice-requires-2
copy_from_slice-requires-2 c =
    let tag : length c.as_slice.result.now ≡ (profile_of c.args.self.now.key).tag_len =
    ap length (c.as_slice.ensures.value ∙ c.tag.ensures) ∙ length-tag_of _ _ _ _ (known_profile c.args.self.now.key) in
    omega (arith, tag, c.tag_len-tag_len.ensures.value, c.split_at_mut-body.ensures.back_len)
