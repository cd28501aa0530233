use Rattle.std.proofs.Common.{◌≡◌, ◌∙◌, ℕ, List, length, sym, ap}
use Rattle.std.proofs.lemmas.Bool.{iff_false}
use Rattle.krb_enc.specs.Key.{profile_of}
use Rattle.krb_enc.proofs.KeyLaws.{known_profile}
use Rattle.krb_enc.proofs.Tags.{length-checksum_of}
use Rattle.krb_context.specs.Wrap.{wrap_checksum}
use Rattle.krb_context.proofs.Wraps.{before_checksum}
use Rattle.krb_context.proofs.direction.Direction.check.Goals as goal

pub returns-else-is_checksum-clause-none : goal.returns-else-is_checksum-clause-none
returns-else-is_checksum-clause-none c _ text is =
    let self = c.args.self.now in
    let header = c.args.header in
    let body = c.args.body.now in
    let size : length (wrap_checksum self header.flags header.number text) ≡ c.from.result =
    length-checksum_of (profile_of self.key) self.key.bytes _ _ (known_profile self.key) ∙ sym (c.from.ensures ∙ c.requires.tag) in
    let parts = before_checksum body text (wrap_checksum self header.flags header.number text) c.from.result size is in
    let front : c.split_at.result.0.now ≡ text = c.split_at.ensures.front ∙ parts.0 in
    iff_false c.is_checksum.ensures c.if-is_checksum.false
    (c.split_at.ensures.back ∙ parts.1 ∙ sym (ap (λ (t : List ℕ). wrap_checksum self header.flags header.number t) front))
