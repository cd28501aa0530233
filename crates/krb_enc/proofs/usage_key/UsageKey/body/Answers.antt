use Rattle.std.proofs.Common.{Bool, true, false, ◌≡◌, ◌<◌, sym, arith}
use Rattle.std.proofs.lemmas.List.Elements.{All-from_get_or}
use Rattle.krb_enc.specs.Key.{profile_of}
use Rattle.krb_enc.proofs.KeyLaws.{known_profile}
use Rattle.krb_enc.proofs.DerivedKeys.{AreBytes}
use Rattle.krb_enc.proofs.Relation.{backwards}
use Rattle.krb_enc.proofs.Opening.{parts_of, no_tag, body_opens}
use Rattle.krb_enc.proofs.usage_key.UsageKey.body.Goals as goal

is_not : (b : Bool) → b ≡ true → b ≡ false → ⊥
is_not b p q = cc

pub returns-then-text-tag_len-clause-refused : goal.returns-then-text-tag_len-clause-refused
returns-then-text-tag_len-clause-refused c plain o =
    let back = backwards (profile_of c.args.self.now.key) c.args.self.now.key.bytes c.args.self.now.usage c.args.text.now plain (known_profile c.args.self.now.key) o in
    omega (arith, back.long, c.tag_len-tag_len.ensures.value)

pub returns-then-is-clause-opens : goal.returns-then-is-clause-opens
returns-then-is-clause-opens c =
    let text = c.args.text.now in
    let p = (profile_of c.args.self.now.key) in
    let size = c.tag_len-tag_len.ensures.value in
    let parts = parts_of p c.args.self.now.key.bytes c.args.self.now.usage text c.split_at.result.0.now c.split_at.result.1.now c.tag.result c.tag_len-tag_len.result
    size c.split_at.ensures.front c.split_at.ensures.back c.tag.ensures in
    let bytes : AreBytes text = All-from_get_or (λ byte. byte < 256) text 0 (λ i within. omega (arith, c.type_inv.text i)) in
    let same : c.tag.result ≡ c.split_at.result.1.now = sym (c.is.ensures.0 c.if-is.true) in
    body_opens p c.args.self.now.key.bytes c.args.self.now.usage text _ _ _ (known_profile c.args.self.now.key) bytes (omega (arith, size)) parts same

pub returns-else-is-clause-refused : goal.returns-else-is-clause-refused
returns-else-is-clause-refused c =
    let text = c.args.text.now in
    let p = (profile_of c.args.self.now.key) in
    let size = c.tag_len-tag_len.ensures.value in
    let parts = parts_of p c.args.self.now.key.bytes c.args.self.now.usage text c.split_at.result.0.now c.split_at.result.1.now c.tag.result c.tag_len-tag_len.result
    size c.split_at.ensures.front c.split_at.ensures.back c.tag.ensures in
    let differs : c.tag.result ≡ c.split_at.result.1.now → ⊥ = λ same. is_not c.is.result (c.is.ensures.1 (sym same)) c.if-is.false in
    no_tag p c.args.self.now.key.bytes c.args.self.now.usage text _ _ _ (known_profile c.args.self.now.key) parts differs
