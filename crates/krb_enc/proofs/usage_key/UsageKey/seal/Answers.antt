use Rattle.std.proofs.Common.{◌≡◌, ◌<◌, ◌∙◌, ap, sym, subst, ℕ, List, length, arith, rules}
use Rattle.std.proofs.lemmas.List.Elements.{All-from_get_or}
use Rattle.krb_aes.specs.Cipher.{IsBlock}
use Rattle.krb_enc.specs.Sealed.{sealed}
use Rattle.krb_enc.specs.Opens.{OpensOnlyTo}
use Rattle.krb_enc.specs.Key.{profile_of}
use Rattle.krb_enc.proofs.KeyLaws.{known_profile}
use Rattle.krb_enc.proofs.Tags.{length-tag_of}
use Rattle.krb_enc.proofs.DerivedKeys.{AreBytes}
use Rattle.krb_enc.proofs.OnePlain.{sealed_opens}
use Rattle.krb_enc.proofs.usage_key.UsageKey.seal.Goals as goal

pub returns-clause-length : goal.returns-clause-length
returns-clause-length c =
    let tag : length c.as_slice.result.now ≡ (profile_of c.args.self.now.key).tag_len =
    ap length (c.as_slice.ensures.value ∙ c.tag-tag.ensures) ∙ length-tag_of _ _ _ _ (known_profile c.args.self.now.key) in
    omega (arith, tag, c.in_ok-text.ensures.length, c.in_ok-extend_from_slice.ensures.len)

pub returns-clause-opens : goal.returns-clause-opens
returns-clause-opens c =
    let p = (profile_of c.args.self.now.key) in
    let key = c.args.self.now.key.bytes in
    let confounder = c.args.confounder.now in
    let plain = c.args.plain.now in
    let block : IsBlock confounder = record { size = c.told-confounder; bytes = All-from_get_or (λ byte. byte < 256) confounder 0 (λ i within. omega (arith, c.fits-confounder i)) } in
    let bytes : AreBytes plain = All-from_get_or (λ byte. byte < 256) plain 0 (λ i within. omega (arith, c.type_inv.plain i)) in
    let is : c.extend_from_slice.new.self.items ≡ sealed p key c.args.self.now.usage confounder plain = search rules in
    subst (λ (t : List ℕ). OpensOnlyTo p key c.args.self.now.usage t plain) (sym is) (sealed_opens p key c.args.self.now.usage confounder plain (known_profile c.args.self.now.key) block bytes)
