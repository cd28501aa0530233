use Rattle.std.proofs.Common.{◌≡◌, ◌<◌, ◌+◌, ◌++◌, ◌∙◌, List, ℕ, length, take, drop, refl, sym, subst, ap, ap₂, arith}
use Rattle.std.proofs.lemmas.List.{take_at, length-take-le}
use Rattle.std.proofs.lemmas.List.Elements.{All-from_get_or}
use Rattle.krb_aes.specs.Cipher.{IsBlock}
use Rattle.krb_cts.specs.Stealing.{cts}
use Rattle.krb_enc.specs.declared.fault.ShortSlice.{ShortSlice}
use Rattle.krb_enc.specs.Key.{profile_of}
use Rattle.krb_enc.specs.Sealed.{cipher_text, tag_of, sealed}
use Rattle.krb_enc.specs.Opens.{OpensOnlyTo}
use Rattle.krb_enc.proofs.KeyLaws.{known_profile, length-sealed}
use Rattle.krb_enc.proofs.Tags.{length-tag_of}
use Rattle.krb_enc.proofs.DerivedKeys.{AreBytes}
use Rattle.krb_enc.proofs.OnePlain.{sealed_opens}
use Rattle.krb_enc.proofs.Written.{written, not_written, two_parts}
use Rattle.krb_enc.proofs.usage_key.UsageKey.seal_to.Goals as goal

pub copy_from_slice-requires : goal.copy_from_slice-requires
copy_from_slice-requires c =
    let tag : length c.as_slice.result.now ≡ (profile_of c.args.self.now.key).tag_len =
    ap length (c.as_slice.ensures.value ∙ c.tag.ensures) ∙ length-tag_of _ _ _ _ (known_profile c.args.self.now.key) in
    let rest = c.split_at_mut-body.result.1.now in
    length-take-le c.tag_len-tag_len.result rest (omega (arith, c.split_at_mut-body.ensures.back_len)) ∙ omega (arith, tag, c.tag_len-tag_len.ensures.value)

pub returns-then-text-needed-clause-sealed : goal.returns-then-text-needed-clause-sealed
returns-then-text-needed-clause-sealed c =
    let key = c.args.self.now.key in
    let text : List ℕ = sealed (profile_of key) key.bytes c.args.self.now.usage c.args.confounder.now c.args.plain.now in
    let size : length text ≡ 16 + length c.args.plain.now + (profile_of key).tag_len =
    length-sealed (profile_of key) key.bytes c.args.self.now.usage c.args.confounder.now c.args.plain.now (known_profile key) c.told-confounder in
    not_written ShortSlice (λ needed. record { needed = needed }) text c.args.text.now _ (omega arith) c.if-text-needed.true

pub returns-clause-sealed : goal.returns-clause-sealed
returns-clause-sealed c =
    let key = c.args.self.now.key in
    let p = profile_of key in
    let usage : ℕ = c.args.self.now.usage in
    let old = c.args.text.now in
    let one = c.encrypt_to.new.text in
    let other = c.copy_from_slice.new.self in
    let text : List ℕ = sealed p key.bytes usage c.args.confounder.now c.args.plain.now in
    let body : one ≡ cipher_text p key.bytes usage c.args.confounder.now c.args.plain.now =
    c.encrypt_to.ensures ∙ ap (λ (k : List ℕ). cts k (c.args.confounder.now ++ c.args.plain.now)) c.schedule.ensures in
    let tag : other ≡ tag_of p key.bytes usage (cipher_text p key.bytes usage c.args.confounder.now c.args.plain.now) =
    c.copy_from_slice.ensures.after ∙ c.as_slice.ensures.value ∙ c.tag.ensures ∙ ap (tag_of p key.bytes usage) body in
    let size : length text ≡ 16 + length c.args.plain.now + p.tag_len =
    length-sealed p key.bytes usage c.args.confounder.now c.args.plain.now (known_profile key) c.told-confounder in
    let needed : ℕ = 16 + length c.args.plain.now + c.tag_len-tag_len.result in
    written ShortSlice (λ short. record { needed = short }) text old (one ++ (other ++ drop c.tag_len-tag_len.result c.split_at_mut-body.result.1.now)) needed
    (omega (arith, size, c.tag_len-tag_len.ensures.value)) (omega arith)
    (ap (λ (t : List ℕ). one ++ (other ++ drop c.tag_len-tag_len.result t)) c.split_at_mut-body.ensures.back
    ∙ two_parts one other old (16 + length c.args.plain.now) c.tag_len-tag_len.result
    ∙ ap₂ (λ (a b : List ℕ). (a ++ b) ++ drop needed old) body tag)

pub returns-clause-opens : goal.returns-clause-opens
returns-clause-opens c =
    let key = c.args.self.now.key in
    let p = profile_of key in
    let usage : ℕ = c.args.self.now.usage in
    let confounder = c.args.confounder.now in
    let plain = c.args.plain.now in
    let text : List ℕ = sealed p key.bytes usage confounder plain in
    let size : length text ≡ 16 + length plain + p.tag_len = length-sealed p key.bytes usage confounder plain (known_profile key) c.told-confounder in
    let is = (returns-clause-sealed c).fits (omega (arith, size, c.tag_len-tag_len.ensures.value)) in
    let at : 16 + length plain + c.tag_len-tag_len.result ≡ length text = omega (arith, size, c.tag_len-tag_len.ensures.value) in
    let block : IsBlock confounder = record { size = c.told-confounder; bytes = All-from_get_or (λ byte. byte < 256) confounder 0 (λ i within. omega (arith, c.fits-confounder i)) } in
    let bytes : AreBytes plain = All-from_get_or (λ byte. byte < 256) plain 0 (λ i within. omega (arith, c.type_inv.plain i)) in
    subst (λ (t : List ℕ). OpensOnlyTo p key.bytes usage t plain)
    (sym (ap₂ (λ (n : ℕ) (t : List ℕ). take n t) at is.1 ∙ take_at text (drop (length text) c.args.text.now) (length text) refl))
    (sealed_opens p key.bytes usage confounder plain (known_profile key) block bytes)
