use Rattle.std.proofs.Common.{◌≡◌, ◌++◌, ◌∙◌, ℕ, List, false, ap, ap₂, subst}
use Rattle.krb_enc.specs.declared.fault.ShortSlice.{ShortSlice}
use Rattle.krb_enc.specs.Key.{UsageKeyValue, profile_of}
use Rattle.krb_enc.specs.Written.{IsWritten}
use Rattle.krb_context.specs.Side.{flags_of, seal_usage}
use Rattle.krb_context.specs.Wrap.{wrap_header, wrap_checksum}
use Rattle.krb_context.specs.Inner.Prepared.{seal_key}
use Rattle.krb_context.proofs.Parts.{checksum_under}
use Rattle.krb_context.proofs.direction.Direction.wrap_in_plain_to.Goals as goal

pub returns : goal.returns
returns c =
    let self = c.args.self.now in
    let text = c.args.text.now in
    let flags : ℕ = flags_of self false in
    let header_is : c.wrap_header-header.result ≡ wrap_header flags (profile_of self.key).tag_len 0 c.args.number =
    c.wrap_header-header.ensures ∙ ap (λ (e : ℕ). wrap_header flags e 0 c.args.number) (c.tag_len.ensures.value ∙ ap (λ (u : UsageKeyValue). (profile_of u.key).tag_len) (c.self.invariant.sealing_is ∙ ap seal_key c.self.view_is)) in
    let tag_is : c.checksum-checksum.result ≡ wrap_checksum self flags c.args.number text =
    checksum_under c.self.inside.checksums self.key (seal_usage self.side) text c.wrap_header.result (wrap_header flags 0 0 c.args.number) _ c.checksum-checksum.ensures
    (c.self.invariant.checksums_are ∙ ap seal_key c.self.view_is) c.wrap_header.ensures in
    subst (λ (b : List ℕ). IsWritten ShortSlice (λ needed. record { needed = needed }) b c.args.token.now c.put.new.token c.put.result)
    (ap₂ (λ (h g : List ℕ). h ++ (text ++ g)) header_is tag_is) c.put.ensures
