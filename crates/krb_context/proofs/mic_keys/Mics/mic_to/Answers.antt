use Rattle.std.proofs.Common.{◌≡◌, ◌++◌, ◌∙◌, ℕ, List, [], false, ap, ap₂, subst}
use Rattle.krb_enc.specs.declared.fault.ShortSlice.{ShortSlice}
use Rattle.krb_enc.specs.Key.{profile_of}
use Rattle.krb_enc.specs.Sealed.{checksum_of}
use Rattle.krb_enc.specs.Written.{IsWritten}
use Rattle.krb_context.specs.Side.{Sender, flags_of, sign_usage}
use Rattle.krb_context.specs.Mic.{mic_header}
use Rattle.krb_context.proofs.Parts.{checksum_under}
use Rattle.krb_context.proofs.mic_keys.Mics.mic_to.Goals as goal

pub returns : goal.returns
returns c =
    let self = c.args.self.now in
    let text = c.args.text.now in
    let header : List ℕ = mic_header (flags_of self false) c.args.number in
    let header_is : c.bytes-header.result ≡ header = c.bytes-header.ensures ∙ ap (λ (f : ℕ). mic_header f c.args.number) c.flags.ensures in
    let tag_is : c.checksum.result ≡ checksum_of (profile_of self.key) self.key.bytes (sign_usage self.side) (text ++ header) =
    checksum_under c.self.inside.key _ (sign_usage c.self.inside.side) text c.bytes-header.result header c.checksum.result c.checksum.ensures c.self.invariant header_is
    ∙ ap (λ (s : Sender). checksum_of (profile_of s.key) s.key.bytes (sign_usage s.side) (text ++ header)) c.self.view_is in
    subst (λ (b : List ℕ). IsWritten ShortSlice (λ needed. record { needed = needed }) b c.args.token.now c.put.new.token c.put.result)
    (ap₂ (λ (h g : List ℕ). h ++ ([] ++ g)) header_is tag_is) c.put.ensures
