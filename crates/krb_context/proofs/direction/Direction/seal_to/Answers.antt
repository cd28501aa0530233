use Rattle.std.proofs.Common.{◌≡◌, ◌+◌, ◌++◌, ◌∙◌, ℕ, List, length, take, drop, true, sym, ap, ap₂, arith}
use Rattle.std.proofs.lemmas.List.{drop-drop, length-append, length-take-le, length-drop}
use Rattle.krb_enc.specs.declared.fault.ShortSlice.{ShortSlice}
use Rattle.krb_enc.specs.Key.{UsageKeyValue, profile_of}
use Rattle.krb_enc.specs.Sealed.{sealed}
use Rattle.krb_enc.specs.Opens.{body_of}
use Rattle.krb_enc.proofs.KeyLaws.{known_profile, length-sealed}
use Rattle.krb_enc.proofs.Written.{written, not_written}
use Rattle.krb_context.specs.Side.{Sender, flags_of, seal_usage}
use Rattle.krb_context.specs.Wrap.{wrap_header, sealed_token}
use Rattle.krb_context.specs.Inner.Prepared.{seal_key}
use Rattle.krb_context.proofs.Parts.{two_parts_before}
use Rattle.krb_context.proofs.Wraps.{laid}
use Rattle.krb_context.proofs.direction.Direction.seal_to.Goals as goal

-- the length of a sealed token
size_of : (sender : Sender) (confounder : List ℕ) (number : ℕ) (text : List ℕ) (tag_len : ℕ) → length confounder ≡ 16 → tag_len ≡ (profile_of sender.key).tag_len
    → length (sealed_token sender confounder number text) ≡ 16 + (16 + length text + 16 + tag_len)
size_of sender confounder number text tag_len told is =
    let header : List ℕ = wrap_header (flags_of sender true) 0 0 number in
    omega (arith, length-sealed (profile_of sender.key) sender.key.bytes (seal_usage sender.side) confounder (text ++ header) (known_profile sender.key) told, length-append text header, is)

pub returns-then-token-needed : goal.returns-then-token-needed
returns-then-token-needed c =
    let sealing = c.self.invariant.sealing_is ∙ ap seal_key c.self.view_is in
    let tag_len = c.tag_len.ensures.value ∙ ap (λ (u : UsageKeyValue). (profile_of u.key).tag_len) sealing in
    not_written ShortSlice (λ needed. record { needed = needed }) (sealed_token c.args.self.now c.args.confounder.now c.args.number c.args.text.now) c.args.token.now _
    (sym (size_of c.args.self.now c.args.confounder.now c.args.number c.args.text.now c.tag_len.result c.told-confounder tag_len)) c.if-token-needed.true

pub returns : goal.returns
returns c =
    let self = c.args.self.now in
    let text = c.args.text.now in
    let old = c.args.token.now in
    let confounder = c.args.confounder.now in
    let header : List ℕ = wrap_header (flags_of self true) 0 0 c.args.number in
    let body = c.split_at_mut-body.result.0.now in
    let body_len : ℕ = 16 + length text + 16 + c.tag_len.result in
    let own = c.self.inside.sealing in
    let sealing = c.self.invariant.sealing_is ∙ ap seal_key c.self.view_is in
    let tag_len = c.tag_len.ensures.value ∙ ap (λ (u : UsageKeyValue). (profile_of u.key).tag_len) sealing in
    let front_len : length (take 16 body) ≡ 16 = length-take-le 16 body (omega (arith, c.split_at_mut-body.ensures.front_len)) in
    let end_len : length (drop (32 + length text) body) ≡ (profile_of own.key).tag_len =
    length-drop (32 + length text) body ∙ omega (arith, c.split_at_mut-body.ensures.front_len, c.tag_len.ensures.value) in
    let plain : drop 16 (body_of (profile_of own.key) c.lay_out.new.body) ≡ text ++ header =
    ap (λ (t : List ℕ). drop 16 (body_of (profile_of own.key) t)) c.lay_out.ensures
    ∙ laid (profile_of own.key) (take 16 body) text c.wrap_header-header.result (drop (32 + length text) body) front_len end_len
    ∙ ap (λ (h : List ℕ). text ++ h) c.wrap_header-header.ensures in
    let sealed_is : c.seal_in_place.new.text ≡ sealed (profile_of self.key) self.key.bytes (seal_usage self.side) confounder (text ++ header) =
    c.in_ok-seal_in_place.ensures.sealed ∙ ap₂ (λ (u : UsageKeyValue) (t : List ℕ). sealed (profile_of u.key) u.key.bytes u.usage confounder t) sealing plain in
    let rest : c.split_at_mut-body.result.1.now ≡ drop (16 + body_len) old =
    c.split_at_mut-body.ensures.back ∙ ap (drop body_len) c.split_at_mut-front.ensures.back ∙ drop-drop body_len 16 old in
    written ShortSlice (λ needed. record { needed = needed }) (sealed_token self confounder c.args.number text) old _ (16 + body_len)
    (sym (size_of self confounder c.args.number text c.tag_len.result c.told-confounder tag_len)) (omega arith)
    (two_parts_before header (sealed (profile_of self.key) self.key.bytes (seal_usage self.side) confounder (text ++ header)) _ _ _ _
    (c.copy_from_slice.ensures.after ∙ c.wrap_header-header.ensures) sealed_is rest)
