use Rattle.std.proofs.Common.{◌≡◌, ◌<◌, ◌++◌, ◌∙◌, ℕ, List, length, take, drop, true, refl, ap, arith}
use Rattle.std.proofs.lemmas.List.{length-append, length-take-le}
use Rattle.krb_enc.specs.declared.fault.ShortSlice.{ShortSlice}
use Rattle.krb_enc.specs.Key.{profile_of}
use Rattle.krb_enc.specs.Sealed.{sealed}
use Rattle.krb_enc.proofs.KeyLaws.{known_profile, length-sealed}
use Rattle.krb_context.specs.Side.{Sender, flags_of, seal_usage}
use Rattle.krb_context.specs.Wrap.{wrap_header, rotated}
use Rattle.krb_context.proofs.Sends.{at_start, rotated_written}
use Rattle.krb_context.proofs.direction.Direction.wrap_to.Goals as goal

some_body : (sender : Sender) (confounder : List ℕ) (number : ℕ) (text : List ℕ) → length confounder ≡ 16
    → 0 < length (sealed (profile_of sender.key) sender.key.bytes (seal_usage sender.side) confounder (text ++ wrap_header (flags_of sender true) 0 0 number))
some_body sender confounder number text is =
    omega (arith, length-sealed (profile_of sender.key) sender.key.bytes (seal_usage sender.side) confounder (text ++ wrap_header (flags_of sender true) 0 0 number) (known_profile sender.key) is)

pub rotate-requires : goal.rotate-requires
rotate-requires c =
    let self = c.args.self.now in
    let confounder = c.args.confounder.now in
    let body : List ℕ = sealed (profile_of self.key) self.key.bytes (seal_usage self.side) confounder (c.args.text.now ++ wrap_header (flags_of self true) 0 0 c.args.number) in
    let header : List ℕ = wrap_header (flags_of self true) 0 0 c.args.number in
    let it = at_start ShortSlice (λ needed. record { needed = needed }) (header ++ body) c.args.token.now c.seal_to.new.token c.seal_to.result c.in_ok-size.size c.seal_to.ensures c.in_ok-size.was in
    let size : 16 < c.in_ok-size.size = omega (arith, it.size_is, length-append header body, some_body self confounder c.args.number c.args.text.now c.told-confounder) in
    omega (arith, length-take-le c.in_ok-size.size c.seal_to.new.token (omega (arith, it.size_is, it.fits, c.seal_to.auto.token)), size)

pub returns-in_ok-size : goal.returns-in_ok-size
returns-in_ok-size c =
    let self = c.args.self.now in
    let confounder = c.args.confounder.now in
    let body : List ℕ = sealed (profile_of self.key) self.key.bytes (seal_usage self.side) confounder (c.args.text.now ++ wrap_header (flags_of self true) 0 0 c.args.number) in
    let header : List ℕ = wrap_header (flags_of self true) 0 0 c.args.number in
    let it = at_start ShortSlice (λ needed. record { needed = needed }) (header ++ body) c.args.token.now c.seal_to.new.token c.seal_to.result c.in_ok-size.size c.seal_to.ensures c.in_ok-size.was in
    rw c.if-is_sealed.true
    (rotated_written header (wrap_header (flags_of self true) 0 c.args.rotation c.args.number) body c.args.token.now c.seal_to.new.token _ c.args.rotation c.in_ok-size.size refl refl
    (some_body self confounder c.args.number c.args.text.now c.told-confounder) it
    (ap (λ (t : List ℕ). t ++ drop c.in_ok-size.size c.seal_to.new.token)
    (c.rotate.ensures ∙ ap (λ (h : List ℕ). h ++ rotated c.args.rotation (drop 16 (take c.in_ok-size.size c.seal_to.new.token))) c.wrap_header-header.ensures)))
