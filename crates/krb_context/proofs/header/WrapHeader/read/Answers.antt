use Rattle.std.proofs.Common.{◌≡◌, ◌∙◌, ◌∷◌, [], ◌++◌, ℕ, List, sym, refl, ap, ap₂, get_or}
use Rattle.std.proofs.lemmas.Nat.{from_be_bytes-to_be_bytes_2}
use Rattle.std.specs.Cmp.Lexicographic.{other_text}
use Rattle.std.specs.Int.{w16, to_be_bytes, from_be_bytes}
use Rattle.krb_context.specs.Wrap.{wrap_header}
use Rattle.krb_context.proofs.HeaderLaws.{number_is}
use Rattle.krb_context.proofs.header.WrapHeader.read.Goals as goal

pub returns-else-eq-clause-none : goal.returns-else-eq-clause-none
returns-else-eq-clause-none c _ flags extra rotation number extra_fits rotation_fits fits is =
    let bytes = c.args.bytes.now in
    let front : List ℕ = 5 ∷ 4 ∷ flags ∷ 255 ∷ (to_be_bytes w16 extra ++ to_be_bytes w16 rotation) in
    let flags_same : get_or bytes 2 0 ≡ flags = ap (λ (b : List ℕ). get_or b 2 0) is in
    let extra_same : c.from_be_bytes.result ≡ extra =
    c.from_be_bytes.ensures ∙ ap (λ (b : List ℕ). from_be_bytes w16 (get_or b 4 0 ∷ get_or b 5 0 ∷ [])) is ∙ from_be_bytes-to_be_bytes_2 extra extra_fits in
    let rotation_same : c.from_be_bytes-2.result ≡ rotation =
    c.from_be_bytes-2.ensures ∙ ap (λ (b : List ℕ). from_be_bytes w16 (get_or b 6 0 ∷ get_or b 7 0 ∷ [])) is ∙ from_be_bytes-to_be_bytes_2 rotation rotation_fits in
    let number_same : c.number_of.result ≡ number = c.number_of.ensures ∙ number_is bytes front number fits refl is in
    let same : wrap_header (get_or bytes 2 0) c.from_be_bytes.result c.from_be_bytes-2.result c.number_of.result ≡ wrap_header flags extra rotation number =
    ap₂ (λ (f e : ℕ). wrap_header f e c.from_be_bytes-2.result c.number_of.result) flags_same extra_same
    ∙ ap₂ (λ (r n : ℕ). wrap_header flags extra r n) rotation_same number_same in
    other_text c.as_slice.result.now bytes (sym c.if-eq.false ∙ c.eq.ensures) (c.as_slice.ensures ∙ c.bytes.ensures ∙ same ∙ sym is)
