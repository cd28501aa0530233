use Rattle.std.proofs.Common.{◌≡◌, ◌∙◌, ◌∷◌, [], ℕ, List, sym, refl, ap, ap₂, get_or}
use Rattle.std.specs.Cmp.Lexicographic.{other_text}
use Rattle.krb_context.specs.Mic.{mic_header}
use Rattle.krb_context.proofs.HeaderLaws.{number_is}
use Rattle.krb_context.proofs.header.MicHeader.read.Goals as goal

pub returns-else-eq-clause-none : goal.returns-else-eq-clause-none
returns-else-eq-clause-none c _ flags number fits is =
    let number_same : c.number_of.result ≡ number = c.number_of.ensures ∙ number_is c.args.bytes.now (4 ∷ 4 ∷ flags ∷ 255 ∷ 255 ∷ 255 ∷ 255 ∷ 255 ∷ []) number fits refl is in
    let flags_same : get_or c.args.bytes.now 2 0 ≡ flags = ap (λ (b : List ℕ). get_or b 2 0) is in
    other_text c.as_slice.result.now c.args.bytes.now (sym c.if-eq.false ∙ c.eq.ensures)
    (c.as_slice.ensures ∙ c.bytes.ensures ∙ ap₂ (λ (f n : ℕ). mic_header f n) flags_same number_same ∙ sym is)
