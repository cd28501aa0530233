use Rattle.std.proofs.Common.{◌≡◌, ◌+◌, ◌++◌, ◌∙◌, ℕ, length, drop, ap, arith}
use Rattle.std.proofs.lemmas.List.{drop-drop, length-append}
use Rattle.krb_enc.specs.declared.fault.ShortSlice.{ShortSlice}
use Rattle.krb_enc.proofs.Written.{written}
use Rattle.krb_context.proofs.Parts.{three_parts}
use Rattle.krb_context.proofs.direction.put.Goals as goal

pub returns : goal.returns
returns c =
    let old = c.args.token.now in
    let header = c.args.header.now in
    let text = c.args.text.now in
    let checksum = c.args.checksum.now in
    let size : ℕ = length c.as_slice-checksum.result.now in
    let rest : c.split_at_mut-end.result.1.now ≡ drop (16 + length text + size) old =
    c.split_at_mut-end.ensures.back ∙ ap (drop size) (c.split_at_mut-middle.ensures.back ∙ ap (drop (length text)) c.split_at_mut-front.ensures.back ∙ drop-drop (length text) 16 old)
    ∙ drop-drop size (16 + length text) old in
    let last : c.copy_from_slice-3.new.self ≡ checksum = c.copy_from_slice-3.ensures.after ∙ c.as_slice-checksum.ensures.value in
    written ShortSlice (λ needed. record { needed = needed }) (header ++ (text ++ checksum)) old _ (16 + length text + size)
    (omega (arith, length-append header (text ++ checksum), length-append text checksum, ap length c.as_slice-checksum.ensures.value, c.told-header))
    (omega arith)
    (three_parts header text checksum _ _ _ _ _ c.copy_from_slice.ensures.after c.copy_from_slice-2.ensures.after last rest)
