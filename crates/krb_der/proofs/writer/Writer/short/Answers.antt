use Rattle.std.proofs.Common.{◌≡◌, [], ◌∷◌, ◌++◌, length, ap, ◌∙◌, arith, append_assoc, IsOk}
use Rattle.krb_der.proofs.HeadLaws.{short-head, appends_element, on_ok}
use Rattle.krb_der.proofs.writer.Writer.short.Goals as goal

pub returns-clause-ok : goal.returns-clause-ok
returns-clause-ok c =
    let content = c.args.content.now in
    let n = length content in
    let old = c.args.self.now in
    let head = c.args.tag ∷ n ∷ [] in
    let first = c.push_reserved.ensures.items ∙ ap (λ l. l ++ (c.args.tag ∷ [])) (c.in_ok-reserve.ensures.items ∙ c.self.view_is) in
    let ok : IsOk c.extend_from_slice.result = c.extend_from_slice.ensures.succeeds
    (omega (arith, c.in_ok-reserve.ensures.ok, c.push_reserved.ensures.len, c.push_reserved.ensures.capacity, c.push_reserved-2.ensures.len, c.push_reserved-2.ensures.capacity)) in
    let put : c.push_reserved-2.new.self.items ≡ old ++ head = c.push_reserved-2.ensures.items ∙ ap (λ l. l ++ (n ∷ [])) first ∙ append_assoc old (c.args.tag ∷ []) (n ∷ []) in
    on_ok _ c.extend_from_slice.result
    (appends_element c.args.tag content head old c.push_reserved-2.new.self.items c.extend_from_slice.new.self.items
    (short-head c.args.tag n c.requires) put (rw ok at c.extend_from_slice.ensures.items))
