use Rattle.std.proofs.Common.{sym, ap, subst, ◌∙◌, w64, of_z}
use Rattle.std.specs.Int.{to_be_bytes}
use Rattle.std.proofs.lemmas.Int.{to_z-of_z}
use Rattle.std.proofs.lemmas.Result.{on_ok_weaker}
use Rattle.krb_der.specs.Whole.{IsInteger}
use Rattle.krb_der.specs.Spells.{IsElement}
use Rattle.krb_der.specs.Inner.Shortest.{shortest_of}
use Rattle.krb_der.proofs.ShortestLaws.{integer_be}
use Rattle.krb_der.proofs.EncodeLaws.{element-map, appends-map}
use Rattle.krb_der.proofs.writer.Writer.any_whole.Goals as goal

pub returns-clause-ok : goal.returns-clause-ok
returns-clause-ok c =
    on_ok_weaker c.element.result
    (appends-map _ (IsElement 0x02 (IsInteger c.args.value)) (element-map 0x02 _ (IsInteger c.args.value)
    (λ content e. subst (IsInteger c.args.value) (sym (e ∙ c.shortest.ensures.value ∙ ap shortest_of c.to_be_bytes-bytes.ensures ∙ ap (λ z. shortest_of (to_be_bytes w64 (of_z w64 z))) (to_z-of_z w64 c.args.value c.ranges.value))) (integer_be c.args.value c.ranges.value)))
    c.args.self.now c.element.new.self)
    c.element.ensures.ok
