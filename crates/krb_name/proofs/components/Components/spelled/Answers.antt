use Rattle.std.proofs.Common.{sym, ap, subst, ◌∙◌, length, ◌<◌, ◌^◌, All, List, ℕ}
use Rattle.std.specs.List.{flat_map}
use Rattle.std.specs.Int.{w32}
use Rattle.std.proofs.lemmas.List.Elements.{All-from_recursion}
use Rattle.krb_file.specs.Cursor.{data_bytes}
use Rattle.krb_name.proofs.HeldLaws.{view_is}
use Rattle.krb_name.proofs.components.Components.spelled.Goals as goal

pub returns-clause-spelled : goal.returns-clause-spelled
returns-clause-spelled c =
    c.as_slice.ensures.value ∙ c.self.invariant.bytes_are ∙ ap (flat_map (data_bytes w32)) (sym (sym c.self.view_is ∙ view_is _ _ c.self.invariant))

pub returns-clause-small : goal.returns-clause-small
returns-clause-small c =
    let all = All-from_recursion (λ component. length component < 2 ^ 32) c.self.invariant.components c.self.invariant.small in
    subst (All (λ component. length component < 2 ^ 32)) (sym (sym c.self.view_is ∙ view_is _ _ c.self.invariant)) all
