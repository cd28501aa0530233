use Rattle.std.proofs.Common.{◌≡◌, ◌++◌, string_bytes}
use Rattle.std.specs.List.{flat_map}
use Rattle.krb_explain_keys.specs.Data.{type_word}
use Rattle.krb_explain_keys.proofs.data.add_types.Given as goal

-- what is added, with what is left to add
abbrev pub invariant-loop-element : goal.invariant-loop-element
invariant-loop-element l = string_bytes l.text ++ flat_map type_word l.element-iterator ≡ string_bytes l.fn.text ++ flat_map type_word l.elements
