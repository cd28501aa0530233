use Rattle.std.proofs.Common.{◌≡◌, ◌++◌, string_bytes}
use Rattle.krb_name.specs.Inner.Components.{behind_slashes, Continues}
use Rattle.krb_name.proofs.text.write_others.Given as goal

-- with what is left, the text of all
abbrev pub invariant-loop-component : goal.invariant-loop-component
invariant-loop-component l =
    (string_bytes l.text ++ behind_slashes l.component-iterator ≡ string_bytes l.fn.text ++ behind_slashes l.fn.others)
    × Continues (string_bytes l.fn.text) (string_bytes l.text)
