use Rattle.std.proofs.Common.{◌≡◌, ◌++◌, ◌<◌, ◌^◌, length}
use Rattle.std.specs.List.{All, flat_map}
use Rattle.krb_replay.specs.Bytes.{text_bytes}
use Rattle.krb_replay.proofs.stamp_bytes.write_components.Given as goal

-- with what is left, all are written, and all fit if what is left does
abbrev pub invariant-loop-component : goal.invariant-loop-component
invariant-loop-component l = record {
  written : l.out.items ++ flat_map text_bytes l.component-iterator ≡ l.fn.out.items ++ flat_map text_bytes l.components;
  fit : All (λ component. length component < 2 ^ 64) l.component-iterator → All (λ component. length component < 2 ^ 64) l.components;
}
