use Rattle.std.proofs.Common.{◌≡◌, ◌+◌, drop}
use Rattle.std.specs.List.{prefix_len}
use Rattle.krb_explain.specs.Input.{may_stand}
use Rattle.krb_explain.proofs.input.good_len.Given as goal

abbrev pub invariant-loop-byte : goal.invariant-loop-byte
invariant-loop-byte l = record {
  count : l.len ≡ l.byte-index;
  left : prefix_len may_stand l.text ≡ l.len + prefix_len may_stand (drop l.byte-index l.text);
}
