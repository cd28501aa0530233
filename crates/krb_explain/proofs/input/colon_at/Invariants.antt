use Rattle.std.proofs.Common.{◌≡◌, ◌+◌, drop}
use Rattle.std.specs.List.{prefix_len}
use Rattle.krb_explain.specs.Input.{is_no_colon}
use Rattle.krb_explain.proofs.input.colon_at.Given as goal

abbrev pub invariant-loop-byte : goal.invariant-loop-byte
invariant-loop-byte l = record {
  count : l.len ≡ l.byte-index;
  left : prefix_len is_no_colon l.text ≡ l.len + prefix_len is_no_colon (drop l.byte-index l.text);
}
