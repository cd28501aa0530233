use Rattle.std.proofs.Common.{◌≡◌, ◌+◌, drop}
use Rattle.std.specs.List.{prefix_len}
use Rattle.std.specs.Char.{is_ascii_whitespace}
use Rattle.krb_explain.proofs.input.space_len.Given as goal

abbrev pub invariant-loop-byte : goal.invariant-loop-byte
invariant-loop-byte l = record {
  count : l.len ≡ l.byte-index;
  left : prefix_len is_ascii_whitespace l.text ≡ l.len + prefix_len is_ascii_whitespace (drop l.byte-index l.text);
}
