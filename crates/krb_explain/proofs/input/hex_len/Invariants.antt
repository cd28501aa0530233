use Rattle.std.proofs.Common.{◌≡◌, ◌≤◌, ◌+◌, drop}
use Rattle.std.specs.List.{filter, prefix_len}
use Rattle.std.specs.Char.{is_ascii_hexdigit}
use Rattle.krb_explain.specs.Input.{is_symbol}
use Rattle.krb_explain.proofs.input.hex_len.Given as goal

abbrev pub invariant-loop-byte : goal.invariant-loop-byte
invariant-loop-byte l = record {
  within : l.len ≤ l.byte-index;
  left : prefix_len is_ascii_hexdigit (filter is_symbol l.text)
      ≡ l.len + prefix_len is_ascii_hexdigit (filter is_symbol (drop l.byte-index l.text));
}
