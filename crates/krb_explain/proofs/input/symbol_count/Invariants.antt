use Rattle.std.proofs.Common.{◌≡◌, ◌≤◌, ◌+◌, drop, length}
use Rattle.std.specs.List.{filter}
use Rattle.krb_explain.specs.Input.{is_symbol}
use Rattle.krb_explain.proofs.input.symbol_count.Given as goal

abbrev pub invariant-loop-byte : goal.invariant-loop-byte
invariant-loop-byte l = record {
  within : l.count ≤ l.byte-index;
  left : length (filter is_symbol l.text) ≡ l.count + length (filter is_symbol (drop l.byte-index l.text));
}
