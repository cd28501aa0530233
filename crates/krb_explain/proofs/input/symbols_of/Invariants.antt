use Rattle.std.proofs.Common.{◌≡◌, ◌++◌, drop}
use Rattle.std.specs.List.{filter}
use Rattle.krb_explain.specs.Input.{is_symbol}
use Rattle.krb_explain.proofs.input.symbols_of.Given as goal

abbrev pub invariant-loop-byte : goal.invariant-loop-byte
invariant-loop-byte l = l.symbols.items ++ filter is_symbol (drop l.byte-index l.text) ≡ filter is_symbol l.text
