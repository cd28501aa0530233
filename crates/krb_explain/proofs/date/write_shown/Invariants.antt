use Rattle.std.proofs.Common.{◌≡◌, ◌++◌, string_bytes, take}
use Rattle.krb_explain.specs.Date.{shown}
use Rattle.krb_explain.proofs.date.write_shown.Given as goal

abbrev pub invariant-loop-byte : goal.invariant-loop-byte
invariant-loop-byte l = string_bytes l.text ≡ string_bytes l.fn.text ++ shown (take l.byte-index l.bytes)
