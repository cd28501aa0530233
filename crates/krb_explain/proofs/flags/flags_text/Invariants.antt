use Rattle.std.proofs.Common.{◌≡◌, ◌++◌, string_bytes, drop, map}
use Rattle.krb_explain.specs.Registry.{flags_text, names_of}
use Rattle.krb_explain.specs.Inner.Tables.{bit_of}
use Rattle.krb_explain.proofs.flags.flags_text.Given as goal

abbrev pub invariant-loop-bit : goal.invariant-loop-bit
invariant-loop-bit l = string_bytes l.text ++ names_of (map bit_of (drop l.bit-index l.table)) l.flags.0
    ≡ flags_text (map bit_of l.table) l.flags.0
