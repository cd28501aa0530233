-- A table of the code as a list.
use Rattle.std.specs.Prelude.{ℕ, List}
use Rattle.krb_explain.specs.declared.flags.Bit.{Bit}

-- a bit and its name
abbrev pub bit_of : Bit → ℕ × List ℕ
bit_of bit = (bit.0, bit.1.now)
