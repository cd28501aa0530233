-- A table of the code as a list.
use Rattle.std.specs.Prelude.{ℕ, List}
use Rattle.krb_readable.specs.declared.flags.Flag.{Flag}

-- a bit and its letter
abbrev pub letter_of : Flag → ℕ × List ℕ
letter_of flag = (flag.0, flag.1.now)
