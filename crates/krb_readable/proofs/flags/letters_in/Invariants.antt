use Rattle.std.proofs.Common.{◌≡◌, ◌++◌, string_bytes, drop, map}
use Rattle.std.specs.List.{flat_map}
use Rattle.krb_readable.specs.Flags.{letter_if_set}
use Rattle.krb_readable.specs.Inner.Tables.{letter_of}
use Rattle.krb_readable.proofs.flags.letters_in.Given as goal

abbrev pub invariant-loop-flag : goal.invariant-loop-flag
invariant-loop-flag l = string_bytes l.text ++ flat_map (letter_if_set l.flags) (map letter_of (drop l.flag-index l.table))
    ≡ flat_map (letter_if_set l.flags) (map letter_of l.table)
