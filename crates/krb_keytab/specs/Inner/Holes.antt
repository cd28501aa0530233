-- Which holes of a file no entry has taken.
use Rattle.std.specs.Prelude.{List, nat_lt}
use Rattle.std.specs.List.{filter}
use Rattle.krb_keytab.specs.declared.holes.Hole.{Hole}

-- those that have bytes: one that was taken has none
abbrev pub free : List Hole → List Hole
free holes = filter (λ hole. nat_lt 0 hole.size) holes
