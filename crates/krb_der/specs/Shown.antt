-- What is shown of a printed value that may hold keys: how many bytes there are, and none of them.
use Rattle.std.specs.Prelude.{ℕ, List, ◌++◌, length, codes}
use Rattle.std.specs.Fmt.{decimal}
use Rattle.krb_der.specs.Place.{Place}

abbrev pub shown_octets : List ℕ → List ℕ
shown_octets bytes = codes "Octets(" ++ (decimal (length bytes) ++ codes " bytes)")

abbrev pub shown_writer : List ℕ → List ℕ
shown_writer written = codes "Writer(" ++ (decimal (length written) ++ codes " bytes)")

abbrev pub shown_cursor : Place → List ℕ
shown_cursor place = codes "Cursor(" ++ (decimal (length place.rest) ++ (codes " bytes at " ++ (decimal place.at ++ codes ")")))
