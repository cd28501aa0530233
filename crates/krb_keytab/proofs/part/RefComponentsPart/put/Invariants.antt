use Rattle.std.proofs.Common.{◌≡◌, ◌++◌, List, ℕ}
use Rattle.std.specs.Int.{w16}
use Rattle.std.specs.List.{flat_map}
use Rattle.krb_file.specs.Cursor.{data_bytes}
use Rattle.krb_keytab.specs.Inner.Putting.{PutsTo}
use Rattle.krb_keytab.proofs.part.RefComponentsPart.put.Given as goal

-- some are put, and the others are left
abbrev pub invariant-loop-bytes : goal.invariant-loop-bytes
invariant-loop-bytes l =
    (front : List (List ℕ)) × (front ++ l.bytes-iterator ≡ l.self.now) × PutsTo l.initial.out l.at (flat_map (data_bytes w16) front) l.out l.end
