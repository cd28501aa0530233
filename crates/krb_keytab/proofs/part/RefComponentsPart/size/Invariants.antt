use Rattle.std.proofs.Common.{◌≡◌, ◌+◌, length}
use Rattle.std.specs.Int.{w16}
use Rattle.std.specs.List.{flat_map}
use Rattle.krb_file.specs.Cursor.{data_bytes}
use Rattle.krb_keytab.proofs.part.RefComponentsPart.size.Given as goal

-- with what is left, the size of all
abbrev pub invariant-loop-bytes : goal.invariant-loop-bytes
invariant-loop-bytes l = l.sum + length (flat_map (data_bytes w16) l.bytes-iterator) ≡ length (flat_map (data_bytes w16) l.self.now)
