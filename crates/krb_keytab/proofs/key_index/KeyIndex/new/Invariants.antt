use Rattle.std.proofs.Common.{◌≡◌, map, take}
use Rattle.krb_keytab.specs.Inner.KeyHash.{key_hash}
use Rattle.krb_keytab.proofs.key_index.KeyIndex.new.Given as goal

abbrev pub invariant-loop-entry : goal.invariant-loop-entry
invariant-loop-entry l = l.hashes.items ≡ map key_hash (take l.entry-index l.entries)
