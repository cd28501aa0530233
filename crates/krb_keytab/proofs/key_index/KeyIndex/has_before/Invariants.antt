use Rattle.std.proofs.Common.{◌-◌, length}
use Rattle.krb_keytab.proofs.KeyLaws.{OtherKeys}
use Rattle.krb_keytab.proofs.key_index.KeyIndex.has_before.Given as goal

abbrev pub invariant-loop-at : goal.invariant-loop-at
invariant-loop-at l = OtherKeys l.self-inside.entries.now l.entry l.from

abbrev pub decreases-loop-at : goal.decreases-loop-at
decreases-loop-at l = length l.self-inside.entries.now - l.from
