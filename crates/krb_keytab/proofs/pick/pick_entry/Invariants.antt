use Rattle.std.proofs.Common.{◌-◌, length, take}
use Rattle.krb_keytab.specs.Inner.Pick.{Counts}
use Rattle.krb_keytab.specs.Pick.{IsChoiceBy, choice_of}
use Rattle.krb_keytab.proofs.pick.pick_entry.Given as goal

abbrev pub invariant-loop-at : goal.invariant-loop-at
invariant-loop-at l = IsChoiceBy (Counts l.counted) (take l.from l.entries) l.name l.etype l.kvno (choice_of l.picked)

abbrev pub decreases-loop-at : goal.decreases-loop-at
decreases-loop-at l = length l.entries - l.from
