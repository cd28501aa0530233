use Rattle.std.proofs.Common.{◌≤◌, ◌-◌, length}
use Rattle.krb_name.specs.Inner.Named.{OthersBetween}
use Rattle.krb_name.proofs.named_list.NamedList.find.Given as goal

abbrev pub invariant-loop-at : goal.invariant-loop-at
invariant-loop-at g l = record {
  forward : l.from ≤ l.next;
  others : OthersBetween g.T.Named.name_of l.self-inside.items.items l.name l.from l.next;
}

abbrev pub decreases-loop-at : goal.decreases-loop-at
decreases-loop-at g l = length l.self-inside.items.items - l.next
