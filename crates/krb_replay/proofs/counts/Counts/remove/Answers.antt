use Rattle.std.proofs.Common.{refl, ◌-◌, ℕ, Option, Some, None, subst, arith, IsSome}
use Rattle.krb_replay.proofs.CountLaws.{less_and_same, none_is_no_zero, one_less, one_less_than, same_counts}
use Rattle.krb_replay.proofs.counts.Counts.remove.Goals as goal

pub returns-in-Some : goal.returns-in-Some
returns-in-Some g c =
    one_less g.K.Ord.cmp g.met.K.Ord.total c.args.self.now.counts (c.get_mut.follows.lender (c.of-count.result - 1)) c.args.key.now (Some (c.of-count.result - 1))
    ((c.get_mut.follows.holds (c.of-count.result - 1)).3 (subst (λ (found : Option ℕ). IsSome found) c.in-Some.ensures.value refl)) (let is = c.of-count.ensures in omega arith)
    (one_less_than c.of-count.result (let above = c.if-count-gt1.true in omega arith))

pub returns : goal.returns
returns g c =
    less_and_same g.K.Ord.cmp c.args.self.now.counts c.remove_entry.new.self c.free_if_empty.new.self.counts c.args.key.now
    (one_less g.K.Ord.cmp g.met.K.Ord.total c.args.self.now.counts c.remove_entry.new.self c.args.key.now None c.remove_entry.ensures.updates
    (let is = c.of-count.ensures in let some = c.requires in omega arith) (none_is_no_zero None refl))
    (same_counts g.K.Ord.cmp c.remove_entry.new.self c.free_if_empty.new.self.counts c.free_if_empty.ensures)
