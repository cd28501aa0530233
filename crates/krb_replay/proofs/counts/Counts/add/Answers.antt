use Rattle.std.proofs.Common.{◌≡◌, ◌+◌, ◌∙◌, Some, ap, subst}
use Rattle.std.specs.BTreeMap.{Updates}
use Rattle.krb_replay.specs.Inner.Counts.{count_by}
use Rattle.krb_replay.proofs.CountLaws.{one_more}
use Rattle.krb_replay.proofs.counts.Counts.add.Goals as goal

pub returns-clause-ok : goal.returns-clause-ok
returns-clause-ok g c =
    let count : c.in-Some.count ≡ count_by g.K.Ord.cmp c.args.self.now.counts c.args.key + 1 =
    c.in-Some.ensures.1 ∙ ap (λ n. n + 1) c.of.ensures in
    one_more g.K.Ord.cmp g.met.K.Ord.total c.args.self.now.counts c.insert.new.self c.args.key
    (subst (λ n. Updates g.K.Ord.cmp c.args.self.now.counts c.insert.new.self c.args.key (Some n)) count c.in_ok-insert.ensures.updates)
