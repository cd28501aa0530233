use Rattle.std.proofs.Common.{arith}
use Rattle.krb_keytab.proofs.KeyLaws.{denied, none_before, one_other, others_before, others_left, within_entries}
use Rattle.krb_keytab.proofs.key_index.KeyIndex.has_before.Goals as goal

pub returns-then-at-place : goal.returns-then-at-place
returns-then-at-place c =
    let entries = c.self.inside.entries.now in
    let entry = c.args.entry.now in
    let first = rw c.key_hash-hash.ensures at c.in-Some.ensures.first in
    let others = others_before entries entry c.self.inside.index c.loop-at.from c.in-Some.at c.self.invariant first c.loop-at.invariant in
    rw (← c.self.view_is) (none_before entries entry c.args.place c.in-Some.at others (λ k below inside. omega (arith, c.if-at-place.true)))

pub loop-at-preserved : goal.loop-at-preserved
loop-at-preserved c =
    let entries = c.self.inside.entries.now in
    let entry = c.args.entry.now in
    let at = c.in-Some.at in
    let first = rw c.key_hash-hash.ensures at c.in-Some.ensures.first in
    let others = others_before entries entry c.self.inside.index c.loop-at.from at c.self.invariant first c.loop-at.invariant in
    let within = within_entries entries c.self.inside.index at c.self.invariant first.within in
    one_other entries entry c.index-self-at.result at within (denied c.is_same_key.result c.is_same_key.ensures c.if-is_same_key.false) others

pub returns : goal.returns
returns c =
    let entries = c.self.inside.entries.now in
    let entry = c.args.entry.now in
    let none = rw c.key_hash-hash.ensures at c.in_default.ensures.first in
    let others = others_left entries entry c.self.inside.index c.loop-at.from c.self.invariant none c.loop-at.invariant in
    rw (← c.self.view_is) (none_before entries entry c.args.place _ others (λ k below inside. inside))
