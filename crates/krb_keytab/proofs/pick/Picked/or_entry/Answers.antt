use Rattle.std.proofs.Common.{arith, w32}
use Rattle.std.proofs.lemmas.Int.{to_z-of_z}
use Rattle.krb_keytab.specs.Inner.Pick.{Counts}
use Rattle.krb_keytab.specs.Pick.{IsCandidate, choice_of}
use Rattle.krb_keytab.proofs.PickLaws.{name_without_key, key_without_version, same_choice, replaced, key_of, below_at, not_entry}
use Rattle.krb_keytab.proofs.KeyLaws.{denied}
use Rattle.krb_keytab.proofs.pick.Picked.or_entry.Goals as goal
use Rattle.krb_keytab.proofs.pick.Picked.or_entry.Goals.{in_default-via-in-Entry+else-kvno, in_default-via-in_default}

pub returns-then-not-is_key : goal.returns-then-not-is_key
returns-then-not-is_key c = λ entries name named h.
    let tested = rw (to_z-of_z w32 c.args.etype c.ranges.etype) at c.is_key.ensures in
    same_choice _ _ _ _ _ _ _ c.or_no_key.ensures (name_without_key (Counts c.args.counted) entries name c.args.etype c.args.kvno c.args.entry.now (choice_of c.args.self) named (λ key. denied c.is_key.result tested c.if-not-is_key.true (key.same_etype, key.usable)) h)

pub returns-then-not-has_version : goal.returns-then-not-has_version
returns-then-not-has_version c = λ entries name named h.
    let tested = rw (to_z-of_z w32 c.args.etype c.ranges.etype) at c.is_key.ensures in
    let key = key_of _ _ _ _ named (tested.0 c.if-not-is_key.false) in
    same_choice _ _ _ _ _ _ _ c.or_no_version.ensures (key_without_version (Counts c.args.counted) entries name c.args.etype c.args.kvno c.args.entry.now (choice_of c.args.self) key (λ candidate. denied c.has_version.result c.has_version.ensures c.if-not-has_version.true candidate.version) h)

pub returns-in_default : goal.returns-in_default
returns-in_default c = λ entries name named h.
    let tested = rw (to_z-of_z w32 c.args.etype c.ranges.etype) at c.is_key.ensures in
    let candidate : IsCandidate (Counts c.args.counted) name c.args.etype c.args.kvno c.args.entry.now = record { key_of = key_of _ _ _ _ named (tested.0 c.if-not-is_key.false); version = c.has_version.ensures.0 c.if-not-has_version.false } in
    elim c.in_default.branch [
      | in_default-via-in-Entry+else-kvno w ↦ replaced (Counts c.args.counted) entries name c.args.etype c.args.kvno c.args.entry.now (choice_of c.args.self) candidate (below_at c.args.self _ c.args.entry.now w.in-Entry.is (omega arith)) h
      | in_default-via-in_default w ↦ replaced (Counts c.args.counted) entries name c.args.etype c.args.kvno c.args.entry.now (choice_of c.args.self) candidate (not_entry c.args.self c.args.entry.now w.in_default.not-Entry) h
    ]
