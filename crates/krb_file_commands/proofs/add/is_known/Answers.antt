use Rattle.std.proofs.Common.{inl, inr, take}
use Rattle.krb_keytab.proofs.KeyLaws.{denied}
use Rattle.krb_file_commands.proofs.AddLaws.{key_after, key_in_one}
use Rattle.krb_file_commands.proofs.add.is_known.Goals as goal

pub returns-else-has : goal.returns-else-has
returns-else-has c =
    let held = c.args.held.now in
    let earlier = take c.args.at c.args.others.now in
    let lacks = denied c.has.result c.has.ensures c.if-has.false in (
      λ yes. key_after held earlier c.args.entry.now (c.has_before.ensures.0 yes),
      λ has. elim (key_in_one held earlier c.args.entry.now has) [
        | inl one ↦ absurd (lacks one)
        | inr other ↦ c.has_before.ensures.1 other
      ],
    )
