use Rattle.std.proofs.Common.{rules, arith}
use Rattle.std.proofs.lemmas.Fn.{All-from_retain}
use Rattle.krb_name.specs.Name.{SameName}
use Rattle.krb_name.proofs.KeptLaws.{keeps_named, kept_hashes}
use Rattle.krb_name.proofs.named_list.NamedList.retain_named.Goals as goal
use Rattle.krb_name.proofs.named_list.NamedList.retain_named.Goals.{in-Some, in_default}

pub invariant_of-self : goal.invariant_of-self
invariant_of-self g c =
    let named = All-from_retain _ (λ one. SameName (g.T.Named.name_of one) c.args.name.now) _ (λ x b f' k. search rules) _ _ c.retain.ensures.filtered in
    elim c.match-self.branch [
      | in-Some w ↦ rw w.self-inside-is
          (kept_hashes g.T.Named.name_of c.args.name.now c.self.inside.items.items c.retain.new.self.items w.in-Some.index _ w.len.result w.name_hash.result
          (rw w.in-Some.is at c.self.invariant) (omega (arith, c.retain.ensures.bound, c.retain.new.self.ok, c.self.inside.items.ok)) named (omega (arith, w.len.ensures, c.retain.new.self.ok)) w.name_hash.ensures w.fill.ensures)
      | in_default w ↦ rw (w.self-inside-is, w.in_default.is) tt
    ]

pub returns-clause-kept : goal.returns-clause-kept
returns-clause-kept g c =
    let kept = keeps_named g.T.Named.name_of c.args.name.now _ _ (λ x b f' k. search rules) _ _ c.retain.ensures.filtered in
    elim c.match-self.branch [
      | in-Some w ↦ rw (w.self-inside-is, ← c.self.view_is) kept
      | in_default w ↦ rw (w.self-inside-is, ← c.self.view_is) kept
    ]

pub returns-clause-named : goal.returns-clause-named
returns-clause-named g c =
    let named = All-from_retain _ (λ one. SameName (g.T.Named.name_of one) c.args.name.now) _ (λ x b f' k. search rules) _ _ c.retain.ensures.filtered in
    elim c.match-self.branch [
      | in-Some w ↦ rw w.self-inside-is named
      | in_default w ↦ rw w.self-inside-is named
    ]
