use Rattle.std.proofs.Common.{◌≡◌, List, [], ◌∷◌, ◌++◌, take, ◌+◌, subst, rules}
use Rattle.std.proofs.lemmas.List.{take_more}
use Rattle.krb_name.specs.Name.{SameName}
use Rattle.krb_keytab.specs.Entry.{KeytabEntry}
use Rattle.krb_keytab.specs.Only.{KeepsOnly}
use Rattle.krb_explain_keys.specs.Choice.{there_line}
use Rattle.krb_explain_keys.proofs.AddedLaws.{line_more, one_more, none_more}
use Rattle.krb_explain_keys.proofs.choice.add_entries.Goals.{then-same_name+in_ok-there_line+in_ok-push, else-same_name}
use Rattle.krb_explain_keys.proofs.choice.add_entries.Goals as goal

pub loop-entry-preserved : goal.loop-entry-preserved
loop-entry-preserved c =
    let e = c.entry-item.result in
    let service = c.args.service.now in
    let before = take c.loop-entry.entry-index c.args.entries.now in
    let longer : before ++ e ∷ [] ≡ take (c.loop-entry.entry-index + 1) c.args.entries.now = search (rules, take_more) in
    elim c.if-same_name.branch [
      | then-same_name+in_ok-there_line+in_ok-push w ↦
          let same : SameName e.principal service = search rules in
          record {
            named = c.loop-entry.invariant.named ++ e ∷ [];
            named_are = subst (λ (t : List KeytabEntry). KeepsOnly service t (c.loop-entry.invariant.named ++ e ∷ [])) longer
                (one_more service before e c.loop-entry.invariant.named same c.loop-entry.invariant.named_are);
            new_is = line_more there_line c.loop-entry.invariant.named e c.args.lines.now.items c.loop-entry.lines.items c.if-same_name.lines.items
                w.in_ok-there_line.field-0 c.loop-entry.invariant.new_is (search rules) (search rules);
          }
      | else-same_name w ↦
          let other : ¬ SameName e.principal service = search rules in
          record {
            named = c.loop-entry.invariant.named;
            named_are = subst (λ (t : List KeytabEntry). KeepsOnly service t c.loop-entry.invariant.named) longer
                (none_more service before e c.loop-entry.invariant.named other c.loop-entry.invariant.named_are);
            new_is = search rules;
          }
    ]
