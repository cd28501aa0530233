use Rattle.std.proofs.Common.{take}
use Rattle.krb_explain_keys.specs.Inner.Added.{AddsEntries}
use Rattle.krb_explain_keys.proofs.choice.add_entries.Given as goal

abbrev pub invariant-loop-entry : goal.invariant-loop-entry
invariant-loop-entry l = AddsEntries l.service (take l.entry-index l.entries) l.fn.lines.items l.lines.items
