use Rattle.std.proofs.Common.{inl, inr, subst, sym, ◌∙◌}
use Rattle.krb_call_lines.specs.CallLine.{SpellsCall}
use Rattle.krb_call_lines.proofs.CallLaws.{unlike}
use Rattle.krb_call_lines.proofs.part_line.PartLine.call.Goals as goal

pub returns-clause-bad : goal.returns-clause-bad
returns-clause-bad c = λ none line holds bytes moment confounder spells. elim holds [
  | inl all ↦ c.call_of.ensures.bad none bytes moment confounder (subst (λ t. SpellsCall t bytes moment confounder) (sym all.bytes_are ∙ sym c.deref.ensures.value) spells)
  | inr nothing ↦ unlike c.args.self.now.too_long c.if-self.false nothing.long
]
