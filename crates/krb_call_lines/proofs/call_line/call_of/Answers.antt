use Rattle.std.proofs.Common.{rules, subst, sym}
use Rattle.krb_call_lines.specs.CallLine.{SpellsRest}
use Rattle.krb_call_lines.proofs.CallLaws.{one_message}
use Rattle.krb_call_lines.proofs.call_line.call_of.Goals as goal

pub returns-in_default-clause-bad : goal.returns-in_default-clause-bad
returns-in_default-clause-bad c = λ _ bytes moment confounder spells. c.moment_of.ensures.none (search rules) moment spells.rest_text (record {
  seconds_text = spells.seconds_text;
  micros_text = spells.micros_text;
  seconds = spells.seconds;
  micros = spells.micros;
  line_is = spells.line_is;
  spells_seconds = spells.spells_seconds;
  spells_micros = spells.spells_micros;
  years = spells.years;
  within_second = spells.within_second;
  moment_is = spells.moment_is;
})

pub returns-in-None-clause-bad : goal.returns-in-None-clause-bad
returns-in-None-clause-bad c = λ _ bytes moment confounder spells.
    let same = one_message c.args.line.now c.in-Some.told.now moment c.in-Some.told.rest.now spells.rest_text c.in-Some.ensures.found (record {
      seconds_text = spells.seconds_text;
      micros_text = spells.micros_text;
      seconds = spells.seconds;
      micros = spells.micros;
      line_is = spells.line_is;
      spells_seconds = spells.spells_seconds;
      spells_micros = spells.spells_micros;
      years = spells.years;
      within_second = spells.within_second;
      moment_is = spells.moment_is;
    }) in
    c.rest_of.ensures.none (search rules) bytes confounder (subst (λ t. SpellsRest t bytes confounder) (sym same) spells.rest)
