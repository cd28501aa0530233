use Rattle.std.proofs.Common.{rules, subst, sym, ◌<◌, arith}
use Rattle.krb_time.specs.Time.{IsSeconds}
use Rattle.krb_call_lines.specs.CallLine.{SpellsSeconds}
use Rattle.krb_call_lines.proofs.CallLaws.{none_told, first_told, half_told, second_told, one_second, no_micros}
use Rattle.krb_call_lines.proofs.call_line.moment_of.Goals as goal

pub returns-in_err-seconds-clause-none : goal.returns-in_err-seconds-clause-none
returns-in_err-seconds-clause-none c = λ _ moment message tells. none_told c.args.line.now moment message (search rules) tells

pub returns-in_err-micros-clause-none : goal.returns-in_err-micros-clause-none
returns-in_err-micros-clause-none c = λ _ moment message tells.
    half_told c.args.line.now c.in_ok-seconds.seconds.now c.in_ok-seconds.others.now moment message c.in_ok-seconds.ensures.0 c.in_ok-seconds.ensures.1
    (search rules) tells

pub returns-in_err-seconds_of-clause-none : goal.returns-in_err-seconds_of-clause-none
returns-in_err-seconds_of-clause-none c = λ _ moment message tells.
    let same = (first_told c.args.line.now c.in_ok-seconds.seconds.now c.in_ok-seconds.others.now moment message c.in_ok-seconds.ensures.0 c.in_ok-seconds.ensures.1 tells).0 in
    c.seconds_of.ensures.none (search rules) tells.seconds (subst (λ t. SpellsSeconds t tells.seconds) (sym same) tells.spells_seconds) tells.years

pub returns-in_err-micros_of-clause-none : goal.returns-in_err-micros_of-clause-none
returns-in_err-micros_of-clause-none c = λ _ moment message tells.
    let same = (second_told c.args.line.now c.in_ok-seconds.seconds.now c.in_ok-seconds.others.now c.in_ok-micros.micros.now c.in_ok-micros.rest.now moment message
    c.in_ok-seconds.ensures.0 c.in_ok-seconds.ensures.1 c.in_ok-micros.ensures.0 c.in_ok-micros.ensures.1 tells).0 in
    no_micros c.in_ok-micros.micros.now tells.micros_text tells.micros same tells.spells_micros tells.within_second (search rules)

pub returns-in_err-now-clause-none : goal.returns-in_err-now-clause-none
returns-in_err-now-clause-none c = λ _ moment message tells.
    let first = (first_told c.args.line.now c.in_ok-seconds.seconds.now c.in_ok-seconds.others.now moment message c.in_ok-seconds.ensures.0 c.in_ok-seconds.ensures.1 tells).0 in
    let same = one_second c.in_ok-seconds.seconds.now c.in_ok-seconds_of.field-0 tells.seconds (search rules)
    (subst (λ t. SpellsSeconds t tells.seconds) (sym first) tells.spells_seconds) in
    let none : (IsSeconds c.in_ok-seconds_of.field-0 × (c.in_ok-micros_of.field-0 < 1_000_000)) → ⊥ = search rules in
    let limit : c.in_ok-micros_of.field-0 < 1_000_000 = search (arith, rules) in
    none (subst IsSeconds (sym same) tells.years, limit)
