use Rattle.std.proofs.Common.{[], ◌∷◌, ◌++◌, arith}
use Rattle.krb_file.proofs.Exits.{err_is}
use Rattle.krb_name.proofs.NameChecks.{count_fault, count_more, count_within}
use Rattle.krb_name.proofs.NameReading.{ReadsSome-more, at_sign, components_done, components_end}
use Rattle.krb_name.proofs.text_cursor.TextCursor.count_components.Goals as goal

pub returns-in_err-skip_name : goal.returns-in_err-skip_name
returns-in_err-skip_name c =
    rw (err_is c.from_residual.result c.from_residual.ensures.1) (count_fault c.in_err-skip_name.field-0.0 _ _ _ _ c.loop-self.invariant.1 c.in_err-skip_name.ensures)

pub overflow_add-count : goal.overflow_add-count
overflow_add-count c =
    omega (arith, count_within _ _ _ _ _ _ _ c.loop-self.count c.loop-self.invariant.1 c.in_ok-skip_name.ensures.1 c.in-Some-eq47.ensures.some.0 c.loop-self.invariant.2, c.next_separator.ensures.small)

pub loop-self-preserved : goal.loop-self-preserved
loop-self-preserved c =
    let more = ReadsSome-more _ _ _ _ _ _ _ c.loop-self.invariant.1 c.in_ok-skip_name.ensures.1 c.in-Some-eq47.ensures.some.0 c.in-Some-eq47.field-0-test in
    (c.loop-self.invariant.0 ++ c.in_ok-skip_name.ensures.0 ∷ [], more, count_more _ _ _ c.loop-self.invariant.2)

pub overflow_add-result : goal.overflow_add-result
overflow_add-result c =
    omega (arith, count_within _ _ _ _ _ _ _ c.loop-self.count c.loop-self.invariant.1 c.in_ok-skip_name.ensures.1 c.in-Some.ensures.some.0 c.loop-self.invariant.2, c.next_separator.ensures.small)

pub returns-in-Some : goal.returns-in-Some
returns-in-Some c =
    let separator = c.in-Some.ensures.some in
    let byte = at_sign c.in-Some.field-0 separator.1 c.in-Some.field-0-test.1 in
    (c.loop-self.invariant.0 ++ c.in_ok-skip_name.ensures.0 ∷ [], components_done _ _ _ _ _ c.in-Some.field-0 _ c.loop-self.invariant.1 c.in_ok-skip_name.ensures.1 separator.0 byte, count_more _ _ _ c.loop-self.invariant.2)

pub returns-in-None : goal.returns-in-None
returns-in-None c = rw c.in-None.ensures.stays (components_end _ _ _ _ _ c.loop-self.invariant.1 c.in_ok-skip_name.ensures.1 (c.in-None.ensures.none c.in_ok-skip_name.ensures.2))
