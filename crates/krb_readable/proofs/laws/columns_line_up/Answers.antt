use Rattle.krb_readable.proofs.ColumnLaws.{cells_line_up, last_lines_up}
use Rattle.krb_readable.proofs.laws.columns_line_up.Goals as goal

pub returns-clause-cells : goal.returns-clause-cells
returns-clause-cells c = λ rows row column in_rows narrow h.
    let it = cells_line_up rows row column in_rows narrow h in
    (it.begins.before, it.after, it.begins.whole_is, it.begins.count_is)

pub returns-clause-last : goal.returns-clause-last
returns-clause-last c = λ rows row in_rows narrow.
    let it = last_lines_up rows row in_rows narrow in
    (it.before, it.whole_is, it.count_is)
