use Rattle.std.proofs.Common.{List, ℕ, Some, ap, sym, ◌∙◌}
use Rattle.std.specs.Int.{w16}
use Rattle.krb_file.specs.Cursor.{data_at}
use Rattle.krb_file.proofs.Moved.{data_moved, times_moved}
use Rattle.krb_keytab.specs.Inner.Entry.{components_at, listed}
use Rattle.krb_keytab.proofs.listed.ListedField.read.Goals as goal

pub invariant_of-result : goal.invariant_of-result
invariant_of-result c =
    let read = c.in_ok-skip_components.ensures.ok in
    let moved = times_moved (data_at w16) (data_moved w16) c.args.count 0 c.args.cursor.now read.0 c.skip_components.new.cursor read.1 in
    (_, ap (components_at c.args.count) c.rest-bytes.ensures ∙ moved.1)

pub returns-clause-read : goal.returns-clause-read
returns-clause-read c =
    let read = c.in_ok-skip_components.ensures.ok in
    let moved = times_moved (data_at w16) (data_moved w16) c.args.count 0 c.args.cursor.now read.0 c.skip_components.new.cursor read.1 in
    read.1 ∙ ap (λ (x : List (List ℕ)). Some (x, c.skip_components.new.cursor)) (sym (ap listed (ap (components_at c.args.count) c.rest-bytes.ensures ∙ moved.1)))
