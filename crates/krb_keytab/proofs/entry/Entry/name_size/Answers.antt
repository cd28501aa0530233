use Rattle.std.proofs.Common.{◌≡◌, ◌+◌, ◌∙◌, arith, ap, length}
use Rattle.std.specs.Prelude.{sum_by}
use Rattle.std.proofs.lemmas.List.Sums.{sum_by-cons}
use Rattle.krb_keytab.specs.Entry.{KeytabEntry}
use Rattle.krb_keytab.proofs.SizeLaws.{all_fit, part}
use Rattle.krb_keytab.proofs.entry.Entry.name_size.Goals as goal

pub overflow_add-size-in-loop-component : goal.overflow_add-size-in-loop-component
overflow_add-size-in-loop-component c =
    let lengths = c.self.invariant in
    let all = all_fit c.self.inside.principal.components lengths.count lengths.components in
    let same = ap (λ (e : KeytabEntry). sum_by part e.principal.components) c.self.view_is in
    let realm = ap (λ (e : KeytabEntry). length e.principal.realm) c.self.view_is in
    let next : sum_by part c.loop-component.component-iterator ≡ part c.in-Some.component.now + sum_by part c.next.new.self = ap (sum_by part) c.in-Some.ensures.steps ∙ sum_by-cons part c.in-Some.component.now c.next.new.self in
    record { fits = omega (arith, all, same, realm, lengths.realm, c.loop-component.invariant, next) }
