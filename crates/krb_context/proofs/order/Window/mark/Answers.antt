use Rattle.std.proofs.Common.{◌≡◌, ◌+◌, ◌%◌, ◌∷◌, ◌∙◌, ℕ, Some, sym, subst, ap, arith, length, slice_set}
use Rattle.std.specs.Prelude.{max}
use Rattle.std.proofs.lemmas.Bool.{iff_false}
use Rattle.krb_context.specs.Sequence.{Known, Stands}
use Rattle.krb_context.specs.Inner.Ring.{Ring, StandsFor, known_of}
use Rattle.krb_context.proofs.Rings.{ring_of, known_from, put_in_place}
use Rattle.krb_context.proofs.Windows.{put, too_old}
use Rattle.krb_context.proofs.order.Window.mark.Goals as goal

pub returns-then-is_near : goal.returns-then-is_near
returns-then-is_near c first taken s =
    let number = c.args.number in
    let old : Ring = record { first = c.self.inside.first; next = c.self.inside.next; slots = c.self.inside.slots } in
    let near = c.is_near.ensures.0 c.if-is_near.true in
    let known : Stands (known_of old.first old.next old.slots) first taken = subst (λ (w : Known). Stands w first taken) (sym c.self.view_is) s in
    let inside : StandsFor old first taken = ring_of old.first old.next old.slots first taken c.self.invariant known in
    let size : length c.self.inside.slots ≡ 64 = omega arith in
    let next_is : max old.next (number + 1) ≡ c.max-self-inside.result = sym (c.max-self-inside.ensures ∙ ap (λ (n : ℕ). max old.next (n + 1)) c.from.ensures) in
    let ring = put_in_place old.next c.max-self-inside.result old.slots number size (omega (arith, c.self.invariant.within)) c.self.invariant in
    known_from old.first c.max-self-inside.result (slice_set old.slots (number % 64) (Some number)) first (number ∷ taken) ring
    (subst (λ (m : ℕ). StandsFor (record { first = old.first; next = m; slots = slice_set old.slots (number % 64) (Some number) }) first (number ∷ taken)) next_is
    (put old first number taken size (omega (arith, near.0, s.first_is)) (omega (arith, near.1, s.next_is, inside.next_is)) inside))

pub returns-else-is_near : goal.returns-else-is_near
returns-else-is_near c first taken s =
    let known : Stands (known_of c.self.inside.first c.self.inside.next c.self.inside.slots) first taken = subst (λ (w : Known). Stands w first taken) (sym c.self.view_is) s in
    subst (λ (w : Known). Stands w first (c.args.number ∷ taken)) c.self.view_is
    (known_from c.self.inside.first c.self.inside.next c.self.inside.slots first (c.args.number ∷ taken) c.self.invariant
    (too_old (record { first = c.self.inside.first; next = c.self.inside.next; slots = c.self.inside.slots }) first c.args.number taken
    (ring_of c.self.inside.first c.self.inside.next c.self.inside.slots first taken c.self.invariant known)
    (λ near. iff_false c.is_near.ensures c.if-is_near.false (omega (arith, near.0, known.first_is, s.first_is), omega (arith, near.1, known.next_is, s.next_is)))))
