use Rattle.std.proofs.Common.{ℕ, sym, subst, arith, rules}
use Rattle.krb_context.specs.Sequence.{Known, Stands, IsRecent, next_of}
use Rattle.krb_context.specs.Inner.Ring.{has, known_of}
use Rattle.krb_context.proofs.Rings.{ring_of}
use Rattle.krb_context.proofs.order.Window.order.Goals as goal

pub returns-then-eq : goal.returns-then-eq
returns-then-eq c first taken s =
    let inside : Stands (known_of c.self.inside.first c.self.inside.next c.self.inside.slots) first taken = subst (λ (w : Known). Stands w first taken) (sym c.self.view_is) s in
    let ring = ring_of c.self.inside.first c.self.inside.next c.self.inside.slots first taken c.self.invariant inside in
    let there : has c.self.inside.slots c.args.number = search rules in
    let near = c.is_near.ensures.0 c.if-not-is_near.false in
    (record { from_first = omega (arith, near.0, s.first_is); before = omega (arith, s.next_is, inside.next_is); near = omega (arith, near.1, s.next_is) }, ring.only c.args.number there)

pub returns-else-eq : goal.returns-else-eq
returns-else-eq c first taken s =
    let inside : Stands (known_of c.self.inside.first c.self.inside.next c.self.inside.slots) first taken = subst (λ (w : Known). Stands w first taken) (sym c.self.view_is) s in
    let ring = ring_of c.self.inside.first c.self.inside.next c.self.inside.slots first taken c.self.invariant inside in
    let near = c.is_near.ensures.0 c.if-not-is_near.false in
    let recent : IsRecent first (next_of first taken) c.args.number = record { from_first = omega (arith, near.0, s.first_is); before = omega (arith, s.next_is, inside.next_is); near = omega (arith, near.1, s.next_is) } in
    let not_there : has c.self.inside.slots c.args.number → ⊥ = search rules in
    (recent, λ it. not_there (ring.all c.args.number (subst (λ (n : ℕ). IsRecent first n c.args.number) (sym ring.next_is) recent) it))
