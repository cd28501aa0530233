use Rattle.std.proofs.Common.{List, ℕ, sym, subst}
use Rattle.krb_ccache.specs.Inner.Stepping.{Stands}
use Rattle.krb_ccache.proofs.stepping.come.Goals as goal

pub made-requires : goal.made-requires
made-requires g c =
    let s = g.L.Leading.spelled c.args.layout in
    let P = g.L.Leading.InRange c.args.layout in
    let passed = c.in_ok-pass.ensures.passed in
    (passed.some, subst (λ (t : List ℕ). Stands s P t passed.some) (sym c.bytes.ensures.bytes) passed.stands)

pub returns-clause-comes : goal.returns-clause-comes
returns-clause-comes g c =
    let s = g.L.Leading.spelled c.args.layout in
    let P = g.L.Leading.InRange c.args.layout in
    let part = g.L.Leading.raw c.in_ok-made.field-0 in
    c.in_ok-pass.ensures.passed.comes part (subst (λ (t : List ℕ). Stands s P t part) c.bytes.ensures.bytes c.in_ok-made.ensures)
