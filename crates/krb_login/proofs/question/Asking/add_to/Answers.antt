use Rattle.std.proofs.Common.{ℕ, ℤ, List, sym, subst}
use Rattle.krb_replay.specs.Bytes.{IsBytesOf}
use Rattle.krb_login.specs.Store.{added}
use Rattle.krb_login.proofs.question.Asking.add_to.Goals as goal

pub returns-clause-said : goal.returns-clause-said
returns-clause-said g c =
    added c.as_slice.result.now
    (subst (λ (bytes : List ℕ). IsBytesOf c.args.self.now.stamp bytes) (sym c.as_slice.ensures.value) c.in_ok-stamp.ensures)
    c.in-Some.ensures.0
    (subst (λ (at : ℤ). g.S.Store.adds c.args.store.now c.as_slice.result.now at c.add.result c.add.new.self) c.in-Some.ensures.1 c.add.ensures)
