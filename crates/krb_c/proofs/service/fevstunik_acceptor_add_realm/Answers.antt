use Rattle.krb_c.specs.Login.{AddsRealm}
use Rattle.krb_c.proofs.Turns.{turned}
use Rattle.krb_c.proofs.service.fevstunik_acceptor_add_realm.Goals as goal

pub returns : goal.returns
returns c = turned _ (λ old new. AddsRealm c.args.realm.now old new c.add_realm-answer.result)
    c.in-Some.ensures.taken c.put.ensures c.deref_mut.ensures.value c.add_realm-answer.ensures
