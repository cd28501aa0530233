use Rattle.krb_c.specs.Bindings.{ReplacesBindings}
use Rattle.krb_c.proofs.Turns.{turned}
use Rattle.krb_c.proofs.bindings.fevstunik_acceptor_replace_bindings.Goals as goal

pub returns : goal.returns
returns c = turned _ (λ old new. ReplacesBindings c.args.bindings c.args.hash.now old new c.bind-answer.result)
    c.in-Some.ensures.taken c.put.ensures c.deref_mut.ensures.value c.bind-answer.ensures
