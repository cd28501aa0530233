use Rattle.std.proofs.Common.{subst}
use Rattle.krb_ap.specs.Setup.{Setup, arrival}
use Rattle.krb_ap.specs.History.{StandsFor}
use Rattle.krb_ap.specs.Answer.{after}
use Rattle.krb_ap.proofs.Limits.{not_counted}
use Rattle.krb_ap.proofs.OneAnswer.{taken_by, refused_for}
use Rattle.krb_ap.proofs.acceptor.Acceptor.accept.Goals as goal

pub returns-clause-goes_on : goal.returns-clause-goes_on
returns-clause-goes_on g c = λ history stands. (c.decide.ensures.goes_on history stands).stands

pub returns-clause-taken : goal.returns-clause-taken
returns-clause-taken g c = λ history taken stands accept.
    taken_by c.facts.ensures c.args.self.now.setup history (arrival c.args.bytes.now c.args.now) c.decide.result taken (c.decide.ensures.answer history stands) accept

pub returns-clause-refused : goal.returns-clause-refused
returns-clause-refused g c = λ history cause stands holds.
    refused_for c.facts.ensures c.args.self.now.setup history (arrival c.args.bytes.now c.args.now) c.decide.result cause (c.decide.ensures.answer history stands) holds

pub returns-clause-keeps : goal.returns-clause-keeps
returns-clause-keeps g c = λ keeping history stands. (c.decide.ensures.goes_on history stands).keeps keeping

pub returns-clause-forgets : goal.returns-clause-forgets
returns-clause-forgets g c = λ forgetting history stands named stamp.
    let on : StandsFor c.args.self.now.setup (g.M.ReplayMemory.has c.decide.new.self.memory) (g.M.ReplayMemory.newest c.decide.new.self.memory)
    (after history (arrival c.args.bytes.now c.args.now) c.decide.result) =
    subst (λ (s : Setup). StandsFor s (g.M.ReplayMemory.has c.decide.new.self.memory) (g.M.ReplayMemory.newest c.decide.new.self.memory)
    (after history (arrival c.args.bytes.now c.args.now) c.decide.result)) c.decide.ensures.setup (c.decide.ensures.goes_on history stands).stands in
    (λ new. (on.only stamp new, (c.decide.ensures.goes_on history stands).forgets forgetting named stamp new), λ shown. on.all stamp shown.0 shown.1)

pub returns-clause-memory : goal.returns-clause-memory
returns-clause-memory g c = λ memory.
    let asks = c.decide.ensures.memory memory in
    (asks.0, asks.1.0)

pub returns-clause-uncounted : goal.returns-clause-uncounted
returns-clause-uncounted g c = λ history cause stands holds early.
    not_counted c.facts.ensures _ _ _ _ _ c.args.self.now.setup history (arrival c.args.bytes.now c.args.now) cause _ stands (c.decide.ensures.limit history stands) holds early
