use Rattle.std.proofs.Common.{ap, ◌∙◌}
use Rattle.krb_ap.specs.Setup.{with_entries}
use Rattle.krb_ap.proofs.NewKeytab.{renewed_shows, renewed_stands}
use Rattle.krb_ap.proofs.acceptor.Acceptor.replace_keytab.Goals as goal

pub returns-clause-stands : goal.returns-clause-stands
returns-clause-stands g c = λ history. renewed_stands g.M.ReplayMemory.has g.M.ReplayMemory.newest c.args.self.now.setup _ c.args.keytab _ _
    (c.replace.ensures.rules ∙ ap (λ service. with_entries service.setup c.args.keytab) c.self.view_is)
    (ap (λ service. service.memory) c.self.view_is) history

pub returns-clause-shown : goal.returns-clause-shown
returns-clause-shown g c = λ history. renewed_shows c.args.self.now.setup _ c.args.keytab
    (c.replace.ensures.rules ∙ ap (λ service. with_entries service.setup c.args.keytab) c.self.view_is) history
