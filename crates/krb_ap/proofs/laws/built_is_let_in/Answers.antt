use Rattle.krb_ap.proofs.LetIn.{let_in, said_new}
use Rattle.krb_ap.proofs.laws.built_is_let_in.Goals as goal

pub returns-clause-new : goal.returns-clause-new
returns-clause-new c = λ setup history moment bytes built store events may lacks.
    said_new c.facts.ensures setup history moment built.cache built.service built.at built.confounder built.options bytes built.awaited built.ticket built.part
    built.request built.has_ticket may store events lacks

pub returns-clause-let_in : goal.returns-clause-let_in
returns-clause-let_in c = λ setup history moment bytes built skew store events may share absent unasked.
    let_in c.facts.ensures setup history moment built.cache built.service built.at built.confounder built.options bytes built.awaited built.ticket built.part
    built.request built.has_ticket may store events skew share absent unasked
