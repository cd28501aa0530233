use Rattle.std.proofs.Common.{sym, ap, subst, ◌∙◌}
use Rattle.krb_file.specs.Hand.{window_hand}
use Rattle.krb_ccache.specs.Reader.{Reading, HasRead, ended_passed}
use Rattle.krb_ccache.proofs.ReaderLaws.{next_stops, next_item, next_end, next_fault}
use Rattle.krb_ccache.proofs.reader.CredentialReader.next.Goals as goal

pub returns-clause-item : goal.returns-clause-item
returns-clause-item g c = λ from cache h.
    next_item c.self.inside.start.layout g.S.Source.remaining from c.self.inside.window c.step-answer.new.feed _ _ _ cache c.step-answer.result c.step-answer.ensures.step (subst (λ (reader : Reading g.row.S.Denot). HasRead g.S.Source.remaining from reader cache) (sym c.self.view_is) h).taken (c.ended_by-self-inside.ensures ∙ ap ended_passed c.is_there.ensures)

pub returns-clause-end : goal.returns-clause-end
returns-clause-end g c = λ from cache h e.
    next_end c.self.inside.start.layout from (window_hand g.S.Source.remaining c.self.inside.window) (window_hand g.S.Source.remaining c.step-answer.new.feed) cache c.step-answer.result c.step-answer.ensures.step (subst (λ (reader : Reading g.row.S.Denot). HasRead g.S.Source.remaining from reader cache) (sym c.self.view_is) h).taken e

pub returns-clause-fault : goal.returns-clause-fault
returns-clause-fault g c = λ from cache h.
    next_fault c.self.inside.start.layout from (window_hand g.S.Source.remaining c.self.inside.window) (window_hand g.S.Source.remaining c.step-answer.new.feed) cache c.step-answer.result c.step-answer.ensures.step (subst (λ (reader : Reading g.row.S.Denot). HasRead g.S.Source.remaining from reader cache) (sym c.self.view_is) h).taken

pub returns-clause-stops : goal.returns-clause-stops
returns-clause-stops g c = λ from cache h.
    let started = subst (λ (reader : Reading g.row.S.Denot). HasRead g.S.Source.remaining from reader cache) (sym c.self.view_is) h in
    next_stops c.self.inside.start.layout from (window_hand g.S.Source.remaining c.self.inside.window) (window_hand g.S.Source.remaining c.step-answer.new.feed) cache c.step-answer.result c.step-answer.ensures.step started.taken (c.self.invariant.2 started.going)
