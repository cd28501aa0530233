use Rattle.std.proofs.Common.{sym, subst}
use Rattle.krb_file.specs.Hand.{window_hand}
use Rattle.krb_ccache.specs.Reader.{Reading, HasRead}
use Rattle.krb_ccache.proofs.ReaderLaws.{passed_one, passed_end, passed_err, next_end, next_fault, next_stops}
use Rattle.krb_ccache.proofs.reader.CredentialReader.pass.Goals as goal

pub returns-clause-item : goal.returns-clause-item
returns-clause-item g c = λ going there.
    let step = c.step_past-answer.ensures.step in
    rw (← c.self.view_is) (passed_one c.self.inside.start.layout g.S.Source.remaining c.self.inside.window c.step_past-answer.new.feed _ _ _ _ step.0 c.step_past-answer.result step.2 step.1 there c.ended_by-self-inside.ensures)

pub returns-clause-end : goal.returns-clause-end
returns-clause-end g c = λ from cache h end.
    let step = c.step_past-answer.ensures.step in
    next_end c.self.inside.start.layout from (window_hand g.S.Source.remaining c.self.inside.window) (window_hand g.S.Source.remaining c.step_past-answer.new.feed) cache step.0 step.2 (subst (λ (reader : Reading g.row.S.Denot). HasRead g.S.Source.remaining from reader cache) (sym c.self.view_is) h).taken
    (passed_end c.self.inside.start.layout step.0 c.step_past-answer.result step.1 end)

pub returns-clause-fault : goal.returns-clause-fault
returns-clause-fault g c = λ from cache h.
    let step = c.step_past-answer.ensures.step in
    passed_err c.self.inside.start.layout step.0 c.step_past-answer.result _ step.1
    (next_fault c.self.inside.start.layout from (window_hand g.S.Source.remaining c.self.inside.window) (window_hand g.S.Source.remaining c.step_past-answer.new.feed) cache step.0 step.2 (subst (λ (reader : Reading g.row.S.Denot). HasRead g.S.Source.remaining from reader cache) (sym c.self.view_is) h).taken)

pub returns-clause-stops : goal.returns-clause-stops
returns-clause-stops g c = λ from cache h.
    let step = c.step_past-answer.ensures.step in
    let started = subst (λ (reader : Reading g.row.S.Denot). HasRead g.S.Source.remaining from reader cache) (sym c.self.view_is) h in
    passed_err c.self.inside.start.layout step.0 c.step_past-answer.result _ step.1
    (next_stops c.self.inside.start.layout from (window_hand g.S.Source.remaining c.self.inside.window) (window_hand g.S.Source.remaining c.step_past-answer.new.feed) cache step.0 step.2 started.taken (c.self.invariant.2 started.going))
