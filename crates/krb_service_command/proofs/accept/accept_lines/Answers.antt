use Rattle.std.proofs.Common.{arith, [], sym, refl, inl, inr, ◌∙◌}
use Rattle.std.proofs.KnownBytes.{Consumes-nil}
use Rattle.krb_service_command.specs.declared.fault.ServiceFault.TheVariants.{Input}
use Rattle.krb_file_commands.proofs.FaultLaws.{err_is, no_ok}
use Rattle.krb_service_command.proofs.FaultLaws.{not_input, same_fault}
use Rattle.krb_call_lines.proofs.CallLaws.{unlike}
use Rattle.krb_service_command.proofs.GoingLaws.{going_start}
use Rattle.krb_service_command.proofs.EndLaws.{all_answered, last_answered, last_begun, none_begun, stop_begun, whole_answered}
use Rattle.krb_service_command.proofs.accept.accept_lines.Goals as goal

pub returns-in_err-piece-clause-begun : goal.returns-in_err-piece-clause-begun
returns-in_err-piece-clause-begun g c = λ input history tells stands _.
    none_begun c.args.options.now c.args.acceptor.now.setup history (g.K.Sink.taken c.args.sink.now)
    (g.M.ReplayMemory.has c.args.acceptor.now.memory) (g.M.ReplayMemory.newest c.args.acceptor.now.memory) input stands

pub returns-in_err-piece-clause-taken : goal.returns-in_err-piece-clause-taken
returns-in_err-piece-clause-taken g c = record { piece = []; taken = Consumes-nil (g.S.Source.remaining c.args.source.now); within = omega arith }

pub returns-in_err-answer_source-clause-unread : goal.returns-in_err-answer_source-clause-unread
returns-in_err-answer_source-clause-unread g c = λ input history tells stands err.
    let was = c.in_err-answer_source.was ∙ same_fault (sym (err_is c.from_residual-in_err-answer_source.result c.from_residual-in_err-answer_source.ensures.1) ∙ err) in
    whole_answered tells (c.answer_source.ensures.input _ (going_start history _ _ _ c.new.ensures refl stands) was)

pub returns-in_err-answer_source-clause-begun : goal.returns-in_err-answer_source-clause-begun
returns-in_err-answer_source-clause-begun g c = λ input history tells stands err.
    let was = sym (err_is c.from_residual-in_err-answer_source.result c.from_residual-in_err-answer_source.ensures.1) in
    stop_begun tells (c.answer_source.ensures.stop _ (going_start history _ _ _ c.new.ensures refl stands)
    (elim err [ inl e ↦ inl (c.in_err-answer_source.was ∙ same_fault (was ∙ e)) | inr e ↦ inr (c.in_err-answer_source.was ∙ same_fault (was ∙ e)) ]))

pub returns-in_err-answer_source-clause-failed : goal.returns-in_err-answer_source-clause-failed
returns-in_err-answer_source-clause-failed g c = λ err.
    c.answer_source.ensures.failed (c.in_err-answer_source.was ∙ same_fault (sym (err_is c.from_residual-in_err-answer_source.result c.from_residual-in_err-answer_source.ensures.1) ∙ err))

pub returns-in_err-answer_source-clause-reads : goal.returns-in_err-answer_source-clause-reads
returns-in_err-answer_source-clause-reads g c =
    elim c.answer_source.ensures.reads [ inl e ↦ inl (err_is c.from_residual-in_err-answer_source.result c.from_residual-in_err-answer_source.ensures.1 ∙ same_fault (sym c.in_err-answer_source.was ∙ e)) | inr same ↦ inr same ]

pub returns-in_err-answer_line-clause-unread : goal.returns-in_err-answer_line-clause-unread
returns-in_err-answer_line-clause-unread g c = λ input history tells stands err.
    absurd (not_input c.in_err-answer_line.field-0.0 c.in_err-answer_line.ensures.which (sym (err_is c.from_residual-in_err-answer_line.result c.from_residual-in_err-answer_line.ensures.1) ∙ err))

pub returns-in_err-answer_line-clause-failed : goal.returns-in_err-answer_line-clause-failed
returns-in_err-answer_line-clause-failed g c = λ err.
    absurd (not_input c.in_err-answer_line.field-0.0 c.in_err-answer_line.ensures.which (sym (err_is c.from_residual-in_err-answer_line.result c.from_residual-in_err-answer_line.ensures.1) ∙ err))

pub returns-in_err-answer_line-clause-begun : goal.returns-in_err-answer_line-clause-begun
returns-in_err-answer_line-clause-begun g c = λ input history tells stands _.
    let ended = c.in_ok-answer_source.ensures.ok _ (going_start history _ _ _ c.new.ensures refl stands) in
    let going = ended.reached.going in
    last_begun tells ended (λ none. unlike c.is_empty.result c.if-is_empty.false ((c.is_empty.ensures going.rest going.holds).1 none))
    c.answer_line.ensures.stays (c.in_err-answer_line.ensures.err going.end going.rest going.stands going.holds)

pub returns-in_err-answer_line-clause-which : goal.returns-in_err-answer_line-clause-which
returns-in_err-answer_line-clause-which g c =
    rw (err_is c.from_residual-in_err-answer_line.result c.from_residual-in_err-answer_line.ensures.1)
    (inr c.in_err-answer_line.ensures.which)

pub returns-in_err-answer_line-clause-reads : goal.returns-in_err-answer_line-clause-reads
returns-in_err-answer_line-clause-reads g c = elim c.in_ok-answer_source.ensures.reads [ inl e ↦ absurd (no_ok _ Input e) | inr same ↦ inr same ]

pub returns-in_err-answer_source-clause-setup : goal.returns-in_err-answer_source-clause-setup
returns-in_err-answer_source-clause-setup g c = c.answer_source.ensures.stays.setup

pub returns-in_err-answer_line-clause-setup : goal.returns-in_err-answer_line-clause-setup
returns-in_err-answer_line-clause-setup g c = c.answer_line.ensures.stays.setup ∙ c.answer_source.ensures.stays.setup

pub returns-then-is_empty-clause-answered : goal.returns-then-is_empty-clause-answered
returns-then-is_empty-clause-answered g c = λ input history tells stands.
    let ended = c.in_ok-answer_source.ensures.ok _ (going_start history _ _ _ c.new.ensures refl stands) in
    all_answered tells ended ((c.is_empty.ensures ended.reached.going.rest ended.reached.going.holds).0 c.if-is_empty.true)

pub returns-clause-answered : goal.returns-clause-answered
returns-clause-answered g c = λ input history tells stands.
    let ended = c.in_ok-answer_source.ensures.ok _ (going_start history _ _ _ c.new.ensures refl stands) in
    let going = ended.reached.going in
    last_answered tells ended (λ none. unlike c.is_empty.result c.if-is_empty.false ((c.is_empty.ensures going.rest going.holds).1 none))
    c.answer_line.ensures.stays (c.in_ok-answer_line.ensures.ok going.end going.rest going.stands going.holds)

pub returns-clause-setup : goal.returns-clause-setup
returns-clause-setup g c = c.answer_line.ensures.stays.setup ∙ c.answer_source.ensures.stays.setup

pub returns-clause-reads : goal.returns-clause-reads
returns-clause-reads g c = elim c.in_ok-answer_source.ensures.reads [ inl e ↦ absurd (no_ok _ Input e) | inr same ↦ inr same ]

pub returns-then-is_empty-clause-setup : goal.returns-then-is_empty-clause-setup
returns-then-is_empty-clause-setup g c = c.answer_source.ensures.stays.setup

pub returns-then-is_empty-clause-reads : goal.returns-then-is_empty-clause-reads
returns-then-is_empty-clause-reads g c = elim c.in_ok-answer_source.ensures.reads [ inl e ↦ absurd (no_ok _ Input e) | inr same ↦ inr same ]

pub returns-then-is_empty-clause-known : goal.returns-then-is_empty-clause-known
returns-then-is_empty-clause-known g c = c.answer_source.ensures.stays.known (omega arith)

pub returns-clause-known : goal.returns-clause-known
returns-clause-known g c = c.answer_line.ensures.stays.known (c.answer_source.ensures.stays.known (omega arith))

pub returns-then-is_empty-clause-ran : goal.returns-then-is_empty-clause-ran
returns-then-is_empty-clause-ran g c = c.answer_source.ensures.stays.ran (λ two. omega (arith, two))

pub returns-clause-ran : goal.returns-clause-ran
returns-clause-ran g c = c.answer_line.ensures.stays.ran (c.answer_source.ensures.stays.ran (λ two. omega (arith, two)))
