use Rattle.std.proofs.Common.{rules, arith, ℕ, take, [], ap, refl, inl, ◌∙◌, Ok}
use Rattle.std.proofs.KnownBytes.{Consumes-nil, Consumes-kept}
use Rattle.krb_file.specs.Flow.{counted}
use Rattle.krb_service_command.proofs.GoingLaws.{came_more, came_takes, reached_kept, reached_more, reached_none, reached_stop, stays_on, length-take-below}
use Rattle.krb_service_command.proofs.accept.Session.answer_source.Goals as goal

pub loop-came-init : goal.loop-came-init
loop-came-init g c = record {
  within = omega arith;
  room = c.requires.piece;
  reached = λ start going. record { came = []; consumed = Consumes-nil (g.S.Source.remaining c.args.source.now); counted = refl; going = going };
  came = record { bytes = []; consumed = Consumes-nil (g.S.Source.remaining c.args.source.now); counted = refl };
  stays = record { setup = refl; options = refl; known = λ before. before; ran = λ before. before };
  reads = refl;
  writes = refl;
}

pub returns-in_err-count-clause-input : goal.returns-in_err-count-clause-input
returns-in_err-count-clause-input g c = λ start going _. record {
  count = c.loop-came.came;
  reached = reached_kept (c.loop-came.invariant.reached start going) c.in_err-count.ensures.err;
  why = inl (c.in_err-count.ensures.failed ∙ ap (λ (n : ℕ). counted n 1) c.loop-came.invariant.reads);
}

pub returns-then-count-eq0-clause-ok : goal.returns-then-count-eq0-clause-ok
returns-then-count-eq0-clause-ok g c = λ start going. record {
  count = c.loop-came.came;
  reached = reached_none (c.loop-came.invariant.reached start going) (take c.in_ok-count.count c.read_some.new.piece) c.in_ok-count.ensures.bytes
      (ap (λ (n : ℕ). take n c.read_some.new.piece) c.if-count-eq0.true);
  end = c.in_ok-count.ensures.end (ap (λ (n : ℕ). Ok n) c.if-count-eq0.true);
  limit = c.loop-came-test.true;
}

pub returns-in_err-answer_piece-clause-stop : goal.returns-in_err-answer_piece-clause-stop
returns-in_err-answer_piece-clause-stop g c = λ start going _.
    let reached = c.loop-came.invariant.reached start going in
    reached_stop reached (take c.in_ok-count.count c.read_some.new.piece) c.in_ok-count.ensures.bytes
    (c.in_err-answer_piece.ensures.err start reached.came reached.going)

pub loop-came-preserved : goal.loop-came-preserved
loop-came-preserved g c =
    let piece = take c.in_ok-count.count c.read_some.new.piece in
    let counted = length-take-below c.in_ok-count.count c.read_some.new.piece c.in_ok-count.ensures.bound.1 in
    record {
      within = omega (arith, c.in_ok-count.ensures.bound.0, c.loop-came-test.true);
      room = search (arith, rules);
      reached = λ start going.
          let reached = c.loop-came.invariant.reached start going in
          reached_more reached piece c.in_ok-count.count c.in_ok-count.ensures.bytes counted (c.in_ok-answer_piece.ensures.ok start reached.came reached.going);
      came = came_more (g.S.Source.remaining c.args.source.now) (g.S.Source.remaining c.loop-came.source) (g.S.Source.remaining c.read_some.new.source)
          c.loop-came.came c.in_ok-count.count piece c.loop-came.invariant.came c.in_ok-count.ensures.bytes counted;
      stays = stays_on c.loop-came.invariant.stays c.answer_piece.ensures.stays;
      reads = omega (arith, c.in_ok-count.ensures.failed, c.loop-came.invariant.reads);
      writes = omega (arith, c.in_ok-answer_piece.ensures.writes, c.loop-came.invariant.writes);
    }

pub returns-in_err-count-clause-taken : goal.returns-in_err-count-clause-taken
returns-in_err-count-clause-taken g c =
    let came = c.loop-came.invariant.came in
    record { piece = came.bytes; taken = Consumes-kept _ _ _ came.bytes came.consumed c.in_err-count.ensures.err; within = omega (arith, came.counted, c.loop-came.invariant.within) }

pub returns-then-count-eq0-clause-taken : goal.returns-then-count-eq0-clause-taken
returns-then-count-eq0-clause-taken g c =
    came_takes _ _ _ (came_more (g.S.Source.remaining c.args.source.now) (g.S.Source.remaining c.loop-came.source) (g.S.Source.remaining c.read_some.new.source)
    c.loop-came.came c.in_ok-count.count (take c.in_ok-count.count c.read_some.new.piece) c.loop-came.invariant.came
    c.in_ok-count.ensures.bytes (length-take-below c.in_ok-count.count c.read_some.new.piece c.in_ok-count.ensures.bound.1))
    (omega (arith, c.in_ok-count.ensures.bound.0, c.loop-came-test.true))

pub returns-in_err-answer_piece-clause-taken : goal.returns-in_err-answer_piece-clause-taken
returns-in_err-answer_piece-clause-taken g c =
    came_takes _ _ _ (came_more (g.S.Source.remaining c.args.source.now) (g.S.Source.remaining c.loop-came.source) (g.S.Source.remaining c.read_some.new.source)
    c.loop-came.came c.in_ok-count.count (take c.in_ok-count.count c.read_some.new.piece) c.loop-came.invariant.came
    c.in_ok-count.ensures.bytes (length-take-below c.in_ok-count.count c.read_some.new.piece c.in_ok-count.ensures.bound.1))
    (omega (arith, c.in_ok-count.ensures.bound.0, c.loop-came-test.true))

pub returns-clause-taken : goal.returns-clause-taken
returns-clause-taken g c = came_takes _ _ _ c.loop-came.invariant.came c.loop-came.invariant.within
