use Rattle.std.proofs.Common.{◌≡◌, ◌≤◌, ◌-◌, ◌<◌, [], length}
use Rattle.krb_service_command.specs.Answering.{Came, input_limit}
use Rattle.krb_service_command.specs.Inner.Going.{Going, Reached, Start, Stays}
use Rattle.krb_service_command.proofs.accept.Session.answer_source.Given as goal

-- so many bytes came and were gone through; no read and no write failed
abbrev pub invariant-loop-came : goal.invariant-loop-came
invariant-loop-came g l = record {
  within : l.came ≤ input_limit;
  room : 0 < length l.piece;
  reached : (start : Start) → Going g.M.ReplayMemory.has g.M.ReplayMemory.newest start [] l.fn.self l.fn.acceptor (g.K.Sink.taken l.fn.sink)
      → Reached g.M.ReplayMemory.has g.M.ReplayMemory.newest start (g.S.Source.remaining l.fn.source) (g.S.Source.remaining l.source) l.came l.self l.acceptor
      (g.K.Sink.taken l.sink);
  came : Came (g.S.Source.remaining l.fn.source) (g.S.Source.remaining l.source) l.came;
  stays : Stays l.fn.self l.self l.fn.acceptor l.acceptor;
  reads : g.S.Source.failure_count l.source ≡ g.S.Source.failure_count l.fn.source;
  writes : g.K.Sink.failure_count l.sink ≡ g.K.Sink.failure_count l.fn.sink;
}

abbrev pub decreases-loop-came : goal.decreases-loop-came
decreases-loop-came g l = input_limit - l.came
