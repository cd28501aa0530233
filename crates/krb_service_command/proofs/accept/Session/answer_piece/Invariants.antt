use Rattle.std.proofs.Common.{◌≡◌, ◌++◌, List, ℕ, length}
use Rattle.krb_service_command.specs.Inner.Going.{Going, Start, Stays}
use Rattle.krb_service_command.proofs.accept.Session.answer_piece.Given as goal

-- the bytes before those left were gone through, and no write failed
abbrev pub invariant-lines : goal.invariant-lines
invariant-lines g l = (gone : List ℕ) × record {
  parts : l.piece ≡ gone ++ l.left;
  going : (start : Start) (came : List ℕ) → Going g.M.ReplayMemory.has g.M.ReplayMemory.newest start came l.initial.self l.initial.acceptor (g.K.Sink.taken l.initial.sink)
      → Going g.M.ReplayMemory.has g.M.ReplayMemory.newest start (came ++ gone) l.self l.acceptor (g.K.Sink.taken l.sink);
  stays : Stays l.initial.self l.self l.initial.acceptor l.acceptor;
  counted : g.K.Sink.failure_count l.sink ≡ g.K.Sink.failure_count l.initial.sink;
}

abbrev pub decreases-lines : goal.decreases-lines
decreases-lines g l = length l.left
