use Rattle.std.proofs.Common.{◌≡◌, ◌≤◌, List, length, map, take, vec_len}
use Rattle.std.specs.List.{AllZip}
use Rattle.std.specs.Prelude.{IfErr, IfOk, IsErrOf, vec_capacity}
use Rattle.krb_ap.specs.Setup.{Arrival}
use Rattle.krb_ap.specs.Opened.{AsksFor, AsksWithin, IsOrdinary}
use Rattle.krb_ap.specs.Causes.{TellsPlaceWithin}
use Rattle.krb_ap.specs.History.{StandsFor}
use Rattle.krb_ap.specs.Answer.{Served, arrival_of}
use Rattle.krb_ap.specs.declared.refusal.Refusal.TheVariants.{OutOfMemory}
use Rattle.krb_ap.proofs.Counting.{HeedsInTurn}
use Rattle.krb_ap.proofs.acceptor.Acceptor.serve.Given as goal

abbrev pub invariant-loop-call : goal.invariant-loop-call
invariant-loop-call g l = record {
  setup : l.self.setup ≡ l.initial.self.setup;
  limits : g.M.ReplayMemory.limits l.self.memory ≡ g.M.ReplayMemory.limits l.initial.self.memory;
  room : length l.calls ≤ vec_capacity l.outcomes;
  count : vec_len l.outcomes ≡ l.call-index;
  served : (history : List Arrival) → StandsFor l.initial.self.setup (g.M.ReplayMemory.has l.initial.self.memory) (g.M.ReplayMemory.newest l.initial.self.memory) history
      → Served g.M.ReplayMemory.KEEPS g.M.ReplayMemory.FORGETS l.initial.self.setup history (map arrival_of (take l.call-index l.calls)) l.outcomes.items
      (g.M.ReplayMemory.has l.initial.self.memory) (g.M.ReplayMemory.has l.self.memory) (g.M.ReplayMemory.newest l.self.memory);
  offset : AllZip (λ call answer. IfErr answer (TellsPlaceWithin call.bytes)) (map arrival_of (take l.call-index l.calls)) l.outcomes.items;
  memory : AllZip (λ call answer. IsErrOf answer OutOfMemory → IsOrdinary call.bytes) (map arrival_of (take l.call-index l.calls)) l.outcomes.items;
  size : AllZip (λ call answer. IsErrOf answer OutOfMemory → AsksWithin l.initial.self.setup call.bytes) (map arrival_of (take l.call-index l.calls)) l.outcomes.items;
  service : AllZip (λ call answer. IfOk answer (λ accepted. AsksFor call.bytes accepted.service)) (map arrival_of (take l.call-index l.calls)) l.outcomes.items;
  heeds : (history : List Arrival) → StandsFor l.initial.self.setup (g.M.ReplayMemory.has l.initial.self.memory) (g.M.ReplayMemory.newest l.initial.self.memory) history
      → HeedsInTurn (g.M.ReplayMemory.limits l.initial.self.memory) l.initial.self.setup history (map arrival_of (take l.call-index l.calls)) l.outcomes.items
      (g.M.ReplayMemory.refusals l.initial.self.memory) (g.M.ReplayMemory.refusals l.self.memory);
}
