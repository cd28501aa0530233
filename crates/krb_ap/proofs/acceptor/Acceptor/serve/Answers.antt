use Rattle.std.proofs.Common.{◌∙◌, List, arith, map, subst}
use Rattle.std.proofs.lemmas.List.{take_all}
use Rattle.std.specs.Prelude.{IfErr, IfOk, IsErrOf}
use Rattle.krb_ap.specs.Opened.{AsksFor, AsksWithin, IsOrdinary}
use Rattle.krb_ap.specs.Setup.{Setup}
use Rattle.krb_ap.specs.Causes.{TellsPlaceWithin}
use Rattle.krb_ap.specs.Answer.{arrival_of}
use Rattle.krb_ap.specs.declared.call.Call.{Call}
use Rattle.krb_ap.specs.declared.refusal.Refusal.TheVariants.{OutOfMemory}
use Rattle.krb_ap.proofs.Counting.{HeedsInTurn, heeds_in_all, heeds_more}
use Rattle.krb_ap.proofs.Runs.{each_more, mapped, served_push}
use Rattle.krb_ap.proofs.acceptor.Acceptor.serve.Goals as goal

pub returns-clause-limit : goal.returns-clause-limit
returns-clause-limit g c = λ history stands.
    heeds_in_all c.facts.ensures (g.M.ReplayMemory.limits c.args.self.now.memory) c.args.self.now.setup history (map arrival_of c.args.calls.now)
    c.loop-call.outcomes.items (g.M.ReplayMemory.refusals c.args.self.now.memory) (g.M.ReplayMemory.refusals c.loop-call.self.memory)
    (subst (λ (calls : List Call). HeedsInTurn (g.M.ReplayMemory.limits c.args.self.now.memory) c.args.self.now.setup history (map arrival_of calls)
    c.loop-call.outcomes.items (g.M.ReplayMemory.refusals c.args.self.now.memory) (g.M.ReplayMemory.refusals c.loop-call.self.memory))
    (take_all c.loop-call.call-index c.args.calls.now (omega (arith, c.loop-call-test.false))) (c.loop-call.invariant.heeds history stands))

pub loop-call-preserved : goal.loop-call-preserved
loop-call-preserved g c = record {
  setup = c.accept-outcome.ensures.setup ∙ c.loop-call.invariant.setup;
  limits = c.accept-outcome.ensures.limits ∙ c.loop-call.invariant.limits;
  room = omega (arith, c.push_reserved.ensures.capacity, c.loop-call.invariant.room);
  count = omega (arith, c.push_reserved.ensures.len, c.loop-call.invariant.count);
  served = λ history stands.
      served_push g.M.ReplayMemory.KEEPS g.M.ReplayMemory.FORGETS c.args.self.now.setup c.loop-call.self.setup c.accept-outcome.new.self.setup history _
      c.loop-call.outcomes.items c.push_reserved.new.self.items _
      (g.M.ReplayMemory.has c.args.self.now.memory) (g.M.ReplayMemory.has c.loop-call.self.memory) (g.M.ReplayMemory.has c.accept-outcome.new.self.memory)
      (g.M.ReplayMemory.newest c.loop-call.self.memory) (g.M.ReplayMemory.newest c.accept-outcome.new.self.memory)
      (arrival_of c.call-item.result) c.accept-outcome.result
      c.loop-call.invariant.setup c.accept-outcome.ensures.setup
      (mapped c.args.calls.now c.loop-call.call-index c.call-item.result c.loop-call-test.true c.call-item.is)
      c.push_reserved.ensures.items c.accept-outcome.ensures.answer c.accept-outcome.ensures.goes_on
      c.accept-outcome.ensures.keeps c.accept-outcome.ensures.forgets (λ memory. (c.accept-outcome.ensures.unchanged memory).0)
      (c.loop-call.invariant.served history stands);
  offset = each_more (λ call answer. IfErr answer (TellsPlaceWithin call.bytes)) _ c.loop-call.outcomes.items c.push_reserved.new.self.items _
      (arrival_of c.call-item.result) c.accept-outcome.result
      (mapped c.args.calls.now c.loop-call.call-index c.call-item.result c.loop-call-test.true c.call-item.is)
      c.push_reserved.ensures.items c.loop-call.invariant.offset c.accept-outcome.ensures.offset;
  memory = each_more (λ call answer. IsErrOf answer OutOfMemory → IsOrdinary call.bytes) _ c.loop-call.outcomes.items c.push_reserved.new.self.items _
      (arrival_of c.call-item.result) c.accept-outcome.result
      (mapped c.args.calls.now c.loop-call.call-index c.call-item.result c.loop-call-test.true c.call-item.is)
      c.push_reserved.ensures.items c.loop-call.invariant.memory c.accept-outcome.ensures.memory;
  size = each_more (λ call answer. IsErrOf answer OutOfMemory → AsksWithin c.args.self.now.setup call.bytes) _ c.loop-call.outcomes.items c.push_reserved.new.self.items _
      (arrival_of c.call-item.result) c.accept-outcome.result
      (mapped c.args.calls.now c.loop-call.call-index c.call-item.result c.loop-call-test.true c.call-item.is)
      c.push_reserved.ensures.items c.loop-call.invariant.size
      (subst (λ (s : Setup). IsErrOf c.accept-outcome.result OutOfMemory → AsksWithin s (arrival_of c.call-item.result).bytes) c.loop-call.invariant.setup c.accept-outcome.ensures.size);
  service = each_more (λ call answer. IfOk answer (λ accepted. AsksFor call.bytes accepted.service)) _ c.loop-call.outcomes.items c.push_reserved.new.self.items _
      (arrival_of c.call-item.result) c.accept-outcome.result
      (mapped c.args.calls.now c.loop-call.call-index c.call-item.result c.loop-call-test.true c.call-item.is)
      c.push_reserved.ensures.items c.loop-call.invariant.service c.accept-outcome.ensures.service;
  heeds = λ history stands.
      heeds_more g.M.ReplayMemory.KEEPS g.M.ReplayMemory.FORGETS c.args.self.now.setup c.loop-call.self.setup history _
      c.loop-call.outcomes.items c.push_reserved.new.self.items _
      (g.M.ReplayMemory.has c.args.self.now.memory) (g.M.ReplayMemory.has c.loop-call.self.memory) (g.M.ReplayMemory.newest c.loop-call.self.memory)
      (g.M.ReplayMemory.limits c.args.self.now.memory) (g.M.ReplayMemory.limits c.loop-call.self.memory)
      (g.M.ReplayMemory.refusals c.args.self.now.memory) (g.M.ReplayMemory.refusals c.loop-call.self.memory) (g.M.ReplayMemory.refusals c.accept-outcome.new.self.memory)
      (arrival_of c.call-item.result) c.accept-outcome.result
      c.loop-call.invariant.setup c.loop-call.invariant.limits
      (mapped c.args.calls.now c.loop-call.call-index c.call-item.result c.loop-call-test.true c.call-item.is)
      c.push_reserved.ensures.items c.accept-outcome.ensures.limit
      (c.loop-call.invariant.served history stands) (c.loop-call.invariant.heeds history stands);
}
