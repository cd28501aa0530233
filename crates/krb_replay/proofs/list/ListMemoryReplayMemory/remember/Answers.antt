use Rattle.std.proofs.Common.{◌∙◌, ap}
use Rattle.krb_replay.proofs.SetLaws.{found, adds_nothing, once_pushed, pushed_adds, still_same}
use Rattle.krb_replay.proofs.list.ListMemoryReplayMemory.remember.Goals as goal

pub invariant_of-self : goal.invariant_of-self
invariant_of-self c =
    rw c.in_ok-push.ensures.items
    (once_pushed c.self.inside.tuples.items c.args.tuple c.self.invariant
    (λ there. let is = (found c.deref.result.now c.self.inside.tuples.items c.args.tuple c.contains.result c.contains.ensures.cases c.deref.ensures.value).1 there in cc))

pub returns-else-not-contains-clause-ok : goal.returns-else-not-contains-clause-ok
returns-else-not-contains-clause-ok c =
    adds_nothing c.args.self.now.stamps c.args.tuple
    ((found c.deref.result.now c.args.self.now.stamps c.args.tuple c.contains.result c.contains.ensures.cases
    (c.deref.ensures.value ∙ ap (λ memory. memory.stamps) c.self.view_is)).0 c.if-not-contains.false)

pub returns-in_ok-push-clause-ok : goal.returns-in_ok-push-clause-ok
returns-in_ok-push-clause-ok c =
    pushed_adds c.self.inside.tuples.items c.args.self.now.stamps c.push.new.self.items c.args.tuple
    (ap (λ memory. memory.stamps) c.self.view_is) c.in_ok-push.ensures.items

pub returns-in_err-push-clause-err : goal.returns-in_err-push-clause-err
returns-in_err-push-clause-err c =
    still_same c.self.inside.tuples.items c.args.self.now.stamps c.push.new.self.items c.from_residual.result
    (ap (λ memory. memory.stamps) c.self.view_is) c.in_err-push.ensures.items

pub returns-in_err-push-clause-repeat : goal.returns-in_err-push-clause-repeat
returns-in_err-push-clause-repeat c = λ there.
    let yes = (found c.deref.result.now c.args.self.now.stamps c.args.tuple c.contains.result c.contains.ensures.cases
    (c.deref.ensures.value ∙ ap (λ memory. memory.stamps) c.self.view_is)).1 there in
    let no = c.if-not-contains.true in
    absurd (cc)
