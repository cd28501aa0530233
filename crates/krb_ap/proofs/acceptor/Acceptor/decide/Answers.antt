use Rattle.std.proofs.Common.{◌≡◌, ℤ, List, Option, ap, sym, ◌∙◌, subst, refl, inl, inr, Err}
use Rattle.std.specs.Prelude.{IsErrOf}
use Rattle.krb_replay.specs.Memory.{later_of, IsRecent}
use Rattle.krb_replay.specs.Stamp.{Stamp}
use Rattle.krb_ap.specs.Setup.{Setup, Arrival, arrival}
use Rattle.krb_ap.specs.Inner.GoingOn.{GoesOn}
use Rattle.krb_ap.specs.declared.accepted.Accepted.{Accepted}
use Rattle.krb_ap.specs.declared.refusal.Refusal.TheVariants.{OutOfMemory}
use Rattle.krb_ap.specs.History.{StandsFor, Shows, effective, greatest}
use Rattle.krb_ap.specs.Answer.{after_refusal}
use Rattle.krb_ap.specs.Inner.Judging.{IsJudged, IsTurnedAway}
use Rattle.krb_ap.specs.declared.refusal.Refusal.{Refusal}
use Rattle.krb_ap.proofs.Afterwards.{after_named, after_answer, not_memory, refusal_of}
use Rattle.krb_ap.specs.Service.{CountsPastLimit, IsPastLimit}
use Rattle.krb_ap.proofs.Standing.{after_advance, counts_once, moved_on, one_stamp, stands_still}
use Rattle.krb_ap.proofs.acceptor.Acceptor.decide.Goals as goal

pub returns-in-OutOfMemory-clause-goes_on : goal.returns-in-OutOfMemory-clause-goes_on
returns-in-OutOfMemory-clause-goes_on g c = rw c.judge.ensures.same (λ history stands.
    let is : c.in-Err.refusal ≡ OutOfMemory = c.in-OutOfMemory.is in
    subst (λ (h : List Arrival). GoesOn g.M.ReplayMemory.KEEPS g.M.ReplayMemory.FORGETS c.args.self.now.setup c.args.self.now.setup history h
    (g.M.ReplayMemory.has c.args.self.now.memory) (g.M.ReplayMemory.has c.args.self.now.memory) (g.M.ReplayMemory.newest c.args.self.now.memory)
    (IsErrOf {T = Accepted} {E = Refusal} (Err c.in-Err.refusal) OutOfMemory))
    (ap (after_refusal history (arrival c.args.bytes.now c.args.now)) (sym is))
    (record { stands = stands; keeps = λ keeping exact. exact; forgets = λ forgetting named. absurd (named (ap Err is)) }))

pub returns-in-Err-clause-goes_on : goal.returns-in-Err-clause-goes_on
returns-in-Err-clause-goes_on g c = λ history stands.
    let named : _ = c.in_default.not-OutOfMemory in
    let eff : c.effective-now.result ≡ effective history c.args.now = c.effective-now.ensures ∙ ap (λ l. later_of l c.args.now) stands.latest_is in
    let turned : IsTurnedAway c.args.self.now.setup history (arrival c.args.bytes.now c.args.now) (g.M.ReplayMemory.has c.args.self.now.memory) c.in-Err.refusal =
    c.in-Err.ensures.judged history c.args.now stands eff named in
    after_advance _ _ c.args.self.now.setup c.advance.new.self.setup history _ c.args.bytes.now c.args.now c.effective-now.result
    (g.M.ReplayMemory.has c.args.self.now.memory) (g.M.ReplayMemory.has c.args.self.now.memory) (g.M.ReplayMemory.has c.advance.new.self.memory)
    (g.M.ReplayMemory.newest c.args.self.now.memory) (g.M.ReplayMemory.newest c.args.self.now.memory) (g.M.ReplayMemory.newest c.advance.new.self.memory) _
    (after_named history (arrival c.args.bytes.now c.args.now) c.in-Err.refusal named) stands c.effective-now.ensures refl (rw c.judge.ensures.same at c.advance.ensures.newest) (rw c.judge.ensures.same at c.advance.ensures.setup)
    (λ stamp had. inl had) (λ stamp either. elim either [ inl had ↦ had | inr shows ↦ turned.had stamp shows ])
    (rw c.judge.ensures.same at c.advance.ensures.none_added) (rw c.judge.ensures.same at c.advance.ensures.kept)
    (rw c.judge.ensures.same at c.advance.ensures.keeps) (rw c.judge.ensures.same at c.advance.ensures.forgets)

pub returns-in-Err-clause-unchanged : goal.returns-in-Err-clause-unchanged
returns-in-Err-clause-unchanged g c = λ memory. absurd (c.in_default.not-OutOfMemory (refusal_of _ _ memory))

pub returns-in-OutOfMemory-clause-moves : goal.returns-in-OutOfMemory-clause-moves
returns-in-OutOfMemory-clause-moves g c = λ named. absurd (named (ap Err (c.in-OutOfMemory.is)))

pub returns-in-Err-clause-moves : goal.returns-in-Err-clause-moves
returns-in-Err-clause-moves g c = λ named.
    moved_on _ _ _ c.args.now c.effective-now.result c.effective-now.ensures refl (rw c.judge.ensures.same at c.advance.ensures.newest)

pub returns-in-Ok-remember-clause-moves : goal.returns-in-Ok-remember-clause-moves
returns-in-Ok-remember-clause-moves g c = λ named.
    moved_on _ _ _ c.args.now c.effective-now.result c.effective-now.ensures (rw c.judge.ensures.same at c.in-Ok-remember.ensures.newest) c.advance-in-Ok-remember.ensures.newest

pub returns-in-Ok-remember-clause-goes_on : goal.returns-in-Ok-remember-clause-goes_on
returns-in-Ok-remember-clause-goes_on g c = λ history stands.
    let eff : c.effective-now.result ≡ effective history c.args.now = c.effective-now.ensures ∙ ap (λ l. later_of l c.args.now) stands.latest_is in
    let judged : IsJudged c.args.self.now.setup history (arrival c.args.bytes.now c.args.now) c.in-Ok.judged.tuple c.in-Ok.judged.answer =
    c.in-Ok.ensures.judged history c.args.now stands eff in
    let same : c.remember.new.self.setup ≡ c.args.self.now.setup = rw c.judge.ensures.same at c.in-Ok-remember.ensures.setup in
    let IsRecentBy : Stamp → Setup → Type 0 = λ stamp s. IsRecent (later_of (g.M.ReplayMemory.newest c.remember.new.self.memory) c.effective-now.result) s.skew stamp in
    after_advance _ _ c.args.self.now.setup c.advance-in-Ok-remember.new.self.setup history _ c.args.bytes.now c.args.now c.effective-now.result
    (g.M.ReplayMemory.has c.args.self.now.memory) (g.M.ReplayMemory.has c.remember.new.self.memory) (g.M.ReplayMemory.has c.advance-in-Ok-remember.new.self.memory)
    (g.M.ReplayMemory.newest c.args.self.now.memory) (g.M.ReplayMemory.newest c.remember.new.self.memory) (g.M.ReplayMemory.newest c.advance-in-Ok-remember.new.self.memory) _
    (after_answer history (arrival c.args.bytes.now c.args.now) c.in-Ok.judged.answer c.in-Ok.ensures.named) stands c.effective-now.ensures (rw c.judge.ensures.same at c.in-Ok-remember.ensures.newest) c.advance-in-Ok-remember.ensures.newest
    (c.advance-in-Ok-remember.ensures.setup ∙ same)
    (λ stamp had. elim (((rw c.judge.ensures.same at c.in-Ok-remember.ensures.ok) stamp).0 had) [
      | inl made ↦ inr (subst (λ (s : Stamp). Shows c.args.self.now.setup (effective history c.args.now) c.args.bytes.now s) (sym made) judged.shows)
      | inr had ↦ inl had
    ])
    (λ stamp either. ((rw c.judge.ensures.same at c.in-Ok-remember.ensures.ok) stamp).1 (elim either [
      | inl had ↦ inr had
      | inr shows ↦ inl (one_stamp c.facts.ensures c.args.self.now.setup history c.args.bytes.now c.args.now (effective history c.args.now) c.in-Ok.judged.tuple stamp judged.shows shows)
    ]))
    c.advance-in-Ok-remember.ensures.none_added
    (λ stamp had r. c.advance-in-Ok-remember.ensures.kept stamp had (subst (IsRecentBy stamp) (sym same) r)) c.advance-in-Ok-remember.ensures.keeps
    (λ forgetting stamp new. subst (IsRecentBy stamp) same (c.advance-in-Ok-remember.ensures.forgets forgetting stamp new))

pub returns-in-Ok-remember-clause-memory : goal.returns-in-Ok-remember-clause-memory
returns-in-Ok-remember-clause-memory g c = λ memory. c.in-Ok.ensures.asks

pub returns-in-Ok-remember-clause-unchanged : goal.returns-in-Ok-remember-clause-unchanged
returns-in-Ok-remember-clause-unchanged g c = λ memory. absurd (not_memory c.in-Ok.judged.answer c.in-Ok.ensures.named memory)

pub returns-in-Err-remember-clause-memory : goal.returns-in-Err-remember-clause-memory
returns-in-Err-remember-clause-memory g c = λ memory. c.in-Ok.ensures.asks

pub returns-in-Err-remember-clause-goes_on : goal.returns-in-Err-remember-clause-goes_on
returns-in-Err-remember-clause-goes_on g c = λ history stands. record {
  stands = subst (λ (s : Setup). StandsFor s (g.M.ReplayMemory.has c.remember.new.self.memory) (g.M.ReplayMemory.newest c.remember.new.self.memory) history)
      (sym (rw c.judge.ensures.same at c.in-Err-remember.ensures.setup))
      (stands_still c.args.self.now.setup history _ _ _ _ stands (rw c.judge.ensures.same at c.in-Err-remember.ensures.err) (rw c.judge.ensures.same at c.in-Err-remember.ensures.newest));
  keeps = λ keeping exact stamp. (λ new. (exact stamp).0 (((rw c.judge.ensures.same at c.in-Err-remember.ensures.err) stamp).0 new), λ shown. ((rw c.judge.ensures.same at c.in-Err-remember.ensures.err) stamp).1 ((exact stamp).1 shown));
  forgets = λ forgetting named. absurd (named refl);
}

pub returns-in-OutOfMemory-clause-limit : goal.returns-in-OutOfMemory-clause-limit
returns-in-OutOfMemory-clause-limit g c = rw c.judge.ensures.same (λ history stands. record {
  full = λ stamp past. ap Err (c.in-OutOfMemory.is);
  counted = inl refl;
})

pub returns-in-Err-clause-limit : goal.returns-in-Err-clause-limit
returns-in-Err-clause-limit g c = λ history stands.
    let named : _ = c.in_default.not-OutOfMemory in
    let eff : c.effective-now.result ≡ effective history c.args.now = c.effective-now.ensures ∙ ap (λ l. later_of l c.args.now) stands.latest_is in
    let turned : IsTurnedAway c.args.self.now.setup history (arrival c.args.bytes.now c.args.now) (g.M.ReplayMemory.has c.args.self.now.memory) c.in-Err.refusal =
    c.in-Err.ensures.judged history c.args.now stands eff named in
    record {
      full = λ stamp past. absurd (past.1.0 (turned.had stamp past.0));
      counted = inl (rw c.judge.ensures.same at c.advance.ensures.refusals);
    }

-- the moment that counts, as the memory has it
counted_at : (latest : Option ℤ) (history : List Arrival) (moment now : ℤ) → now ≡ later_of latest moment → latest ≡ greatest history
    → later_of latest now ≡ effective history moment
counted_at latest history moment now is same =
    ap (later_of latest) is ∙ (counts_once latest moment ∙ ap (λ (l : Option ℤ). later_of l moment) same)

pub returns-in-Ok-remember-clause-limit : goal.returns-in-Ok-remember-clause-limit
returns-in-Ok-remember-clause-limit g c = λ history stands.
    let eff : c.effective-now.result ≡ effective history c.args.now = c.effective-now.ensures ∙ ap (λ l. later_of l c.args.now) stands.latest_is in
    let judged : IsJudged c.args.self.now.setup history (arrival c.args.bytes.now c.args.now) c.in-Ok.judged.tuple c.in-Ok.judged.answer =
    c.in-Ok.ensures.judged history c.args.now stands eff in
    let IsPast : ℤ → Stamp → Type 0 = λ at one.
    IsPastLimit (g.M.ReplayMemory.has c.args.self.now.memory) (g.M.ReplayMemory.limits c.args.self.now.memory) c.args.self.now.setup at one in
    record {
      full = λ stamp past.
          let same : stamp ≡ c.in-Ok.judged.tuple =
          one_stamp c.facts.ensures c.args.self.now.setup history c.args.bytes.now c.args.now (effective history c.args.now) c.in-Ok.judged.tuple stamp judged.shows past.0 in
          let failed = ((rw c.judge.ensures.same at c.in-Ok-remember.ensures.heeds).full
          (subst (λ (at : ℤ). IsPast at c.in-Ok.judged.tuple) (sym (counted_at _ history c.args.now c.effective-now.result c.effective-now.ensures stands.latest_is))
          (subst (IsPast (effective history c.args.now)) same past.1))).0 in
          absurd (cc);
      counted = elim (rw c.judge.ensures.same at c.in-Ok-remember.ensures.heeds).counted [
        | inl e ↦ inl (c.advance-in-Ok-remember.ensures.refusals ∙ e)
        | inr h ↦ (let failed = h.0 in absurd (cc))
      ];
    }

pub returns-in-Err-remember-clause-limit : goal.returns-in-Err-remember-clause-limit
returns-in-Err-remember-clause-limit g c = λ history stands.
    let eff : c.effective-now.result ≡ effective history c.args.now = c.effective-now.ensures ∙ ap (λ l. later_of l c.args.now) stands.latest_is in
    let judged : IsJudged c.args.self.now.setup history (arrival c.args.bytes.now c.args.now) c.in-Ok.judged.tuple c.in-Ok.judged.answer =
    c.in-Ok.ensures.judged history c.args.now stands eff in
    let IsPast : ℤ → Stamp → Type 0 = λ at one.
    IsPastLimit (g.M.ReplayMemory.has c.args.self.now.memory) (g.M.ReplayMemory.limits c.args.self.now.memory) c.args.self.now.setup at one in
    let Counts : ℤ → Type 0 = λ at.
    CountsPastLimit (g.M.ReplayMemory.has c.args.self.now.memory) (g.M.ReplayMemory.limits c.args.self.now.memory) (g.M.ReplayMemory.refusals c.args.self.now.memory)
    (g.M.ReplayMemory.refusals c.remember.new.self.memory) c.args.self.now.setup at c.in-Ok.judged.tuple in
    record {
      full = λ stamp past. refl;
      counted = elim (rw c.judge.ensures.same at c.in-Err-remember.ensures.heeds).counted [
        | inl e ↦ inl e
        | inr h ↦ (let at : _ = counted_at _ history c.args.now c.effective-now.result c.effective-now.ensures stands.latest_is in inr (
          c.in-Ok.judged.tuple,
          (
            refl,
            (
              (judged.shows, subst (λ (at : ℤ). IsPast at c.in-Ok.judged.tuple) at h.1.0),
              subst Counts at h.1.1,
            ),
          ),
        ))
      ];
    }
