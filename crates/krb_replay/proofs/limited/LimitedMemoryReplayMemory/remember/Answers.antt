use Rattle.std.proofs.Common.{◌≡◌, ◌⊎◌, ◌∷◌, ℤ, subst, sym}
use Rattle.std.specs.Prelude.{IsErr, OnErr, OnOk}
use Rattle.krb_replay.specs.Limit.{CountsFirst, CountsOne, IsFull, IsPastAny, Reaches, limits_of}
use Rattle.krb_replay.specs.Memory.{AddsStamp, SameStamps}
use Rattle.krb_replay.proofs.LimitLaws.{counted_within, first_within, full_within}
use Rattle.krb_replay.proofs.limited.LimitedMemoryReplayMemory.remember.Goals as goal

pub returns-clause-ok : goal.returns-clause-ok
returns-clause-ok g c =
    subst (λ limited. OnOk c.remember.result (AddsStamp (g.M.ReplayMemory.has limited.memory) (g.M.ReplayMemory.has c.remember.new.self) c.args.tuple))
    c.self.view_is c.remember.ensures.ok

pub returns-clause-err : goal.returns-clause-err
returns-clause-err g c =
    subst (λ limited. OnErr c.remember.result (SameStamps (g.M.ReplayMemory.has limited.memory) (g.M.ReplayMemory.has c.remember.new.self)))
    c.self.view_is c.remember.ensures.err

pub returns-clause-full_any : goal.returns-clause-full_any
returns-clause-full_any g c =
    subst (λ limited. (IsFull g.M.ReplayMemory.has limited c.args.tuple → ⊥) → (oldest : ℤ)
    → (limited.oldest ≡ oldest) × g.M.ReplayMemory.counts_since limited.memory oldest
    → IsPastAny (g.M.ReplayMemory.has limited.memory) oldest c.args.tuple (limits_of limited ∷ g.M.ReplayMemory.limits limited.memory)
    → IsErr c.remember.result × CountsOne (limited.refused ∷ g.M.ReplayMemory.refusals limited.memory) (c.self.inside.refused ∷ g.M.ReplayMemory.refusals c.remember.new.self))
    c.self.view_is
    (λ room oldest counts past.
    full_within (g.M.ReplayMemory.has c.self.inside.memory) oldest c.args.tuple (record { all = c.self.inside.limit; of_client = c.self.inside.limit_for_client })
    (g.M.ReplayMemory.limits c.self.inside.memory) c.self.inside.refused (g.M.ReplayMemory.refusals c.self.inside.memory) (g.M.ReplayMemory.refusals c.remember.new.self)
    (IsErr c.remember.result)
    (λ full. room (full.0, subst (λ (since : ℤ). Reaches (g.M.ReplayMemory.has c.self.inside.memory) since c.args.tuple (record { all = c.self.inside.limit; of_client = c.self.inside.limit_for_client })) (sym counts.0) full.1))
    (c.remember.ensures.full oldest counts.1) past)
    (λ full. let yes = c.is_full.ensures.1 full in let no = c.if-is_full.false in absurd (cc))

pub returns-clause-first_any : goal.returns-clause-first_any
returns-clause-first_any g c =
    subst (λ limited. (IsFull g.M.ReplayMemory.has limited c.args.tuple → ⊥) → (oldest : ℤ)
    → (limited.oldest ≡ oldest) × g.M.ReplayMemory.counts_since limited.memory oldest
    → IsPastAny (g.M.ReplayMemory.has limited.memory) oldest c.args.tuple (limits_of limited ∷ g.M.ReplayMemory.limits limited.memory)
    → CountsFirst (g.M.ReplayMemory.has limited.memory) oldest c.args.tuple (limits_of limited ∷ g.M.ReplayMemory.limits limited.memory)
    (limited.refused ∷ g.M.ReplayMemory.refusals limited.memory) (c.self.inside.refused ∷ g.M.ReplayMemory.refusals c.remember.new.self))
    c.self.view_is
    (λ room oldest counts past.
    first_within (g.M.ReplayMemory.has c.self.inside.memory) oldest c.args.tuple (record { all = c.self.inside.limit; of_client = c.self.inside.limit_for_client })
    (g.M.ReplayMemory.limits c.self.inside.memory) c.self.inside.refused (g.M.ReplayMemory.refusals c.self.inside.memory) (g.M.ReplayMemory.refusals c.remember.new.self)
    (IsErr c.remember.result)
    (λ full. room (full.0, subst (λ (since : ℤ). Reaches (g.M.ReplayMemory.has c.self.inside.memory) since c.args.tuple (record { all = c.self.inside.limit; of_client = c.self.inside.limit_for_client })) (sym counts.0) full.1))
    (c.remember.ensures.first oldest counts.1) past)
    (λ full. let yes = c.is_full.ensures.1 full in let no = c.if-is_full.false in absurd (cc))

pub returns-clause-room_any : goal.returns-clause-room_any
returns-clause-room_any g c =
    subst (λ limited. (oldest : ℤ) → (limited.oldest ≡ oldest) × g.M.ReplayMemory.counts_since limited.memory oldest
    → ((c.self.inside.refused ∷ g.M.ReplayMemory.refusals c.remember.new.self) ≡ (limited.refused ∷ g.M.ReplayMemory.refusals limited.memory))
    ⊎ (CountsOne (limited.refused ∷ g.M.ReplayMemory.refusals limited.memory) (c.self.inside.refused ∷ g.M.ReplayMemory.refusals c.remember.new.self)
    × (IsErr c.remember.result × IsPastAny (g.M.ReplayMemory.has limited.memory) oldest c.args.tuple (limits_of limited ∷ g.M.ReplayMemory.limits limited.memory))))
    c.self.view_is
    (λ oldest counts.
    counted_within (g.M.ReplayMemory.has c.self.inside.memory) oldest c.args.tuple (record { all = c.self.inside.limit; of_client = c.self.inside.limit_for_client })
    (g.M.ReplayMemory.limits c.self.inside.memory) c.self.inside.refused (g.M.ReplayMemory.refusals c.self.inside.memory) (g.M.ReplayMemory.refusals c.remember.new.self)
    (IsErr c.remember.result) (c.remember.ensures.refused oldest counts.1))
