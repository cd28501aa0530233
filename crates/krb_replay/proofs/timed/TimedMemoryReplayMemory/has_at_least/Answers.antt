use Rattle.std.proofs.Common.{◌≡◌, ◌∙◌, ◌≤◌, ℕ, ℤ, List, Option, ap, sym, subst, arith, to_z, of_z, not}
use Rattle.std.specs.Int.{w64}
use Rattle.std.specs.Option.{option_map}
use Rattle.std.proofs.lemmas.Int.{ints}
use Rattle.krb_replay.specs.Stamp.{RealmAndName, Stamp}
use Rattle.krb_replay.specs.Inner.Held.{IsLater, is_before, number_of, since}
use Rattle.krb_replay.proofs.OnceLaws.{once_from_counts}
use Rattle.krb_replay.proofs.SizeLaws.{AreOnce}
use Rattle.krb_replay.proofs.TimedLaws.{decided, once_kept, since_later}
use Rattle.krb_replay.proofs.timed.TimedMemoryReplayMemory.has_at_least.Goals as goal

pub returns : goal.returns
returns c =
    let client : Option RealmAndName = option_map (λ tuple. tuple.now.client) c.args.client_of in
    let stamps : since c.self.inside.oldest c.self.inside.held ≡ c.args.self.now.stamps = ap (λ memory. memory.stamps) c.self.view_is in
    let r : to_z w64 (of_z w64 c.later_moment.result) ≡ c.later_moment.result = omega (arith, ints) in
    let o : to_z w64 (of_z w64 c.self.inside.oldest) ≡ c.self.inside.oldest = omega (arith, ints) in
    let a : to_z w64 (of_z w64 c.args.oldest) ≡ c.args.oldest = omega (arith, ints) in
    let later : IsLater c.self.inside.oldest c.args.oldest c.later_moment.result =
    subst (λ (one : ℤ). IsLater one c.args.oldest c.later_moment.result) o
    (subst (λ (other : ℤ). IsLater (to_z w64 (of_z w64 c.self.inside.oldest)) other c.later_moment.result) a c.later_moment.ensures) in
    let both : since (to_z w64 (of_z w64 c.later_moment.result)) c.self.inside.held ≡ since c.args.oldest c.args.self.now.stamps =
    ap (λ (moment : ℤ). since moment c.self.inside.held) r
    ∙ (sym (since_later c.self.inside.oldest c.args.oldest c.later_moment.result c.self.inside.held later)
    ∙ ap (λ (list : List Stamp). since c.args.oldest list) stamps) in
    let number = ap (λ (list : List Stamp). number_of client list) both in
    let enough = c.has_at_least.ensures.enough in
    decided client c.args.oldest c.args.self.now.stamps c.args.count c.has_at_least.result
    (subst (λ (list : List Stamp). AreOnce list) stamps
    (once_kept (λ stamp. not (is_before c.self.inside.oldest stamp)) c.self.inside.held (once_from_counts c.self.inside.held c.has_at_least.ensures.once)))
    ((λ yes. subst (λ (n : ℕ). c.args.count ≤ n) number (enough.0 yes)), (λ fits. enough.1 (subst (λ (n : ℕ). c.args.count ≤ n) (sym number) fits)))
