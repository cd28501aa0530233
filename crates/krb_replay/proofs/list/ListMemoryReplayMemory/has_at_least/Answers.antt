use Rattle.std.proofs.Common.{◌≡◌, ◌∙◌, ◌≤◌, ◌≢◌, ℕ, ℤ, List, Option, AllPairs, ap, sym, subst, arith, to_z, of_z}
use Rattle.std.specs.Int.{w64}
use Rattle.std.specs.Option.{option_map}
use Rattle.std.proofs.lemmas.Int.{ints}
use Rattle.std.proofs.lemmas.Bool.{leb-true, le-leb}
use Rattle.krb_replay.specs.Stamp.{RealmAndName, Stamp}
use Rattle.krb_replay.specs.Inner.Held.{number_of, since}
use Rattle.krb_replay.proofs.TimedLaws.{decided}
use Rattle.krb_replay.proofs.list.ListMemoryReplayMemory.has_at_least.Goals as goal

pub returns : goal.returns
returns c =
    let client : Option RealmAndName = option_map (λ tuple. tuple.now.client) c.args.client_of in
    let o : to_z w64 (of_z w64 c.args.oldest) ≡ c.args.oldest = omega (arith, ints) in
    let stamps : c.as_slice.result.now ≡ c.args.self.now.stamps = c.as_slice.ensures.value ∙ ap (λ memory. memory.stamps) c.self.view_is in
    let number : c.number_since.result ≡ number_of client (since c.args.oldest c.args.self.now.stamps) =
    c.number_since.ensures ∙ (ap (λ (oldest : ℤ). number_of client (since oldest c.as_slice.result.now)) o
    ∙ ap (λ (list : List Stamp). number_of client (since c.args.oldest list)) stamps) in
    decided client c.args.oldest c.args.self.now.stamps c.args.count _
    (subst (λ (list : List Stamp). AllPairs (λ one other. one ≢ other) list) (ap (λ memory. memory.stamps) c.self.view_is) c.self.invariant)
    ((λ yes. subst (λ (n : ℕ). c.args.count ≤ n) number (leb-true _ _ yes)), (λ enough. le-leb _ _ (subst (λ (n : ℕ). c.args.count ≤ n) (sym number) enough)))
