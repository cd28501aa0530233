use Rattle.std.proofs.Common.{◌≡◌, ◌∙◌, ◌++◌, ◌<◌, ℕ, suc, add-one, ap, drop, length, set, sym, subst}
use Rattle.std.specs.List.{insert}
use Rattle.std.proofs.lemmas.List.{take-append-drop}
use Rattle.krb_tally.specs.Inner.Buckets.{Halves, all_of}
use Rattle.krb_tally.proofs.TallyLaws.{halved, halves}
use Rattle.krb_tally.proofs.tally.split.Goals as goal

pub returns-clause-same : goal.returns-clause-same
returns-clause-same g c =
    let both : c.index_mut.result.now ≡ c.split.new.self ++ c.in_ok-upper.upper =
    sym (take-append-drop 512 c.index_mut.result.now)
    ∙ (ap (λ low. low ++ drop 512 c.index_mut.result.now) (sym c.in_ok-upper.ensures.lower) ∙ ap (λ up. c.split.new.self ++ up) (sym c.in_ok-upper.ensures.upper)) in
    ap (λ buckets. all_of buckets) c.in_ok-insert.ensures.items
    ∙ (ap (λ (n : ℕ). all_of (insert (set c.reserve.new.self.items c.args.bucket c.split.new.self) n c.in_ok-upper.upper)) (add-one c.args.bucket)
    ∙ (halved c.reserve.new.self.items c.args.bucket c.split.new.self c.in_ok-upper.upper c.index_mut.result.now
    (subst (λ buckets. c.args.bucket < length buckets) (sym c.reserve.ensures.items) c.requires.within) c.index_mut.ensures.value both
    ∙ ap (λ buckets. all_of buckets) c.reserve.ensures.items))

pub returns-clause-halves : goal.returns-clause-halves
returns-clause-halves g c =
    subst (λ new. Halves c.args.buckets.now.items c.args.bucket new)
    (sym (c.in_ok-insert.ensures.items
    ∙ (ap (λ (n : ℕ). insert (set c.reserve.new.self.items c.args.bucket c.split.new.self) n c.in_ok-upper.upper) (add-one c.args.bucket)
    ∙ ap (λ buckets. insert (set buckets c.args.bucket c.split.new.self) (suc c.args.bucket) c.in_ok-upper.upper) c.reserve.ensures.items)))
    (halves c.args.buckets.now.items c.args.bucket c.split.new.self c.in_ok-upper.upper c.requires.within c.in_ok-upper.ensures.lower_room c.in_ok-upper.ensures.upper_room)
