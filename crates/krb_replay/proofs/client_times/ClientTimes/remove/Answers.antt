use Rattle.std.proofs.Common.{◌≡◌, ◌∙◌, ℤ, None, List, [], ◌∷◌, ap, arith, of_z, refl, subst, sym, to_z}
use Rattle.std.specs.Int.{w64}
use Rattle.std.proofs.lemmas.Int.{ints}
use Rattle.std.specs.List.Sorted.{IsPermutation}
use Rattle.std.proofs.lemmas.List.Sorted.{IsPermutation-refl}
use Rattle.krb_replay.specs.Inner.Order.{client_cmp, client_total}
use Rattle.krb_replay.proofs.TimesLaws.{less_then_same, less_times, none_is_not_empty, removed_keeps, same_then_less, same_times}
use Rattle.krb_replay.proofs.client_times.ClientTimes.remove.Goals as goal

pub returns : goal.returns
returns c =
    let kept = c.remove_from_several.new.self.times in
    let stays = c.if-remove_from_several.false in
    let t : to_z w64 (of_z w64 c.args.time) ≡ c.args.time = omega (arith, ints) in
    let only = c.remove_from_several.ensures.only stays ∙ ap (λ (time : ℤ). time ∷ []) t in
    same_then_less client_cmp c.args.self.now.times kept c.free_if_empty.new.self.times c.args.client.now c.args.time (c.remove_from_several.ensures.kept stays)
    (less_then_same client_cmp kept c.remove_entry.new.self c.free_if_empty.new.self.times c.args.client.now c.args.time
    (less_times client_cmp client_total kept c.remove_entry.new.self c.args.client.now None c.args.time c.remove_entry.ensures.updates
    (subst (λ (times : List ℤ). IsPermutation times (c.args.time ∷ [])) (sym only) (IsPermutation-refl (c.args.time ∷ [])))
    (none_is_not_empty None refl)
    (removed_keeps client_cmp client_total kept c.remove_entry.new.self c.args.client.now c.remove_entry.ensures.updates c.remove_entry.ensures.entries))
    (same_times client_cmp c.remove_entry.new.self c.free_if_empty.new.self.times c.free_if_empty.ensures))
