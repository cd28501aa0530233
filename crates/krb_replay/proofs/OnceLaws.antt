-- No stamp is held twice: by how often each is there, and by places.
use Rattle.std.proofs.Common.{◌≡◌, ◌≢◌, zero, suc, ◌+◌, ◌≤◌, Bool, true, false, List, [], ◌∷◌, length, get_or, All, Contains, refl, sym, ap, subst, ◌∙◌, arith}
use Rattle.std.specs.List.{filter}
use Rattle.std.specs.List.Sorted.{IsPermutation}
use Rattle.std.specs.Ordering.{eq_by_cmp, is_eq}
use Rattle.std.proofs.lemmas.Cmp.{tied_itself}
use Rattle.std.proofs.lemmas.List.Elements.{Contains-get_or}
use Rattle.std.proofs.lemmas.Map.Views.{tells_apart}
use Rattle.krb_replay.specs.Stamp.{Stamp}
use Rattle.krb_replay.specs.Inner.Held.{IsOnce}
use Rattle.krb_replay.specs.Inner.Order.{stamp_cmp, stamp_total}
use Rattle.krb_replay.proofs.HeldLaws.{drop_all, filter_longer, weighed}
use Rattle.krb_replay.proofs.OrderLaws.{exact_stamps}
use Rattle.krb_replay.proofs.SizeLaws.{AreOnce}
use Rattle.krb_replay.proofs.TimesLaws.{one_more}

abbrev is : Stamp → Stamp → Bool
is stamp one = eq_by_cmp stamp_cmp one stamp

own : (stamp : Stamp) → is stamp stamp ≡ true
own stamp = ap is_eq (tied_itself stamp_total stamp)

some_there : (stamp : Stamp) (stamps : List Stamp) → Contains stamps stamp → 1 ≤ length (filter (is stamp) stamps)
some_there stamp [] there = absurd (let within = there.1 in omega arith)
some_there stamp (x ∷ xs) (zero, within, same) =
    let longer = filter_longer (is stamp) x xs in
    let one : weighed (is stamp x) ≡ 1 = ap (λ (s : Stamp). weighed (is stamp s)) same ∙ ap (λ (b : Bool). weighed b) (own stamp) in
    omega arith
some_there stamp (x ∷ xs) (suc k, within, same) =
    let longer = filter_longer (is stamp) x xs in
    let rest = some_there stamp xs (k, omega arith, same) in
    omega arith

pub once_rest_counts : (first : Stamp) (rest : List Stamp) → IsOnce (first ∷ rest) → IsOnce rest
once_rest_counts first rest once stamp =
    let longer = filter_longer (is stamp) first rest in
    let few = once stamp in
    omega arith

pub once_cons : (first : Stamp) (rest : List Stamp) → ((stamp : Stamp) → Contains rest stamp → first ≢ stamp) → AreOnce rest → AreOnce (first ∷ rest)
once_cons first rest apart once zero zero d below within same = absurd (omega arith)
once_cons first rest apart once (suc i) zero d below within same = absurd (omega arith)
once_cons first rest apart once zero (suc j) d below within same = apart (get_or rest j d) (Contains-get_or rest j d (omega arith)) same
once_cons first rest apart once (suc i) (suc j) d below within same = once i j d (omega arith) (omega arith) same

pub once_from_counts : (stamps : List Stamp) → IsOnce stamps → AreOnce stamps
once_from_counts [] once = λ i j d below within. absurd (omega arith)
once_from_counts (first ∷ rest) once =
    once_cons first rest
    (λ stamp there same.
    let longer = filter_longer (is stamp) first rest in
    let one : weighed (is stamp first) ≡ 1 = ap (λ (s : Stamp). weighed (is stamp s)) same ∙ ap (λ (b : Bool). weighed b) (own stamp) in
    let more = some_there stamp rest there in
    let few = once stamp in
    absurd (omega arith))
    (once_from_counts rest (once_rest_counts first rest once))

apart_by : (b : Bool) (stamp one : Stamp) → is stamp one ≡ b → (one ≡ stamp → ⊥) → is stamp one ≡ false
apart_by true stamp one e apart = absurd (apart (tells_apart exact_stamps one stamp e))
apart_by false stamp one e apart = e

none_there : (stamp : Stamp) (stamps : List Stamp) → (Contains stamps stamp → ⊥) → All (λ one. is stamp one ≡ false) stamps
none_there stamp stamps absent k d within =
    apart_by (is stamp (get_or stamps k d)) stamp (get_or stamps k d) refl (λ same. absent (subst (λ one. Contains stamps one) same (Contains-get_or stamps k d within)))

one_at_most : (b : Bool) (added stamp : Stamp) (stamps : List Stamp) → is stamp added ≡ b → IsOnce stamps → (Contains stamps added → ⊥)
    → weighed (is stamp added) + length (filter (is stamp) stamps) ≤ 1
one_at_most true added stamp stamps e once absent =
    let same : added ≡ stamp = tells_apart exact_stamps added stamp e in
    let none : length (filter (is stamp) stamps) ≡ 0 =
    ap (λ (xs : List Stamp). length xs) (drop_all (is stamp) stamps (none_there stamp stamps (λ there. absent (subst (λ one. Contains stamps one) (sym same) there)))) in
    let one : weighed (is stamp added) ≡ 1 = ap (λ (b : Bool). weighed b) e in
    omega arith
one_at_most false added stamp stamps e once absent =
    let none : weighed (is stamp added) ≡ 0 = ap (λ (b : Bool). weighed b) e in
    let few = once stamp in
    omega arith

-- one more that wasn't there
pub once_more : (old new : List Stamp) (added : Stamp) → IsOnce old → (Contains old added → ⊥) → IsPermutation (added ∷ old) new → IsOnce new
once_more old new added once absent moved stamp =
    let more = one_more (is stamp) added old new moved in
    let few = one_at_most (is stamp added) added stamp old refl once absent in
    omega arith

pub once_none : (stamps : List Stamp) → stamps ≡ [] → IsOnce stamps
once_none stamps none stamp =
    let few = ap (λ (list : List Stamp). length (filter (is stamp) list)) none in
    omega arith
