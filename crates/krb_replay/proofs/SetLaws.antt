-- Lists of stamps as sets.
use Rattle.std.proofs.Common.{◌≡◌, ◌≢◌, ◌⊎◌, inl, inr, zero, suc, Bool, List, [], ◌∷◌, ◌++◌, AllPairs, Contains, Decides, sym, ap, ◌∙◌, subst, arith}
use Rattle.std.specs.List.{IsAnyAnswer}
use Rattle.std.specs.Ordering.{eq_by_cmp, is_eq}
use Rattle.std.proofs.lemmas.Cmp.{tied_itself}
use Rattle.std.proofs.lemmas.List.Elements.{contains_decides, Decides-contains, Contains-get_or}
use Rattle.std.proofs.lemmas.List.Quantifiers.{all_pairs_push}
use Rattle.std.proofs.lemmas.Map.Views.{tells_apart}
use Rattle.krb_replay.specs.Stamp.{Stamp}
use Rattle.krb_replay.specs.Memory.{AddsStamp, SameStamps}
use Rattle.krb_replay.specs.Inner.Order.{stamp_cmp, stamp_total}
use Rattle.std.specs.Prelude.{Result, Ok, Err, OnErr}
use Rattle.krb_replay.proofs.DropLaws.{among_rest, first_or_rest}
use Rattle.krb_replay.proofs.OrderLaws.{exact_stamps}

pub same_decided : (one other : Stamp) → Decides (eq_by_cmp stamp_cmp one other) (one ≡ other)
same_decided one other = (
  tells_apart exact_stamps one other,
  λ e. ap (λ stamp. eq_by_cmp stamp_cmp stamp other) e ∙ ap is_eq (tied_itself stamp_total other),
)

-- what a walk over the stamps answers
pub found : (held stamps : List Stamp) (stamp : Stamp) (answer : Bool)
    → IsAnyAnswer (λ one b. eq_by_cmp stamp_cmp one stamp ≡ b) held answer → held ≡ stamps
    → Decides answer (Contains stamps stamp)
found held stamps stamp answer cases same =
    subst (λ list. Decides answer (Contains list stamp)) same
    (Decides-contains held stamp answer (contains_decides (eq_by_cmp stamp_cmp) same_decided held stamp answer cases))

pub adds_nothing : (stamps : List Stamp) (added : Stamp) → Contains stamps added
    → AddsStamp (Contains stamps) (Contains stamps) added
adds_nothing stamps added there stamp = (
  λ h. inr h,
  λ h. elim h [ inl e ↦ subst (λ one. Contains stamps one) (sym e) there | inr held ↦ held ],
)

pub once_pushed : (stamps : List Stamp) (added : Stamp) → AllPairs (λ one other. one ≢ other) stamps
    → (Contains stamps added → ⊥) → AllPairs (λ one other. one ≢ other) (stamps ++ added ∷ [])
once_pushed stamps added once absent =
    all_pairs_push (λ one other. one ≢ other) stamps added once
    (λ k d within same. absent (subst (λ one. Contains stamps one) same (Contains-get_or stamps k d within)))

from_pushed : (stamps : List Stamp) (added stamp : Stamp) → Contains (stamps ++ added ∷ []) stamp → (stamp ≡ added) ⊎ Contains stamps stamp
from_pushed [] added stamp (zero, within, is) = inl (sym is)
from_pushed [] added stamp (suc i, within, is) = absurd (omega arith)
from_pushed (x ∷ xs) added stamp there = elim (first_or_rest x (xs ++ added ∷ []) stamp there) [
  | inl same ↦ inr (zero, omega arith, same)
  | inr rest ↦ elim (from_pushed xs added stamp rest) [ inl one ↦ inl one | inr among ↦ inr (among_rest x xs stamp among) ]
]

into_pushed : (stamps : List Stamp) (added stamp : Stamp) → (stamp ≡ added) ⊎ Contains stamps stamp → Contains (stamps ++ added ∷ []) stamp
into_pushed [] added stamp (inl e) = (zero, omega arith, sym e)
into_pushed [] added stamp (inr (k, within, is)) = absurd (omega arith)
into_pushed (x ∷ xs) added stamp (inl e) = among_rest x (xs ++ added ∷ []) stamp (into_pushed xs added stamp (inl e))
into_pushed (x ∷ xs) added stamp (inr there) = elim (first_or_rest x xs stamp there) [
  | inl same ↦ (zero, omega arith, same)
  | inr rest ↦ among_rest x (xs ++ added ∷ []) stamp (into_pushed xs added stamp (inr rest))
]

-- a list with one more
pub pushed_adds : (held stamps new : List Stamp) (added : Stamp) → held ≡ stamps → new ≡ held ++ added ∷ [] → AddsStamp (Contains stamps) (Contains new) added
pushed_adds held stamps new added same is =
    subst (λ (list : List Stamp). AddsStamp (Contains list) (Contains new) added) same
    (subst (λ (list : List Stamp). AddsStamp (Contains held) (Contains list) added) (sym is)
    (λ stamp. (from_pushed held added stamp, into_pushed held added stamp)))

-- the same list, whatever was answered
pub still_same : {T E : Type 0} (held stamps new : List Stamp) (answer : Result T E) → held ≡ stamps → new ≡ held → OnErr answer (SameStamps (Contains stamps) (Contains new))
still_same held stamps new (Ok x) same is = tt
still_same held stamps new (Err e) same is = λ stamp. (
  λ there. subst (λ (list : List Stamp). Contains list stamp) (is ∙ same) there,
  λ there. subst (λ (list : List Stamp). Contains list stamp) (sym (is ∙ same)) there,
)
