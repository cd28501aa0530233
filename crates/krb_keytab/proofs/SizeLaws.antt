-- Sizes of names, one after another.
use Rattle.std.proofs.Common.{◌≡◌, ℕ, ◌+◌, ◌*◌, ◌<◌, ◌≤◌, ◌^◌, List, length, take, get_or, max, arith, subst, sym, Some}
use Rattle.std.specs.Prelude.{All, sum_by}
use Rattle.std.proofs.lemmas.List.{take_more}
use Rattle.std.proofs.lemmas.List.Elements.{All-more, All-pop}
use Rattle.std.proofs.lemmas.List.Sums.{sum_by-le}
use Rattle.krb_keytab.specs.Entry.{KeytabEntry}
use Rattle.krb_keytab.specs.Size.{name_size, IsLargestSize}

-- what is counted of a component
abbrev pub part : List ℕ → ℕ
part component = length component + 1

pub all_fit : (xs : List (List ℕ)) → length xs < 2 ^ 16 → All (λ component. length component < 2 ^ 16) xs → sum_by part xs ≤ 2 ^ 32
all_fit xs few short =
    let all : sum_by part xs ≤ length xs * 2 ^ 16 = sum_by-le part (2 ^ 16) xs (λ k d at. omega (arith, short k d at)) in
    omega arith

-- the largest of one entry more
pub largest_more : (xs : List KeytabEntry) (i : ℕ) (e : KeytabEntry) (most size made : ℕ) → i < length xs → e ≡ get_or xs i e
    → IsLargestSize (take i xs) most → size ≡ name_size e.principal → made ≡ max size most → IsLargestSize (take (i + 1) xs) made
largest_more xs i e most size made lt is now size_is made_is = record {
  within = All-more (λ one. name_size one.principal ≤ made) xs i e lt (λ k d at. omega (arith, now.within k d at))
      (subst (λ (one : KeytabEntry). name_size one.principal ≤ made) is (omega (arith, size_is, made_is)));
  least = λ other h.
      let both = All-pop (λ one. name_size one.principal ≤ other) (take (i + 1) xs) (take i xs) (Some (get_or xs i e)) (take_more xs i e lt) h in
      let last : name_size e.principal ≤ other = subst (λ (one : KeytabEntry). name_size one.principal ≤ other) (sym is) both.1 in
      let before : most ≤ other = now.least other both.0 in
      omega (arith, size_is, made_is);
}
