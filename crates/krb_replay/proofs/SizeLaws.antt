-- Lists that have the same stamps, each once, are equally long.
use Rattle.std.proofs.Common.{◌≡◌, ◌≢◌, inl, inr, ℕ, zero, suc, ◌≤◌, List, [], ◌∷◌, length, AllPairs, Contains, refl, sym, ◌∙◌, arith, IsPermutation, remove}
use Rattle.std.proofs.lemmas.List.Sorted.{IsPermutation-remove, Contains-permutation, length_permutation}
use Rattle.krb_replay.specs.Stamp.{Stamp}
use Rattle.krb_replay.specs.Memory.{IsSizeOf}
use Rattle.krb_replay.proofs.DropLaws.{first_or_rest, among_rest}

abbrev pub AreOnce : List Stamp → Type 0
AreOnce stamps = AllPairs (λ one other. one ≢ other) stamps

pub once_rest : (first : Stamp) (rest : List Stamp) → AreOnce (first ∷ rest) → AreOnce rest
once_rest first rest once i j d below within = once (suc i) (suc j) d (omega arith) (omega arith)

pub first_apart : (first : Stamp) (rest : List Stamp) (stamp : Stamp) → AreOnce (first ∷ rest) → Contains rest stamp → first ≢ stamp
first_apart first rest stamp once (k, within, is) same = once zero (suc k) stamp (omega arith) (omega arith) (same ∙ sym is)

pub no_longer : (one other : List Stamp) → AreOnce one → ((stamp : Stamp) → Contains one stamp → Contains other stamp)
    → length one ≤ length other
no_longer [] other once among = omega arith
no_longer (first ∷ rest) other once among =
    let there = among first (zero, omega arith, refl) in
    let places : IsPermutation other (first ∷ remove other there.0) = IsPermutation-remove other there.0 first there.1 (sym there.2) in
    let still : (stamp : Stamp) → Contains rest stamp → Contains (remove other there.0) stamp = λ stamp held.
    elim (first_or_rest first (remove other there.0) stamp (Contains-permutation other (first ∷ remove other there.0) stamp places (among stamp (among_rest first rest stamp held)))) [
      | inl same ↦ absurd (first_apart first rest stamp once held same)
      | inr there ↦ there
    ] in
    let shorter : length rest ≤ length (remove other there.0) = no_longer rest (remove other there.0) (once_rest first rest once) still in
    let lengths = length_permutation other (first ∷ remove other there.0) places in
    omega arith

pub one_size : (stamps : List Stamp) (one other : ℕ) → IsSizeOf (Contains stamps) one → IsSizeOf (Contains stamps) other → one ≡ other
one_size stamps one other first second =
    let up = no_longer first.stamps second.stamps first.once (λ stamp there. (second.members stamp).1 ((first.members stamp).0 there)) in
    let down = no_longer second.stamps first.stamps second.once (λ stamp there. (first.members stamp).1 ((second.members stamp).0 there)) in
    let one_is : length first.stamps ≡ one = first.size_is in
    let other_is : length second.stamps ≡ other = second.size_is in
    omega arith
