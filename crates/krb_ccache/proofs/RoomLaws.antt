-- How long the parts of a cache are.
use Rattle.std.proofs.Common.{◌≡◌, ℕ, ◌+◌, ◌-◌, ◌<◌, ◌≤◌, List, ◌++◌, length, get_or, take, drop, Bool, true, false, refl, sym, ap, ◌∙◌, arith}
use Rattle.std.specs.List.{flat_map}
use Rattle.std.proofs.lemmas.List.{length-append, take_all, take-append-drop}
use Rattle.std.proofs.lemmas.List.Concat.{flat_map-append}
use Rattle.krb_ccache.specs.Spelling.{flag_bytes}
use Rattle.krb_ccache.proofs.FitsLaws.{spelled_more}

pub length-flag : (flag : Bool) → length (flag_bytes flag) ≡ 1
length-flag true = refl
length-flag false = refl

-- one thing more, in a list that is walked
pub length-more : {X : Type 0} (spelled : X → List ℕ) (xs : List X) (i : ℕ) (x : X) → i < length xs → x ≡ get_or xs i x
    → length (flat_map spelled (take (i + 1) xs)) ≡ length (flat_map spelled (take i xs)) + length (spelled x)
length-more {X} spelled xs i x lt is = ap length (spelled_more spelled xs i x lt is) ∙ length-append (flat_map spelled (take i xs)) (spelled x)

front_within : {X : Type 0} (spelled : X → List ℕ) (xs : List X) (i : ℕ) → length (flat_map spelled (take i xs)) ≤ length (flat_map spelled xs)
front_within {X} spelled xs i =
    let parts : flat_map spelled xs ≡ flat_map spelled (take i xs) ++ flat_map spelled (drop i xs) =
    ap (flat_map spelled) (sym (take-append-drop i xs)) ∙ flat_map-append spelled (take i xs) (drop i xs) in
    omega (arith, ap length parts, length-append (flat_map spelled (take i xs)) (flat_map spelled (drop i xs)))

-- what is left once so many things are walked
abbrev pub IsLeft : {X : Type 0} → (X → List ℕ) → List X → ℕ → ℕ → ℕ → Type 0
IsLeft {X} spelled xs left i rest = rest + length (flat_map spelled (take i xs)) ≡ left

pub goes_on : {X : Type 0} (spelled : X → List ℕ) (xs : List X) (left i rest next : ℕ) (x : X) → i < length xs → x ≡ get_or xs i x → IsLeft spelled xs left i rest → next + length (spelled x) ≡ rest → IsLeft spelled xs left (i + 1) next
goes_on {X} spelled xs left i rest next x lt is so_far e = omega (arith, length-more spelled xs i x lt is, so_far, e)

pub runs_out : {X : Type 0} (spelled : X → List ℕ) (xs : List X) (left i rest : ℕ) (x : X) → i < length xs → x ≡ get_or xs i x → IsLeft spelled xs left i rest → (length (spelled x) ≤ rest → ⊥)
    → length (flat_map spelled xs) ≤ left → ⊥
runs_out {X} spelled xs left i rest x lt is so_far never fits =
    never (omega (arith, length-more spelled xs i x lt is, front_within spelled xs (i + 1), so_far, fits))

pub walked : {X : Type 0} (spelled : X → List ℕ) (xs : List X) (left i rest : ℕ) → length xs ≤ i → IsLeft spelled xs left i rest
    → (length (flat_map spelled xs) ≤ left) × (rest ≡ left - length (flat_map spelled xs))
walked {X} spelled xs left i rest past so_far =
    let whole : length (flat_map spelled (take i xs)) ≡ length (flat_map spelled xs) = ap (λ (t : List X). length (flat_map spelled t)) (take_all i xs past) in
    (omega (arith, whole, so_far), omega (arith, whole, so_far))

pub ruleset sizes = (length-flag, length-append)
