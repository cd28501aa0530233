-- Whether a file has room for lists of parts.
use Rattle.std.proofs.Common.{◌≡◌, ℕ, Bool, true, false, ◌+◌, ◌<◌, ◌≤◌, List, [], ◌∷◌, ◌++◌, length, get_or, take, sym, ap, subst, ◌∙◌, append-nil}
use Rattle.std.specs.Prelude.{All, MatchBool}
use Rattle.std.specs.List.{flat_map}
use Rattle.std.proofs.lemmas.List.{take_all, take_more}
use Rattle.std.proofs.lemmas.List.Concat.{flat_map-append}
use Rattle.std.proofs.lemmas.List.Elements.{All-more}

-- what holds of each before holds of one more, too
pub one_more : {X : Type 0} (P : X → Type 0) (xs : List X) (i : ℕ) (x : X) → All P (take i xs) → i < length xs → x ≡ get_or xs i x → P x → All P (take (i + 1) xs)
one_more P xs i x all lt e p = All-more P xs i x lt all (subst P e p)

pub all_seen : {X : Type 0} (P : X → Type 0) (xs : List X) (i : ℕ) → All P (take i xs) → length xs ≤ i → All P xs
all_seen P xs i all le = subst (All P) (take_all i xs le) all

-- one more is spelled after those before
pub spelled_more : {X : Type 0} (spelled : X → List ℕ) (xs : List X) (i : ℕ) (x : X) → i < length xs → x ≡ get_or xs i x → flat_map spelled (take (i + 1) xs) ≡ flat_map spelled (take i xs) ++ spelled x
spelled_more {X = X} spelled xs i x lt e =
    ap (flat_map spelled) (take_more xs i x lt ∙ ap (λ (y : X). take i xs ++ y ∷ []) (sym e)) ∙ flat_map-append spelled (take i xs) (x ∷ []) ∙ ap (λ (t : List ℕ). flat_map spelled (take i xs) ++ t) (append-nil (spelled x))

-- a test of one thing is that of another
pub tested_as : (b : Bool) (P Q P' Q' : Type 0) → (P → P') → (Q' → Q) → MatchBool b P (¬ Q) → MatchBool b P' (¬ Q')
tested_as true P Q P' Q' f g p = f p
tested_as false P Q P' Q' f g lacks = λ q. lacks (g q)
