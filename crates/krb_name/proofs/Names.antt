-- What a test of two names means, and that the same names have the same hash.
use Rattle.std.proofs.Common.{◌≡◌, ℕ, ◌%◌, ◌^◌, eqb, List, Decides, refl, ap, ◌∙◌}
use Rattle.std.specs.List.{fold}
use Rattle.std.specs.Hash.FoldHasher.{initial, write, finish}
use Rattle.std.specs.Cmp.Lexicographic.{pointwise}
use Rattle.std.proofs.lemmas.Slice.Eq.{slice_eq-Decides}
use Rattle.std.proofs.lemmas.Bool.Decides.{Decides-eqb}
use Rattle.krb_name.specs.declared.principal.Principal.{Principal}
use Rattle.krb_name.specs.Name.{SameName, name_hash}

pub bytes_decided : (xs ys : List ℕ) → Decides (pointwise eqb xs ys) (xs ≡ ys)
bytes_decided xs ys = slice_eq-Decides Decides-eqb xs ys _ refl

pub components_decided : (xs ys : List (List ℕ)) → Decides (pointwise (pointwise eqb) xs ys) (xs ≡ ys)
components_decided xs ys = slice_eq-Decides bytes_decided xs ys _ refl

pub same_hash : (one other : Principal) → SameName one other → name_hash one ≡ name_hash other
unfolding name_hash
same_hash one other same =
    ap (λ (realm : List ℕ). finish (fold write (write initial realm) one.components) % 2 ^ 32) same.realm
    ∙ ap (λ (components : List (List ℕ)). finish (fold write (write initial other.realm) components) % 2 ^ 32) same.components
