-- What `retain` keeps, if the test compares a name.
use Rattle.std.proofs.Common.{◌≡◌, ℕ, ◌≤◌, min, inl, inr, refl, sym, ap, ◌∙◌, subst, arith, Bool, true, false, List, [], ◌∷◌, length, map, replicate}
use Rattle.std.specs.Prelude.{All, IsTrue, ◌↔◌}
use Rattle.std.specs.List.{items_where_true}
use Rattle.std.specs.List.Retain.{IsFiltered, ReturnsInTurn}
use Rattle.std.proofs.lemmas.List.{length-map}
use Rattle.std.proofs.lemmas.List.Elements.{All-head, All-tail}
use Rattle.krb_name.specs.declared.principal.Principal.{Principal}
use Rattle.krb_name.specs.Name.{SameName, name_hash}
use Rattle.krb_name.specs.Named.{KeepsNamed}
use Rattle.krb_name.proofs.Names.{same_hash}

module _ {X : Type 0} (name_of : X → Principal) (name : Principal) where
  module _ {F : Type 0} (R : F → X → Bool → F → Type 0) (f : F) (h : (x : X) (b : Bool) (f' : F) → R f x b f' → (IsTrue b ↔ SameName (name_of x) name) × (f' ≡ f)) where
    kept_in_turn : (bs : List Bool) (xs : List X) (q : F) → length bs ≡ length xs → ReturnsInTurn R f bs xs q → KeepsNamed name_of name xs (items_where_true bs xs)
    kept_in_turn [] [] q e t = refl
    kept_in_turn [] (x ∷ xs) q e t = absurd (omega arith)
    kept_in_turn (b ∷ bs) [] q e t = absurd t
    kept_in_turn (true ∷ bs) (x ∷ xs) q e t =
        let one = h x true t.0 t.1 in
        inl (one.0.0 refl, (items_where_true bs xs, (refl, kept_in_turn bs xs q (omega arith) (subst (λ (y : F). ReturnsInTurn R y bs xs q) one.1 t.2))))
    kept_in_turn (false ∷ bs) (x ∷ xs) q e t =
        let one = h x false t.0 t.1 in
        inr (λ same. let bad = one.0.1 same in cc, kept_in_turn bs xs q (omega arith) (subst (λ (y : F). ReturnsInTurn R y bs xs q) one.1 t.2))

    pub keeps_named : (xs ys : List X) → IsFiltered R f xs ys → KeepsNamed name_of name xs ys
    keeps_named xs ys k = subst (KeepsNamed name_of name xs) (sym k.4) (kept_in_turn k.0 xs k.1 k.2 k.3)

  -- they all have the hash of the name
  one_hash : (xs : List X) → All (λ one. SameName (name_of one) name) xs → replicate (length xs) (name_hash name) ≡ map (λ one. name_hash (name_of one)) xs
  one_hash [] all = refl
  one_hash (x ∷ xs) all =
      ap (λ n. n ∷ replicate (length xs) (name_hash name)) (sym (same_hash (name_of x) name (All-head (λ one. SameName (name_of one) name) x xs all)))
      ∙ ap (λ l. name_hash (name_of x) ∷ l) (one_hash xs (All-tail (λ one. SameName (name_of one) name) x xs all))

  pub kept_hashes : (old kept : List X) (hashes new : List ℕ) (count hash : ℕ) → hashes ≡ map (λ one. name_hash (name_of one)) old → length kept ≤ length old → All (λ one. SameName (name_of one) name) kept
      → count ≡ length kept → hash ≡ name_hash name → new ≡ replicate (min count (length hashes)) hash → new ≡ map (λ one. name_hash (name_of one)) kept
  kept_hashes old kept hashes new count hash are fewer all counted hashed is =
      let same : min count (length hashes) ≡ length kept = omega (arith, ap length are, length-map old (λ (x : X). name_hash (name_of x))) in
      is ∙ ap (λ n. replicate n hash) same ∙ ap (replicate (length kept)) hashed ∙ one_hash kept all
