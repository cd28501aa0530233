-- When held components are the same.
use Rattle.std.proofs.Common.{◌≡◌, ℕ, eqb, Bool, true, false, List, Decides, length, refl, sym, ap, ◌∙◌}
use Rattle.std.specs.List.{flat_map}
use Rattle.std.specs.Int.{w32}
use Rattle.std.specs.Cmp.Lexicographic.{pointwise}
use Rattle.std.proofs.lemmas.Bool.{eqb-true}
use Rattle.krb_file.specs.Cursor.{data_bytes}
use Rattle.krb_name.specs.Inner.Held.{AreHeld, components_at, listed}
use Rattle.krb_name.proofs.HeldLaws.{view_is}
use Rattle.krb_name.proofs.Names.{bytes_decided, components_decided}

one_truth : (a b : Bool) → (a ≡ true → b ≡ true) → (b ≡ true → a ≡ true) → a ≡ b
one_truth true b there back = sym (there refl)
one_truth false true there back = back refl
one_truth false false there back = refl

module _ (count other : ℕ) (bytes others : List ℕ) (held : AreHeld count bytes) (held_other : AreHeld other others) where
  counts_equal : listed (components_at count bytes) ≡ listed (components_at other others) → count ≡ other
  counts_equal same = sym held.count_is ∙ ap length (sym (view_is count bytes held) ∙ same ∙ view_is other others held_other) ∙ held_other.count_is

  bytes_equal : listed (components_at count bytes) ≡ listed (components_at other others) → bytes ≡ others
  bytes_equal same = held.bytes_are ∙ ap (flat_map (data_bytes w32)) (sym (view_is count bytes held) ∙ same ∙ view_is other others held_other) ∙ sym held_other.bytes_are

  pub by_bytes : count ≡ other → pointwise eqb bytes others ≡ pointwise (pointwise eqb) (listed (components_at count bytes)) (listed (components_at other others))
  by_bytes same =
      let of_bytes = bytes_decided bytes others in
      let of_views = components_decided (listed (components_at count bytes)) (listed (components_at other others)) in
      one_truth _ _ (λ equal. of_views.1 (rw (same, of_bytes.0 equal) refl)) (λ equal. of_bytes.1 (bytes_equal (of_views.0 equal)))

  pub by_count : (count ≡ other → ⊥) → eqb count other ≡ pointwise (pointwise eqb) (listed (components_at count bytes)) (listed (components_at other others))
  by_count differ =
      let of_views = components_decided (listed (components_at count bytes)) (listed (components_at other others)) in
      one_truth _ _ (λ equal. absurd (differ (eqb-true count other equal))) (λ equal. absurd (differ (counts_equal (of_views.0 equal))))
