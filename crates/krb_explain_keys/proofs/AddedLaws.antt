-- The entries of a name, if one entry more is there.
use Rattle.std.proofs.Common.{◌≡◌, ◌∙◌, ℕ, List, [], ◌∷◌, ◌++◌, map, refl, sym, ap, append_assoc, inl, inr}
use Rattle.krb_name.specs.Name.{SameName}
use Rattle.krb_name.specs.declared.principal.Principal.{Principal}
use Rattle.krb_keytab.specs.Entry.{KeytabEntry}
use Rattle.krb_keytab.specs.Only.{KeepsOnly}

pub one_more : (name : Principal) (entries : List KeytabEntry) (e : KeytabEntry) (named : List KeytabEntry) → SameName e.principal name
    → KeepsOnly name entries named → KeepsOnly name (entries ++ e ∷ []) (named ++ e ∷ [])
one_more name [] e named same is = inl (same, ([], (ap (λ (t : List KeytabEntry). t ++ e ∷ []) is, refl)))
one_more name (x ∷ entries) e named same keeps = elim keeps [
  | inl h ↦ inl (h.0, (h.1.0 ++ e ∷ [], (ap (λ (t : List KeytabEntry). t ++ e ∷ []) h.1.1.0, one_more name entries e h.1.0 same h.1.1.1)))
  | inr h ↦ inr (h.0, one_more name entries e named same h.1)
]

pub none_more : (name : Principal) (entries : List KeytabEntry) (e : KeytabEntry) (named : List KeytabEntry) → ¬ SameName e.principal name
    → KeepsOnly name entries named → KeepsOnly name (entries ++ e ∷ []) named
none_more name [] e named other is = inr (other, is)
none_more name (x ∷ entries) e named other keeps = elim keeps [
  | inl h ↦ inl (h.0, (h.1.0, (h.1.1.0, none_more name entries e h.1.0 other h.1.1.1)))
  | inr h ↦ inr (h.0, none_more name entries e named other h.1)
]

map_more : (f : KeytabEntry → List ℕ) (named : List KeytabEntry) (e : KeytabEntry) → map f (named ++ e ∷ []) ≡ map f named ++ f e ∷ []
map_more f [] e = refl
map_more f (x ∷ named) e = ap (λ (t : List (List ℕ)). f x ∷ t) (map_more f named e)

-- one line more
pub line_more : (f : KeytabEntry → List ℕ) (named : List KeytabEntry) (e : KeytabEntry) (old now new : List (List ℕ)) (line : List ℕ)
    → now ≡ old ++ map f named → new ≡ now ++ line ∷ [] → line ≡ f e → new ≡ old ++ map f (named ++ e ∷ [])
line_more f named e old now new line before is line_is =
    is ∙ (ap (λ (t : List (List ℕ)). t ++ line ∷ []) before ∙ (append_assoc old (map f named) (line ∷ [])
    ∙ (ap (λ (t : List ℕ). old ++ (map f named ++ t ∷ [])) line_is ∙ ap (λ (t : List (List ℕ)). old ++ t) (sym (map_more f named e)))))
