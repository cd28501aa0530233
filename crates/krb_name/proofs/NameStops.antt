-- Each answer for a text says where the text stops.
use Rattle.std.proofs.Common.{◌≡◌, ◌≢◌, ℕ, ◌⊎◌, inl, inr, List, [], ◌∷◌, ◌++◌, length, sym, ap, ◌∙◌, append-nil}
use Rattle.krb_name.specs.Reading.{IsUnprintable, IsNoEscape, IsSeparator, OffendsInComponents, OffendsInRealm, LacksRealm, IsTextOf}
use Rattle.krb_name.specs.declared.principal.Principal.{Principal}
use Rattle.krb_name.proofs.Symbols.{Symbol, spelled, spelling, IsSymbol, InOrder, Stops, no_symbol_at_end}
use Rattle.krb_name.proofs.NameSymbols.{of_components, of_name, spelling-of_components, spelling-of_name, components_in_order, name_in_order, last_symbol, unprintable_stuck, no_escape_stuck, IsByte, realm_last, separator_stuck}

pub at_end_stuck : (symbols : List Symbol) (s : Symbol) (behind : List ℕ) → InOrder (symbols ++ s ∷ []) → [] ≡ spelled s ++ behind → ⊥
at_end_stuck symbols s behind order e = no_symbol_at_end s behind (last_symbol symbols s order) (sym e)

pub text_stops : (text : List ℕ) (p : Principal) → IsTextOf text p → Stops text (of_name p.components p.realm) []
text_stops text p t = record {
  order = name_in_order p.components p.realm t.are t.realm_is;
  parts = t.text_is ∙ sym (spelling-of_name p.components p.realm) ∙ sym (append-nil _);
  stuck = at_end_stuck (of_name p.components p.realm);
}

pub lacking_stops : (text : List ℕ) (t : LacksRealm text) → Stops text (of_components t.components) []
lacking_stops text t = record {
  order = components_in_order t.components t.are;
  parts = t.text_is ∙ sym (spelling-of_components t.components) ∙ sym (append-nil _);
  stuck = at_end_stuck (of_components t.components);
}

-- a text that stops before its end, at this offset
pub record Halts (text : List ℕ) (at : ℕ) : Type 0 where
  pub symbols : List Symbol
  pub rest : List ℕ
  pub stops : Stops text symbols rest
  pub at_is : at ≡ length (spelling symbols)
  pub some : rest ≢ []

pub one_of_two : (rest : List ℕ) (s : Symbol) (behind : List ℕ) → IsUnprintable rest ⊎ IsNoEscape rest → IsSymbol s → rest ≡ spelled s ++ behind → ⊥
one_of_two rest s behind (inl unprintable) fits e = unprintable_stuck rest s behind unprintable e
one_of_two rest s behind (inr no_escape) fits e = no_escape_stuck rest s behind no_escape fits e

pub one_of_three : (rest : List ℕ) (s : Symbol) (behind : List ℕ) → IsUnprintable rest ⊎ (IsNoEscape rest ⊎ IsSeparator rest) → IsSymbol s → IsByte s → rest ≡ spelled s ++ behind → ⊥
one_of_three rest s behind (inl unprintable) fits p e = unprintable_stuck rest s behind unprintable e
one_of_three rest s behind (inr (inl no_escape)) fits p e = no_escape_stuck rest s behind no_escape fits e
one_of_three rest s behind (inr (inr separator)) fits p e = separator_stuck rest s behind separator p e

pub some_rest : (rest : List ℕ) (byte : ℕ) (others : List ℕ) → rest ≡ byte ∷ others → rest ≢ []
some_rest rest byte others e f = nil_is (sym f ∙ e)
  where
    nil_is : [] ≡ byte ∷ others → ⊥
    nil_is e = cc

pub two_some : (rest : List ℕ) → IsUnprintable rest ⊎ IsNoEscape rest → rest ≢ []
two_some rest (inl h) = some_rest rest h.byte h.others h.rest_is
two_some rest (inr h) = some_rest rest 0x5c h.others h.rest_is

pub three_some : (rest : List ℕ) → IsUnprintable rest ⊎ (IsNoEscape rest ⊎ IsSeparator rest) → rest ≢ []
three_some rest (inl h) = some_rest rest h.byte h.others h.rest_is
three_some rest (inr (inl h)) = some_rest rest 0x5c h.others h.rest_is
three_some rest (inr (inr h)) = some_rest rest h.byte h.others h.rest_is

pub components_halt : (text : List ℕ) (at : ℕ) → OffendsInComponents text at → Halts text at
components_halt text at h = record {
  symbols = of_components h.components;
  rest = h.rest;
  stops = record {
    order = components_in_order h.components h.are;
    parts = h.text_is ∙ ap (λ (t : List ℕ). t ++ h.rest) (sym (spelling-of_components h.components));
    stuck = λ s behind order e. one_of_two h.rest s behind h.offends (last_symbol (of_components h.components) s order) e;
  };
  at_is = h.at_is ∙ ap length (sym (spelling-of_components h.components));
  some = two_some h.rest h.offends;
}

pub realm_halts : (text : List ℕ) (at : ℕ) → OffendsInRealm text at → Halts text at
realm_halts text at h = record {
  symbols = of_name h.components h.realm;
  rest = h.rest;
  stops = record {
    order = name_in_order h.components h.realm h.are h.realm_is;
    parts = h.text_is ∙ ap (λ (t : List ℕ). t ++ h.rest) (sym (spelling-of_name h.components h.realm));
    stuck = λ s behind order e. one_of_three h.rest s behind h.offends (last_symbol (of_name h.components h.realm) s order) (realm_last h.components h.realm s order) e;
  };
  at_is = h.at_is ∙ ap length (sym (spelling-of_name h.components h.realm));
  some = three_some h.rest h.offends;
}

pub offence_halts : (text : List ℕ) (at : ℕ) → OffendsInComponents text at ⊎ OffendsInRealm text at → Halts text at
offence_halts text at (inl h) = components_halt text at h
offence_halts text at (inr h) = realm_halts text at h
