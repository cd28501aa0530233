-- A text is read in one way only.
use Rattle.std.proofs.Common.{◌≡◌, ℕ, List, length, Result, Ok, Err, sym, ap, ◌∙◌}
use Rattle.krb_name.specs.Name.{SameName}
use Rattle.krb_name.specs.Reading.{LacksRealm, IsTextOf, IsReadAs, SameAnswer}
use Rattle.krb_name.specs.declared.principal.Principal.{Principal}
use Rattle.krb_name.specs.declared.text_fault.TextFault.{TextFault}
use Rattle.krb_name.specs.declared.text_fault.TextFault.TheVariants.{BadText, NoRealm, OutOfMemory}
use Rattle.krb_name.proofs.Symbols.{Symbol, spelling, one_stop}
use Rattle.krb_name.proofs.NameSymbols.{of_name, true_is_false}
use Rattle.krb_name.proofs.NameStops.{text_stops, lacking_stops, Halts, offence_halts}
use Rattle.krb_name.proofs.NamesBack.{components_in, realm_in, has_sign, components_back, realm_back, name_has_sign, components_have_none}

pub one_name : (text : List ℕ) (p q : Principal) → IsTextOf text p → IsTextOf text q → SameName p q
one_name text p q s t =
    let same = (one_stop text _ _ _ _ (text_stops text p s) (text_stops text q t)).0 in
    record {
      realm = sym (realm_back p.components p.realm) ∙ ap realm_in same ∙ realm_back q.components q.realm;
      components = sym (components_back p.components p.realm s.are.some) ∙ ap components_in same ∙ components_back q.components q.realm t.are.some;
    }

name_or_lacking : (text : List ℕ) (p : Principal) → IsTextOf text p → LacksRealm text → ⊥
name_or_lacking text p s t =
    let same = (one_stop text _ _ _ _ (text_stops text p s) (lacking_stops text t)).0 in
    true_is_false (has_sign (of_name p.components p.realm)) (name_has_sign p.components p.realm) (ap has_sign same ∙ components_have_none t.components)

name_or_offence : (text : List ℕ) (p : Principal) (at : ℕ) → IsTextOf text p → Halts text at → ⊥
name_or_offence text p at s h = h.some (sym (one_stop text _ _ _ _ (text_stops text p s) h.stops).1)

lacking_or_offence : (text : List ℕ) (at : ℕ) → LacksRealm text → Halts text at → ⊥
lacking_or_offence text at s h = h.some (sym (one_stop text _ _ _ _ (lacking_stops text s) h.stops).1)

one_offence : (text : List ℕ) (a b : ℕ) → Halts text a → Halts text b → a ≡ b
one_offence text a b h k = h.at_is ∙ ap (λ (l : List Symbol). length (spelling l)) (one_stop text _ _ _ _ h.stops k.stops).0 ∙ sym k.at_is

pub one_answer : (text : List ℕ) (a b : Result Principal TextFault) → IsReadAs text a → IsReadAs text b → SameAnswer a b
one_answer text (Err OutOfMemory) b s t = tt
one_answer text (Ok p) (Err OutOfMemory) s t = tt
one_answer text (Err (BadText at)) (Err OutOfMemory) s t = tt
one_answer text (Err NoRealm) (Err OutOfMemory) s t = tt
one_answer text (Ok p) (Ok q) s t = one_name text p q s t
one_answer text (Ok p) (Err (BadText at)) s t = name_or_offence text p at s (offence_halts text at t)
one_answer text (Ok p) (Err NoRealm) s t = name_or_lacking text p s t
one_answer text (Err (BadText at)) (Ok p) s t = name_or_offence text p at t (offence_halts text at s)
one_answer text (Err (BadText a)) (Err (BadText b)) s t = one_offence text a b (offence_halts text a s) (offence_halts text b t)
one_answer text (Err (BadText at)) (Err NoRealm) s t = lacking_or_offence text at t (offence_halts text at s)
one_answer text (Err NoRealm) (Ok p) s t = name_or_lacking text p t s
one_answer text (Err NoRealm) (Err (BadText at)) s t = lacking_or_offence text at s (offence_halts text at t)
one_answer text (Err NoRealm) (Err NoRealm) s t = tt
