-- From the parts of a name's text to the answer for the whole.
use Rattle.std.proofs.Common.{◌≡◌, ℕ, ℤ, inl, inr, List, [], ◌∷◌, ◌++◌, length, Ok, Err, ap, subst, ◌∙◌, append_assoc, append-nil, arith}
use Rattle.krb_file.specs.Cursor.{Place}
use Rattle.krb_name.specs.Text.{escaped}
use Rattle.krb_name.specs.Reading.{components_text, IsTextOf, IsReadAs}
use Rattle.krb_name.specs.declared.text_fault.TextFault.{TextFault}
use Rattle.krb_name.specs.declared.text_fault.TextFault.TheVariants.{BadText, NoRealm, OutOfMemory}
use Rattle.krb_name.specs.Inner.Names.{Advances, ReadsBytes, ReadsRealm, ReadsComponents}
use Rattle.krb_name.proofs.NameReading.{place_of, Advances-after}

-- text read from the start of the whole
from_start : (text : List ℕ) (old : Place) (front : List ℕ) (new : Place) → old ≡ place_of 0 text → Advances old front new → Advances (place_of 0 text) front new
from_start text old front new e p = subst (λ (q : Place). Advances q front new) e p

offset : (text front : List ℕ) (new : Place) → Advances (place_of 0 text) front new → new.at ≡ length front
offset text front new p = omega (arith, p.at)

pub components_refused : (text : List ℕ) (old new : Place) (fault : TextFault) → old ≡ place_of 0 text → ReadsComponents old new (Err fault) → IsReadAs text (Err fault)
components_refused text old new (BadText at) e h =
    let p = from_start text old (components_text h.0) new e h.2 in
    inl (record { components = h.0; rest = new.rest; are = h.1; text_is = p.parts; at_is = h.3 ∙ offset text (components_text h.0) new p; offends = h.4 })
components_refused text old new NoRealm e h =
    let p = from_start text old (components_text h.0) new e h.2 in
    record { components = h.0; are = h.1; text_is = p.parts ∙ ap (λ (t : List ℕ). components_text h.0 ++ t) h.3 ∙ append-nil (components_text h.0) }
components_refused text old new OutOfMemory e h = tt

-- components, the sign and then a realm
whole_name : (text : List ℕ) (old : Place) (components : List (List ℕ)) (mid : Place) (realm : List ℕ) (new : Place) → old ≡ place_of 0 text
    → Advances old (components_text components ++ 0x40 ∷ []) mid → ReadsBytes mid realm new → Advances (place_of 0 text) (components_text components ++ 0x40 ∷ escaped realm) new
whole_name text old components mid realm new e p q =
    subst (λ (t : List ℕ). Advances (place_of 0 text) t new) (append_assoc (components_text components) (0x40 ∷ []) (escaped realm))
    (Advances-after (place_of 0 text) (components_text components ++ 0x40 ∷ []) mid (escaped realm) new (from_start text old (components_text components ++ 0x40 ∷ []) mid e p) q.advances)

pub realm_refused : (text : List ℕ) (old : Place) (components : List (List ℕ)) (mid new : Place) (fault : TextFault) → old ≡ place_of 0 text → ReadsComponents old mid (Ok components)
    → ReadsRealm mid new (Err fault) → IsReadAs text (Err fault)
realm_refused text old components mid new (BadText at) e p h =
    let whole = whole_name text old components mid h.0 new e p.1 h.1 in
    inr (record {
      components = components;
      realm = h.0;
      rest = new.rest;
      are = p.0;
      realm_is = h.1.are;
      text_is = whole.parts;
      at_is = h.2 ∙ offset text (components_text components ++ 0x40 ∷ escaped h.0) new whole;
      offends = h.3;
    })
realm_refused text old components mid new NoRealm e p h = absurd h
realm_refused text old components mid new OutOfMemory e p h = tt

pub name_read : (text : List ℕ) (old : Place) (components : List (List ℕ)) (mid : Place) (realm : List ℕ) (new : Place) (name_type : ℤ) → old ≡ place_of 0 text → ReadsComponents old mid (Ok components)
    → ReadsRealm mid new (Ok realm) → IsTextOf text (record { realm = realm; name_type = name_type; components = components })
name_read text old components mid realm new name_type e p h =
    let whole = whole_name text old components mid realm new e p.1 h.0 in
    record {
      are = p.0;
      realm_is = h.0.are;
      text_is = whole.parts ∙ ap (λ (t : List ℕ). (components_text components ++ 0x40 ∷ escaped realm) ++ t) h.1 ∙ append-nil (components_text components ++ 0x40 ∷ escaped realm);
    }
