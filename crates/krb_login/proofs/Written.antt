-- What is read of what is written: the state of a negotiation's answer.
use Rattle.std.proofs.Common.{◌≡◌, ℕ, ◌+◌, List, [], ◌∷◌, ◌++◌, length, Option, Result, Ok, refl, sym, ap, ◌∙◌, subst}
use Rattle.std.proofs.lemmas.List.{append-nil}
use Rattle.krb_der.specs.Place.{Place, begin_at}
use Rattle.krb_der.specs.Spells.{IsElement}
use Rattle.krb_der.specs.Fault.{HasHead}
use Rattle.krb_der.proofs.ElementSteps.{enter_at-head}
use Rattle.krb_gss.specs.declared.mechanism.Mechanism.{Mechanism}
use Rattle.krb_gss.specs.Module.{bare_response}
use Rattle.krb_gss.specs.Said.{of_said}
use Rattle.krb_gss.specs.Token.{HoldsFields}
use Rattle.krb_gss.specs.Wrapping.{AreResponding, IsResponding}

-- ---- elements at places
abbrev inside_at : Place → List ℕ → List ℕ → Place
inside_at here size content = record { at = here.at + (1 + length size); rest = content }

abbrev after_at : Place → List ℕ → List ℕ → List ℕ → Place
after_at here size content back = record { at = here.at + (1 + length size) + length content; rest = back }

head_of : (tag : ℕ) (C : List ℕ → Type 0) (bytes back : List ℕ) (here : Place) (h : IsElement tag C bytes) → here.rest ≡ bytes ++ back
    → HasHead tag here (inside_at here h.size h.content) (after_at here h.size h.content back)
head_of tag C bytes back here h e =
    record { size = h.size; length_is = h.length_is; whole = e ∙ ap (λ (x : List ℕ). x ++ back) h.whole; inside_at = refl; after_at = refl }

ok_same : {E : Type 0} (x y : Place × Place) → ◌≡◌ {A = Result (Place × Place) E} (Ok x) (Ok y) → x ≡ y
ok_same x y e = cc

-- what stands at a place is read as its content, and what is after it
pub at_place : (tag : ℕ) (C : List ℕ → Type 0) (bytes back : List ℕ) (here inside after : Place) → IsElement tag C bytes → here.rest ≡ bytes ++ back
    → HasHead tag here inside after → C inside.rest × (after.rest ≡ back)
at_place tag C bytes back here inside after h e k =
    let same = ok_same (inside_at here h.size h.content, after_at here h.size h.content back) (inside, after) (sym (enter_at-head tag here (inside_at here h.size h.content) (after_at here h.size h.content back) (head_of tag C bytes back here h e))
    ∙ enter_at-head tag here inside after k) in (
      subst (λ (p : Place). C p.rest) (ap (λ (x : Place × Place). x.0) same) h.content_is,
      sym (ap (λ (x : Place × Place). x.1.rest) same),
    )

-- the same of one that is all that is left
last_place : (tag : ℕ) (C : List ℕ → Type 0) (here inside after : Place) → IsElement tag C here.rest → HasHead tag here inside after → C inside.rest
last_place tag C here inside after h k = (at_place tag C here.rest [] here inside after h (sym (append-nil here.rest)) k).0

-- ---- the state of a negotiation's answer
pub state_is : (state : ℕ) (first : Option Mechanism) (After : List ℕ → Type 0) (bytes : List ℕ) (place : Place) (name : Option Place)
    → IsResponding state first After bytes → HoldsFields 0xa1 bare_response of_said (begin_at bytes) (place, name) → place.rest ≡ state ∷ []
state_is state first After bytes place name h k =
    let choice = last_place 0xa1 (IsElement 0x30 (AreResponding state first After)) (begin_at bytes) k.chosen.inside k.chosen.after h k.chosen.head in
    let sequence = k.chosen.is in
    let inside = last_place 0x30 (AreResponding state first After) k.chosen.inside sequence.inside sequence.after choice sequence.head in
    let j = subst (λ (p : Place). AreResponding state first After p.rest) sequence.is inside in
    let field = k.stand in
    let held = at_place 0xa0 (IsElement 0x0a (λ content. content ≡ state ∷ [])) j.front j.back k.fields field.inside field.after j.first j.whole field.head in
    let content = last_place 0x0a (λ content. content ≡ state ∷ []) field.inside field.is.inside field.is.after held.0 field.is.head in
    ap (λ (p : Place). p.rest) (sym (field.is.is ∙ ap (λ (x : Place × Option Place). x.0) k.picked_is)) ∙ content
