-- A request over a ticket, and where the ticket's bytes are in it.
use Rattle.std.proofs.Common.{◌≡◌, ◌⊎◌, inl, inr, ℕ, List, [], ◌∷◌, ◌++◌, sym, ap, ◌∙◌, append_assoc, append-nil}
use Rattle.krb_der.specs.Kind.{ValueOf}
use Rattle.krb_der.specs.Numbers.{HasHigh, SpellsNegative}
use Rattle.krb_der.specs.Spells.{IsElement, IsJoined}
use Rattle.krb_der.specs.Writing.{Writes}
use Rattle.krb_der.proofs.PartLaws.{with_content}
use Rattle.krb_msg.specs.Fields.{RequestFields, ap_req_value}
use Rattle.krb_msg.specs.Module.{ap_req, encrypted_data, ticket}
use Rattle.krb_msg.specs.Spelled.{WritesOver}

-- ---- the same with other bytes as the ticket's content
with_front : {P Q R : List ℕ → Type 0} {bytes : List ℕ} (h : IsJoined P Q bytes) → R h.front → IsJoined R Q bytes
with_front h r = record { front = h.front; back = h.back; first = r; rest = h.rest; whole = h.whole }

with_back : {P Q R : List ℕ → Type 0} {bytes : List ℕ} (h : IsJoined P Q bytes) → R h.back → IsJoined P R bytes
with_back h r = record { front = h.front; back = h.back; first = h.first; rest = r; whole = h.whole }

pub over : (v : RequestFields) (bytes request : List ℕ) → ((content : List ℕ) → Writes ticket v.ticket content → content ≡ bytes)
    → Writes ap_req (ap_req_value v) request → WritesOver v.options bytes v.authenticator request
over v bytes request one w =
    let row = w.content_is in
    let a = row.content_is in
    let d = a.rest.rest.rest in
    let e = d.first in
    let field = with_front d (with_content e (one e.content e.content_is)) in
    with_content w (with_content row (with_back a (with_back a.rest (with_back a.rest.rest field))))

-- ---- where they are
record Inside (part bytes : List ℕ) : Type 0 where
  before : List ℕ
  after : List ℕ
  whole : bytes ≡ before ++ part ++ after

after_more : (more before part after : List ℕ) → more ++ (before ++ part ++ after) ≡ more ++ before ++ part ++ after
after_more more before part after =
    sym (append_assoc more (before ++ part) after) ∙ ap (λ (l : List ℕ). l ++ after) (sym (append_assoc more before part))

all : (part bytes : List ℕ) → bytes ≡ part → Inside part bytes
all part bytes e = record { before = []; after = []; whole = e ∙ sym (append-nil part) }

in_element : {tag : ℕ} {P : List ℕ → Type 0} {part bytes : List ℕ} (h : IsElement tag P bytes) → Inside part h.content → Inside part bytes
in_element {tag} {P} {part} {bytes} h i =
    record {
      before = tag ∷ (h.size ++ i.before);
      after = i.after;
      whole =
          h.whole ∙ ap (λ (l : List ℕ). tag ∷ (h.size ++ l)) i.whole
          ∙ ap (λ (l : List ℕ). tag ∷ l) (after_more h.size i.before part i.after);
    }

in_back : {P Q : List ℕ → Type 0} {part bytes : List ℕ} (h : IsJoined P Q bytes) → Inside part h.back → Inside part bytes
in_back {P} {Q} {part} {bytes} h i =
    record {
      before = h.front ++ i.before;
      after = i.after;
      whole = h.whole ∙ ap (λ (l : List ℕ). h.front ++ l) i.whole ∙ after_more h.front i.before part i.after;
    }

in_front : {P Q : List ℕ → Type 0} {part bytes : List ℕ} (h : IsJoined P Q bytes) → Inside part h.front → Inside part bytes
in_front {P} {Q} {part} {bytes} h i =
    record {
      before = i.before;
      after = i.after ++ h.back;
      whole = h.whole ∙ ap (λ (l : List ℕ). l ++ h.back) i.whole ∙ append_assoc (i.before ++ part) i.after h.back;
    }

pub inside : (options : ℕ) (bytes : List ℕ) (authenticator : ValueOf encrypted_data) (request : List ℕ)
    → WritesOver options bytes authenticator request → (before : List ℕ) × (after : List ℕ) × (request ≡ before ++ bytes ++ after)
inside options bytes authenticator request w =
    let row = w.content_is in
    let a = row.content_is in
    let d = a.rest.rest.rest in
    let e = d.first in
    let field = in_front d (in_element e (all bytes e.content e.content_is)) in
    let i = in_element w (in_element row (in_back a (in_back a.rest (in_back a.rest.rest field)))) in
    (i.before, i.after, i.whole)

-- ---- a ticket has no spelling but the one that is written
pub no_other : (v : ValueOf ticket) (bytes : List ℕ) → ((a b : List ℕ) → Writes ticket v a → Writes ticket v b → a ≡ b)
    → (HasHigh ticket v → ⊥) → Writes ticket v bytes ⊎ SpellsNegative ticket v bytes
    → (content : List ℕ) → Writes ticket v content → content ≡ bytes
no_other v bytes one none (inl w) content x = one content bytes x w
no_other v bytes one none (inr n) content x = absurd (none n.1)
