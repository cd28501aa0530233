-- A negotiation's token, alone.
use Rattle.std.proofs.Common.{◌≡◌, ℕ, ◌+◌, ◌≤◌, List, ◌∷◌, ◌++◌, length, Option, Some, None, refl, ap, arith, length-append}
use Rattle.std.proofs.Math.Nat.{le_refl}
use Rattle.krb_der.specs.Place.{Place}
use Rattle.krb_der.specs.Fault.{HasHead}
use Rattle.krb_der.specs.Spells.{limit}
use Rattle.krb_der.specs.Parts.{PlacesOf, last, anything, MayHaveElement, Stand}
use Rattle.krb_der.proofs.Repeats.{head_shorter}
use Rattle.krb_gss.specs.declared.mechanism.Mechanism.{Mechanism}
use Rattle.krb_gss.specs.declared.opening.Wrapping.TheVariants.{Bare, Negotiated}
use Rattle.krb_gss.specs.Module.{neg_token_init}
use Rattle.krb_gss.specs.Token.{IsKerberos, IsFramed, of_init, IsInit, HoldsKerberos, IsToken}
use Rattle.krb_gss.specs.Negotiation.{IsAlone}
use Rattle.krb_gss.proofs.WrittenLaws.{others_of}

some_same : (a b : Place) → ◌≡◌ {A = Option Place} (Some a) (Some b) → a ≡ b
some_same a b e = cc

-- ---- an element at another offset
abbrev inside_from : {tag : ℕ} {here inside after : Place} → HasHead tag here inside after → ℕ → Place
inside_from {inside = inside} h at = record { at = at + (1 + length h.size); rest = inside.rest }

abbrev after_from : {tag : ℕ} {here inside after : Place} → HasHead tag here inside after → ℕ → Place
after_from {inside = inside} {after = after} h at = record { at = at + (1 + length h.size) + length inside.rest; rest = after.rest }

moved : {tag : ℕ} {here inside after : Place} (h : HasHead tag here inside after) (at : ℕ) → HasHead tag (record { at = at; rest = here.rest }) (inside_from h at) (after_from h at)
moved h at = record { size = h.size; length_is = h.length_is; whole = h.whole; inside_at = refl; after_at = refl }

alone : {here inner : Place} {m : Mechanism} {request : List ℕ} → length here.rest ≤ limit → IsKerberos here m inner → inner.rest ≡ 0x01 ∷ 0 ∷ request → IsToken Bare m request here.rest
alone {inner = inner} le k is =
    let f = k.framed.head in
    let n = k.framed.is.head in
    let at : ℕ = 0 + (1 + length f.size) in
    record {
      within = le;
      inner = record (after_from n at) { rest = inner.rest };
      wrapped = record {
        oid = record (inside_from n at) { rest = k.oid.rest };
        after = record (after_from n at) { rest = inner.rest };
        framed = record {
          inside = inside_from f 0;
          after = after_from f 0;
          head = moved f 0;
          is = record {
            inside = inside_from n at;
            after = after_from n at;
            head = moved n at;
            is = ap (λ (p : Place). record { at = at + (1 + length n.size); rest = p.rest }) k.framed.is.is;
            others = ap (λ (p : Place). record { at = at + (1 + length n.size) + length k.framed.is.inside.rest; rest = p.rest }) k.framed.is.others;
          };
          others = k.framed.others;
        };
        within = (k.named, refl);
      };
      is = is;
    }

-- ---- within the bytes
inside-shorter : {tag : ℕ} {here inside after : Place} → HasHead tag here inside after → length inside.rest ≤ length here.rest
inside-shorter {inside = inside} {after = after} h =
    omega (arith, ap length h.whole, length-append h.size (inside.rest ++ after.rest), length-append (h.size ++ inside.rest) after.rest, length-append h.size inside.rest, length-append inside.rest after.rest)

after-shorter : {tag : ℕ} {here inside after : Place} → HasHead tag here inside after → length after.rest ≤ length here.rest
after-shorter {tag = tag} {here = here} {inside = inside} {after = after} h = omega (arith, head_shorter tag here inside after h)

framed-shorter : {here oid inner : Place} → IsFramed here oid inner → length inner.rest ≤ length here.rest
framed-shorter h = omega (arith, inside-shorter h.head, after-shorter h.is.head, ap (λ (p : Place). length p.rest) h.is.others)

-- what stands after a field that may come, and in one
may-shorter : {V : Type 0} (tag : ℕ) (I : V → Place → Type 0) (A : Place → Type 0) (o : Option V) (here : Place) → MayHaveElement tag I A o here → (after : Place) × (length after.rest ≤ length here.rest) × A after
may-shorter tag I A None here h = (here, le_refl (length here.rest), h.1)
may-shorter tag I A (Some v) here h = (h.after, after-shorter h.head, h.others)

token-shorter : (places : PlacesOf neg_token_init) (fields oid token : Place) → Stand neg_token_init places fields → of_init fields places ≡ (oid, Some token) → length token.rest ≤ length fields.rest
token-shorter places fields oid token h e = by places.1.1.0 (ap (λ (x : Place × Option Place). x.1) e) m.2
  where
    m : (after : Place) × (length after.rest ≤ length h.after.rest) × MayHaveElement 0xa2 (Stand (last 0x04 anything)) (Stand (others_of (others_of (others_of neg_token_init))) places.1.1.1) places.1.1.0 after
    m = may-shorter 0xa1 (Stand (last 0x03 anything)) _ places.1.0 h.after h.others

    by : (o : Option Place) → o ≡ Some token → MayHaveElement 0xa2 (Stand (last 0x04 anything)) (Stand (others_of (others_of (others_of neg_token_init))) places.1.1.1) o m.0 → length token.rest ≤ length fields.rest
    by None q k = absurd cc
    by (Some here) q k =
        let same : here ≡ token = some_same here token q in
        omega (arith, after-shorter h.head, m.1, inside-shorter k.head, inside-shorter k.is.head, ap (λ (p : Place). length p.rest) k.is.is, ap (λ (p : Place). length p.rest) same)

init-shorter : {here oid token : Place} → IsInit here oid (Some token) → length token.rest ≤ length here.rest
init-shorter {oid = oid} {token = token} h =
    omega (arith, inside-shorter h.chosen.head, inside-shorter h.chosen.is.head, ap (λ (p : Place). length p.rest) h.chosen.is.is, token-shorter h.places h.fields oid token h.stand h.picked_is)

-- ---- the whole
pub alone-in : (first m : Mechanism) (request bytes : List ℕ) → IsToken (Negotiated first) m request bytes → IsAlone m request bytes
alone-in first m request bytes t = by t.wrapped.within.1.token t.wrapped.within.1.fields t.wrapped.within.1.are.is
  where
    by : (token : Option Place) → IsInit t.wrapped.after t.wrapped.within.1.oid token → HoldsKerberos token m t.inner → IsAlone m request bytes
    by None i h = absurd h
    by (Some here) i h =
        record {
          name = t.wrapped.oid;
          after = t.wrapped.after;
          oid = t.wrapped.within.1.oid;
          here = here;
          framed = t.wrapped.framed;
          init = i;
          alone = alone (omega (arith, t.within, framed-shorter t.wrapped.framed, init-shorter i)) h t.is;
        }
