-- Fields in a row. The first may say how the others are read.
use Rattle.std.proofs.Common.{◌≡◌, ℕ, ◌+◌, List, ◌++◌, length, Option, Some, refl, subst, append_assoc, arith}
use Rattle.std.proofs.lemmas.List.{length-append}
use Rattle.krb_file.specs.Cursor.{Place, ◌>>=◌}
use Rattle.krb_file.specs.Field.{IsBytes, Takes, IsField}
use Rattle.krb_file.proofs.CursorLaws.{bind_some, some_is, Takes-then}

-- a way to read things as they are spelled, and which are in range
pub record Spelling (X : Type 0) : Type 1 where
  pub read : Place → Option (X × Place)
  pub bytes : X → List ℕ
  pub InRange : X → Type 0
  pub field : IsField read bytes InRange

abbrev pub spelling : {X : Type 0} {read : Place → Option (X × Place)} {bytes : X → List ℕ} {InRange : X → Type 0} → IsField read bytes InRange → Spelling X
spelling {read = read} {bytes = bytes} {InRange = InRange} field = record { read = read; bytes = bytes; InRange = InRange; field = field }

module _ {X Y : Type 0} (one : Spelling X) (other : X → Spelling Y) where
  abbrev pub both_at : Place → Option ((X × Y) × Place)
  both_at place = do
    x ← one.read place
    y ← (other x.0).read x.1
    Some ((x.0, y.0), y.1)

  abbrev pub both_bytes : X × Y → List ℕ
  both_bytes p = one.bytes p.0 ++ (other p.0).bytes p.1

  abbrev pub AreBoth : X × Y → Type 0
  AreBoth p = one.InRange p.0 × (other p.0).InRange p.1

  pub both_take : (place : Place) (p : X × Y) (behind : Place) → IsBytes place.rest → both_at place ≡ Some (p, behind) → Takes place (both_bytes p) behind × AreBoth p
  both_take place p behind fits e =
      let a = bind_some (one.read place) (λ x. (other x.0).read x.1 >>= λ y. Some ((x.0, y.0), y.1)) (p, behind) e in
      let b = bind_some ((other a.0.0).read a.0.1) (λ y. Some ((a.0.0, y.0), y.1)) (p, behind) a.2 in
      let t = one.field.takes place a.0.0 a.0.1 fits a.1 in
      let u = (other a.0.0).field.takes a.0.1 b.0.0 b.0.1 t.0.rest_fits b.1 in
      subst (λ (q : (X × Y) × Place). Takes place (both_bytes q.0) q.1 × AreBoth q.0) (some_is ((a.0.0, b.0.0), b.0.1) (p, behind) b.2)
      (Takes-then place (one.bytes a.0.0) a.0.1 ((other a.0.0).bytes b.0.0) b.0.1 t.0 u.0, (t.1, u.1))

  pub both_again : (at : ℕ) (p : X × Y) (rest : List ℕ) → AreBoth p → both_at (record { at = at; rest = both_bytes p ++ rest }) ≡ Some (p, record { at = at + length (both_bytes p); rest = rest })
  both_again at p rest h =
      let front : List ℕ = one.bytes p.0 in
      let back : List ℕ = (other p.0).bytes p.1 in
      let grouped : (front ++ back) ++ rest ≡ front ++ (back ++ rest) = append_assoc front back rest in
      let first = one.field.again at p.0 (back ++ rest) h.0 in
      let second = (other p.0).field.again (at + length front) p.1 rest h.1 in
      let place : (at + length front) + length back ≡ at + length (front ++ back) = omega (arith, length-append front back) in
      rw (grouped, first, second, place) refl

  -- one thing, and another after it
  abbrev pub followed : Spelling (X × Y)
  followed = record { read = both_at; bytes = both_bytes; InRange = AreBoth; field = record { takes = both_take; again = both_again } }
