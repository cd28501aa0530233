-- Fields that are joined of others are read as they are spelled.
use Rattle.std.proofs.Common.{◌≡◌, ℕ, ◌+◌, Bool, true, cond, List, ◌++◌, length, Option, Some, None, refl, sym, ap, subst, ◌∙◌}
use Rattle.std.proofs.lemmas.Option.{cond_some}
use Rattle.krb_file.specs.Cursor.{Place, ◌>>=◌}
use Rattle.krb_file.specs.Field.{IsBytes, Takes, IsField}
use Rattle.krb_file.proofs.CursorLaws.{bind_some, some_is}
use Rattle.krb_file.proofs.Rows.{spelling, followed}
use Rattle.krb_ccache.specs.Inner.Reading.{then_at, both_at, made_at, passing_at}

-- ---- one read after another

pub bind_assoc : {A B C : Type 0} (o : Option A) (f : A → Option B) (g : B → Option C) → ((o >>= f) >>= g) ≡ (o >>= λ x. f x >>= g)
bind_assoc None f g = refl
bind_assoc (Some x) f g = refl

pub bind_same : {A B : Type 0} (o : Option A) (f g : A → Option B) → ((x : A) → f x ≡ g x) → (o >>= f) ≡ (o >>= g)
bind_same None f g e = refl
bind_same (Some x) f g e = e x

pub none_then : {A B : Type 0} (o : Option A) (f : A → B) → (o >>= λ x. Some (f x)) ≡ None → o ≡ None
none_then None f e = refl
none_then (Some x) f e = absurd cc

pub nothing_made : {X : Type 0} (o : Option (X × Place)) → (o >>= λ x. Some (x.0, x.1)) ≡ o
nothing_made None = refl
nothing_made (Some x) = refl

-- ---- one after the other

pub IsField-then : {X Y : Type 0} {read_one : Place → Option (X × Place)} {bytes_one : X → List ℕ} {IsOne : X → Type 0} {read_other : X → Place → Option (Y × Place)} {bytes_other : Y → List ℕ} {IsOther : X → Y → Type 0} → IsField read_one bytes_one IsOne → ((x : X) → IsField (read_other x) bytes_other (IsOther x))
    → IsField (then_at read_one read_other) (λ x. bytes_one x.0 ++ bytes_other x.1) (λ x. IsOne x.0 × IsOther x.0 x.1)
IsField-then one other = (followed (spelling one) (λ x. spelling (other x))).field

pub IsField-both : {X Y : Type 0} {read_one : Place → Option (X × Place)} {bytes_one : X → List ℕ} {IsOne : X → Type 0} {read_other : Place → Option (Y × Place)} {bytes_other : Y → List ℕ} {IsOther : Y → Type 0} → IsField read_one bytes_one IsOne → IsField read_other bytes_other IsOther
    → IsField (both_at read_one read_other) (λ x. bytes_one x.0 ++ bytes_other x.1) (λ x. IsOne x.0 × IsOther x.1)
IsField-both one other = IsField-then one (λ x. other)

-- ---- what is made of another

-- a value is made of another thing, which is in range and spelled as it is
module _ {X Y : Type 0} (make : X → Y) {rx : Place → Option (X × Place)} {sx : X → List ℕ} {PX : X → Type 0} (fx : IsField rx sx PX) (sy : Y → List ℕ) (PY : Y → Type 0) (made : (x : X) → PX x → PY (make x) × (sy (make x) ≡ sx x)) (from : (y : Y) → PY y → (x : X) × PX x × (make x ≡ y) × (sx x ≡ sy y)) where
  made_take : (place : Place) (y : Y) (behind : Place) → IsBytes place.rest → made_at make rx place ≡ Some (y, behind) → Takes place (sy y) behind × PY y
  made_take place y behind fits e =
      let a = bind_some (rx place) (λ p. Some (make p.0, p.1)) (y, behind) e in
      let t = fx.takes place a.0.0 a.0.1 fits a.1 in
      let h = made a.0.0 t.1 in
      subst (λ (p : Y × Place). Takes place (sy p.0) p.1 × PY p.0) (some_is (make a.0.0, a.0.1) (y, behind) a.2) (subst (λ (s : List ℕ). Takes place s a.0.1) (sym h.1) t.0, h.0)

  made_again : (at : ℕ) (y : Y) (rest : List ℕ) → PY y → made_at make rx (record { at = at; rest = sy y ++ rest }) ≡ Some (y, record { at = at + length (sy y); rest = rest })
  made_again at y rest p =
      let x = from y p in
      let read = ap (λ (o : Option (X × Place)). o >>= λ z. Some (make z.0, z.1)) (fx.again at x.0 rest x.1) in
      subst (λ (s : List ℕ). made_at make rx (record { at = at; rest = s ++ rest }) ≡ Some (y, record { at = at + length s; rest = rest })) x.3
      (read ∙ ap (λ (z : Y). Some (z, record { at = at + length (sx x.0); rest = rest })) x.2)

  pub IsField-made : IsField (made_at make rx) sy PY
  IsField-made = record { takes = made_take; again = made_again }

-- ---- what passes a test

module _ {X : Type 0} (test : X → Bool) {r : Place → Option (X × Place)} {s : X → List ℕ} {P : X → Type 0} (f : IsField r s P) where
  passing_take : (place : Place) (x : X) (behind : Place) → IsBytes place.rest → passing_at test r place ≡ Some (x, behind) → Takes place (s x) behind × (P x × (test x ≡ true))
  passing_take place x behind fits e =
      let a = bind_some (r place) (λ p. cond (test p.0) (Some p) None) (x, behind) e in
      let g = cond_some (test a.0.0) a.0 (x, behind) a.2 in
      let t = f.takes place a.0.0 a.0.1 fits a.1 in
      subst (λ (p : X × Place). Takes place (s p.0) p.1 × (P p.0 × (test p.0 ≡ true))) g.1 (t.0, (t.1, g.0))

  passing_again : (at : ℕ) (x : X) (rest : List ℕ) → P x × (test x ≡ true) → passing_at test r (record { at = at; rest = s x ++ rest }) ≡ Some (x, record { at = at + length (s x); rest = rest })
  passing_again at x rest h = let read = f.again at x rest h.0 in let passes : test x ≡ true = h.1 in rw (read, passes) refl

  pub IsField-passing : IsField (passing_at test r) s (λ x. P x × (test x ≡ true))
  IsField-passing = record { takes = passing_take; again = passing_again }
