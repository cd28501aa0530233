-- Components that are held after their lengths.
use Rattle.std.proofs.Common.{◌≡◌, ℕ, zero, suc, ◌+◌, ◌-◌, ◌<◌, ◌^◌, List, [], ◌∷◌, ◌++◌, length, Option, Some, None, refl, sym, ap, subst, ◌∙◌, append-nil, append_assoc, arith, ◌≤◌}
use Rattle.std.specs.List.{flat_map, AllByRecursion}
use Rattle.std.specs.Int.{w32}
use Rattle.std.proofs.lemmas.List.{length-append}
use Rattle.krb_file.specs.Cursor.{Place, ◌>>=◌, data_at, data_bytes, number_bytes, times_at}
use Rattle.krb_file.proofs.CursorLaws.{IsField-data32, bind_some, some_is}
use Rattle.krb_file.proofs.Repeated.{IsField-times}
use Rattle.krb_name.specs.Inner.Held.{AreHeld, IsRead, components_at, listed}

-- they are read again
pub read_again : (count : ℕ) (bytes : List ℕ) (held : AreHeld count bytes) → components_at count bytes ≡ Some (held.components, record { at = length bytes; rest = [] })
read_again count bytes held =
    let again = (IsField-times (data_at w32) (data_bytes w32) (λ b. length b < 2 ^ 32) IsField-data32 count).again 0 held.components [] (held.count_is, held.small) in
    let same : bytes ≡ flat_map (data_bytes w32) held.components ++ [] = held.bytes_are ∙ sym (append-nil (flat_map (data_bytes w32) held.components)) in
    let place : 0 + length (flat_map (data_bytes w32) held.components) ≡ length bytes = omega (arith, ap length held.bytes_are) in
    ap (components_at count) same ∙ again ∙ ap (λ (n : ℕ). Some (held.components, record { at = n; rest = [] })) place

pub view_is : (count : ℕ) (bytes : List ℕ) (held : AreHeld count bytes) → listed (components_at count bytes) ≡ held.components
view_is count bytes held = ap listed (read_again count bytes held)

all_more : {X : Type 0} (P : X → Type 0) (xs : List X) (x : X) → AllByRecursion P xs → P x → AllByRecursion P (xs ++ x ∷ [])
all_more P [] x all one = (one, tt)
all_more P (y ∷ xs) x all one = (all.0, all_more P xs x all.1 one)

flat_more : {X : Type 0} (f : X → List ℕ) (xs : List X) (x : X) → flat_map f (xs ++ x ∷ []) ≡ flat_map f xs ++ f x
flat_more f [] x = append-nil (f x)
flat_more f (y ∷ xs) x = ap (λ (t : List ℕ). f y ++ t) (flat_more f xs x) ∙ sym (append_assoc (f y) (flat_map f xs) (f x))

-- one more is held after them
pub pushed : (count : ℕ) (old new component : List ℕ) → AreHeld count old → length component < 2 ^ 32 → new ≡ old ++ data_bytes w32 component → AreHeld (count + 1) new
pushed count old new component held small more =
    record {
      components = held.components ++ component ∷ [];
      count_is = length-append held.components (component ∷ []) ∙ ap (λ (n : ℕ). n + 1) held.count_is;
      small = all_more (λ b. length b < 2 ^ 32) held.components component held.small small;
      bytes_are = more ∙ ap (λ (t : List ℕ). t ++ data_bytes w32 component) held.bytes_are ∙ sym (flat_more (data_bytes w32) held.components component);
    }

pub pushed_view : (count : ℕ) (old new component : List ℕ) (held : AreHeld count old) (small : length component < 2 ^ 32) (more : new ≡ old ++ data_bytes w32 component)
    → listed (components_at (count + 1) new) ≡ listed (components_at count old) ++ component ∷ []
unfolding pushed
pushed_view count old new component held small more =
    view_is (count + 1) new (pushed count old new component held small more) ∙ ap (λ (c : List (List ℕ)). c ++ component ∷ []) (sym (view_is count old held))

-- what is read of components that are held, at their start
pub is_read : (count : ℕ) (bytes : List ℕ) → AreHeld count bytes → IsRead (components_at count bytes)
is_read count bytes held = (_, read_again count bytes held)

-- one of them is read, and then the others
pub record Begins (left : ℕ) (place : Place) : Type 0 where
  pub first : List ℕ
  pub behind : Place
  pub read : data_at w32 place ≡ Some (first, behind)
  pub others : IsRead (times_at (data_at w32) left behind)
  pub all : listed (times_at (data_at w32) (suc left) place) ≡ first ∷ listed (times_at (data_at w32) left behind)

begins_with : (left : ℕ) (place : Place) → IsRead (times_at (data_at w32) (suc left) place) → Begins left place
unfolding times_at
begins_with left place is =
    let a = bind_some (data_at w32 place) (λ first. times_at (data_at w32) left first.1 >>= λ others. Some (first.0 ∷ others.0, others.1)) is.0 is.1 in
    let b = bind_some (times_at (data_at w32) left a.0.1) (λ others. Some (a.0.0 ∷ others.0, others.1)) is.0 a.2 in
    record {
      first = a.0.0;
      behind = a.0.1;
      read = a.1;
      others = (b.0, b.1);
      all = ap listed (is.1 ∙ sym b.2) ∙ ap (λ (xs : Option (List (List ℕ) × Place)). a.0.0 ∷ listed xs) (sym b.1);
    }

pub begins : (left : ℕ) (place : Place) → 0 < left → IsRead (times_at (data_at w32) left place) → Begins (left - 1) place
begins left place some is =
    let one : left ≡ suc (left - 1) = omega (arith, some) in
    begins_with (left - 1) place (subst (λ (n : ℕ). IsRead (times_at (data_at w32) n place)) one is)

-- no more are left
pub none_left : (left : ℕ) (place : Place) → left ≡ 0 → listed (times_at (data_at w32) left place) ≡ []
unfolding times_at
none_left left place none = rw none refl

four : (n : ℕ) → length (number_bytes w32 n) ≡ 4
four n = refl

-- each takes some bytes
not_fewer : (components : List (List ℕ)) → length components ≤ length (flat_map (data_bytes w32) components)
not_fewer [] = omega arith
not_fewer (c ∷ cs) = omega (arith, not_fewer cs, length-append (data_bytes w32 c) (flat_map (data_bytes w32) cs), length-append (number_bytes w32 (length c)) c, four (length c))

pub count_within : (count : ℕ) (bytes : List ℕ) → AreHeld count bytes → count ≤ length bytes
count_within count bytes held = omega (arith, held.count_is, not_fewer held.components, ap length held.bytes_are)

-- what a call that reads one leaves
pub read_one : (left : ℕ) (place : Place) (first : List ℕ) (behind : Place) → 0 < left → IsRead (times_at (data_at w32) left place) → data_at w32 place ≡ Some (first, behind)
    → IsRead (times_at (data_at w32) (left - 1) behind) × (listed (times_at (data_at w32) left place) ≡ first ∷ listed (times_at (data_at w32) (left - 1) behind))
read_one left place first behind some is read =
    let b = begins left place some is in
    let one : left ≡ suc (left - 1) = omega (arith, some) in
    let same : (b.first, b.behind) ≡ (first, behind) = some_is _ _ (sym b.read ∙ read) in
    subst (λ (x : List ℕ × Place). IsRead (times_at (data_at w32) (left - 1) x.1) × (listed (times_at (data_at w32) left place) ≡ x.0 ∷ listed (times_at (data_at w32) (left - 1) x.1))) same
    (b.others, ap (λ (n : ℕ). listed (times_at (data_at w32) n place)) one ∙ b.all)

nothing_some : {A : Type 0} (x : A) → None ≡ Some x → ⊥
nothing_some x e = cc

-- one can be read if there are some
pub read_none : {P : Type 0} (left : ℕ) (place : Place) → 0 < left → IsRead (times_at (data_at w32) left place) → data_at w32 place ≡ None → P
read_none left place some is short = let b = begins left place some is in absurd (nothing_some (b.first, b.behind) (sym short ∙ b.read))

pub counts : (count : ℕ) (old new component : List ℕ) → AreHeld count old → length component < 2 ^ 32 → new ≡ old ++ data_bytes w32 component → count + 1 ≤ length new
counts count old new component held small more = count_within (count + 1) new (pushed count old new component held small more)
