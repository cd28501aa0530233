-- Facts that are decided: they hold, or they are refuted.
use Rattle.std.proofs.Common.{◌≡◌, ℕ, ◌<◌, ℤ, pos, negsuc, List, [], ◌∷◌, refl, ap, ◌∙◌, inl, inr, ◌⊎◌, arith}
use Rattle.std.specs.Prelude.{◌≤ℤ◌, ◌<ℤ◌, All}
use Rattle.std.proofs.lemmas.Int.{ints}
use Rattle.std.proofs.lemmas.List.Elements.{All-nil, All-cons, All-head, All-tail}
use Rattle.krb_name.specs.declared.principal.Principal.{Principal}
use Rattle.krb_name.specs.Name.{SameName}
use Rattle.krb_replay.specs.Stamp.{RealmAndName, Stamp}

abbrev pub Decided : Type 0 → Type 0
Decided P = P ⊎ (P → ⊥)

pub both : (P Q : Type 0) → Decided P → Decided Q → Decided (P × Q)
both P Q (inl p) (inl q) = inl (p, q)
both P Q (inl p) (inr none) = inr (λ h. none h.1)
both P Q (inr none) q = inr (λ h. none h.0)

pub one_of : (P Q : Type 0) → Decided P → Decided Q → Decided (P ⊎ Q)
one_of P Q (inl p) q = inl (inl p)
one_of P Q (inr none) (inl q) = inl (inr q)
one_of P Q (inr none) (inr nor) = inr (λ h. elim h [ inl p ↦ none p | inr q ↦ nor q ])

pub none_of : (P : Type 0) → Decided P → Decided (P → ⊥)
none_of P (inl p) = inr (λ h. h p)
none_of P (inr none) = inl none

tri : (m n : ℕ) → (m < n) ⊎ ((m ≡ n) ⊎ (n < m))
tri m n = grind arith

-- in a table, the first that holds has one place
pub one_first : {X : Type 0} (place : X → ℕ) (Holds : X → Type 0) (r s : X) → Holds r → ((other : X) → place other < place r → ¬ Holds other)
    → Holds s → ((other : X) → place other < place s → ¬ Holds other) → place r ≡ place s
one_first place Holds r s one none other nor = elim (tri (place r) (place s)) [
  | inl before ↦ absurd (nor r before one)
  | inr rest ↦ elim rest [ inl same ↦ same | inr after ↦ absurd (none s after other) ]
]

less_is_other : (m n : ℕ) → m < n → m ≡ n → ⊥
less_is_other m n h e = omega arith

more_is_other : (m n : ℕ) → n < m → m ≡ n → ⊥
more_is_other m n h e = omega arith

pub numbers : (m n : ℕ) → Decided (m ≡ n)
numbers m n = elim (tri m n) [
  | inl less ↦ inr (less_is_other m n less)
  | inr rest ↦ elim rest [ inl same ↦ inl same | inr more ↦ inr (more_is_other m n more) ]
]

pos_of : (m n : ℕ) → pos m ≡ pos n → m ≡ n
pos_of m n e = cc

negsuc_of : (m n : ℕ) → negsuc m ≡ negsuc n → m ≡ n
negsuc_of m n e = cc

moved : (P Q : Type 0) → (P → Q) → (Q → P) → Decided P → Decided Q
moved P Q to from (inl p) = inl (to p)
moved P Q to from (inr none) = inr (λ q. none (from q))

pub integers : (a b : ℤ) → Decided (a ≡ b)
integers (pos m) (pos n) = moved (m ≡ n) (pos m ≡ pos n) (λ e. ap pos e) (pos_of m n) (numbers m n)
integers (negsuc m) (negsuc n) = moved (m ≡ n) (negsuc m ≡ negsuc n) (λ e. ap negsuc e) (negsuc_of m n) (numbers m n)
integers (pos m) (negsuc n) = inr (λ e. cc)
integers (negsuc m) (pos n) = inr (λ e. cc)

pub head_of : {X : Type 0} (x y : X) (xs ys : List X) → x ∷ xs ≡ y ∷ ys → x ≡ y
head_of x y xs ys e = cc

pub tail_of : {X : Type 0} (x y : X) (xs ys : List X) → x ∷ xs ≡ y ∷ ys → xs ≡ ys
tail_of x y xs ys e = cc

put : {X : Type 0} (x y : X) (xs ys : List X) → x ≡ y → xs ≡ ys → x ∷ xs ≡ y ∷ ys
put x y xs ys e f = cc

pub lists : {X : Type 0} → ((x y : X) → Decided (x ≡ y)) → (xs ys : List X) → Decided (xs ≡ ys)
lists same [] [] = inl refl
lists same [] (y ∷ ys) = inr (λ e. cc)
lists same (x ∷ xs) [] = inr (λ e. cc)
lists same (x ∷ xs) (y ∷ ys) =
    moved ((x ≡ y) × (xs ≡ ys)) (x ∷ xs ≡ y ∷ ys) (λ h. put x y xs ys h.0 h.1) (λ e. (head_of x y xs ys e, tail_of x y xs ys e))
    (both (x ≡ y) (xs ≡ ys) (same x y) (lists same xs ys))

pub texts : (a b : List ℕ) → Decided (a ≡ b)
texts a b = lists numbers a b

pub names : (a b : List (List ℕ)) → Decided (a ≡ b)
names a b = lists texts a b

pub same_name : (a b : Principal) → Decided (SameName a b)
same_name a b = moved ((a.realm ≡ b.realm) × (a.components ≡ b.components)) (SameName a b)
    (λ h. record { realm = h.0; components = h.1 }) (λ h. (h.realm, h.components))
    (both (a.realm ≡ b.realm) (a.components ≡ b.components) (texts a.realm b.realm) (names a.components b.components))

abbrev named : List ℕ → List (List ℕ) → RealmAndName
named realm components = record { realm = realm; components = components }

abbrev stamped : RealmAndName → RealmAndName → ℤ → Stamp
stamped server client time = record { server = server; client = client; time = time }

full_names : (a b : RealmAndName) → Decided (a ≡ b)
full_names a b = moved ((a.realm ≡ b.realm) × (a.components ≡ b.components)) (a ≡ b) (λ h. joined a b h.0 h.1)
    (λ e. (ap (λ (x : RealmAndName). x.realm) e, ap (λ (x : RealmAndName). x.components) e))
    (both (a.realm ≡ b.realm) (a.components ≡ b.components) (texts a.realm b.realm) (names a.components b.components))
  where
    joined : (a b : RealmAndName) → a.realm ≡ b.realm → a.components ≡ b.components → a ≡ b
    joined a b e f = ap (λ (r : List ℕ). named r a.components) e ∙ ap (λ (c : List (List ℕ)). named b.realm c) f

pub stamps : (a b : Stamp) → Decided (a ≡ b)
stamps a b = moved ((a.server ≡ b.server) × ((a.client ≡ b.client) × (a.time ≡ b.time))) (a ≡ b) (λ h. joined a b h.0 h.1.0 h.1.1)
    (λ e. (ap (λ (x : Stamp). x.server) e, (ap (λ (x : Stamp). x.client) e, ap (λ (x : Stamp). x.time) e)))
    (both (a.server ≡ b.server) ((a.client ≡ b.client) × (a.time ≡ b.time)) (full_names a.server b.server)
    (both (a.client ≡ b.client) (a.time ≡ b.time) (full_names a.client b.client) (integers a.time b.time)))
  where
    joined : (a b : Stamp) → a.server ≡ b.server → a.client ≡ b.client → a.time ≡ b.time → a ≡ b
    joined a b e f g = ap (λ (x : RealmAndName). stamped x a.client a.time) e
        ∙ (ap (λ (x : RealmAndName). stamped b.server x a.time) f ∙ ap (λ (t : ℤ). stamped b.server b.client t) g)

either : (a b : ℤ) → (a ≤ℤ b) ⊎ (b <ℤ a)
either a b = grind (arith, ints)

not_both : (a b : ℤ) → b <ℤ a → a ≤ℤ b → ⊥
not_both a b h g = omega (arith, ints)

pub order : (a b : ℤ) → Decided (a ≤ℤ b)
order a b = elim (either a b) [ inl le ↦ inl le | inr lt ↦ inr (not_both a b lt) ]

pub later : (a b : ℤ) → Decided (a <ℤ b)
later a b = elim (either b a) [ inl le ↦ inr (λ lt. not_both b a lt le) | inr lt ↦ inl lt ]

pub each : {X : Type 0} (P : X → Type 0) → ((x : X) → Decided (P x)) → (xs : List X) → Decided (All P xs)
each P decide [] = inl (All-nil P)
each P decide (x ∷ xs) = moved (P x × All P xs) (All P (x ∷ xs)) (λ h. All-cons P x xs h.0 h.1) (λ h. (All-head P x xs h, All-tail P x xs h))
    (both (P x) (All P xs) (decide x) (each P decide xs))
