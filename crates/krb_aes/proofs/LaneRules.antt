-- Look-ups on 16 lanes, lane by lane.
use Rattle.std.proofs.Common.{◌≡◌, Fits, ℕ, suc, ◌+◌, ◌*◌, ◌/◌, ◌^◌, ◌<◌, ◌≤◌, ◌||◌, Bool, true, T, IsTrue, List, [], ◌∷◌, length, map, replicate, refl, sym, ap, ◌∙◌, subst, arith, bit_and, bit_xor, nat_le, nat_lt, w8}
use Rattle.std.specs.Simd.Lanes.{Each1, zip2}
use Rattle.std.proofs.lemmas.Bool.{agree_below, agree_below_at, or_right, lt-ltb, ltb-true}
use Rattle.std.proofs.lemmas.Float.{T_from_true}
use Rattle.std.proofs.lemmas.Simd.{swz_l, SwzOk, SwzOk-from_Each1, below_from_Fits, Each1-weaker, Each1-zip2, Each2-of, length-zip2, zip2_splat, zip2_of_maps}
use Rattle.krb_aes.specs.State.{at, state_of}
use Rattle.krb_aes.specs.Inner.Tower.{ArePlaces, LanesBelow, looked_up, by_nibbles, io_of, jo_of, io_at, jo_at, read_from}
use Rattle.krb_aes.specs.declared.tower.TheConstants.{INVERSES, A_OVER}
use Rattle.krb_aes.proofs.Bytes.{state_of-at}

abbrev is_place : ℕ → Bool
is_place p = nat_le 128 p || nat_lt p 16

pub places_fit : (ps : List ℕ) → ArePlaces ps → SwzOk w8 16 16 0 ps
places_fit ps are =
    SwzOk-from_Each1 w8 16 1 16 0 ps refl (omega (arith, are.size))
    (Each1-weaker (λ p. IsTrue (is_place p)) (λ p. T (is_place p)) (λ p e. T_from_true (is_place p) e) ps are.each)

looked_up_lanes : (table ps : List ℕ) (i : ℕ) → i + length ps ≤ 16 → swz_l w8 16 table i ps ≡ map (looked_up table) ps
looked_up_lanes table [] i within = refl
looked_up_lanes table (p ∷ ps) i within =
    let place : 16 * (i / 16) + p ≡ p = omega arith in
    rw (place, looked_up_lanes table ps (suc i) (omega arith)) refl

pub swz_is_map : (table ps : List ℕ) → ArePlaces ps → swz_l w8 16 table 0 ps ≡ map (looked_up table) ps
swz_is_map table ps are = looked_up_lanes table ps 0 (omega (arith, are.size))

-- ---- lanes below a bound

-- a vector of 16 bytes
pub bytes_in_lanes : (v : List ℕ) → (length v ≡ 16) × Each1 (Fits w8) v → LanesBelow 256 v
bytes_in_lanes v is = record { size = is.0; each = below_from_Fits w8 v is.1 }

pub places_below : (ps : List ℕ) → LanesBelow 16 ps → ArePlaces ps
places_below ps below = record {
  size = below.size;
  each = Each1-weaker (λ p. p < 16) (λ p. IsTrue (is_place p)) (λ p small. or_right (nat_le 128 p) (nat_lt p 16) (lt-ltb p 16 small)) ps below.each;
}

-- 16 lanes with a fact of each of two by two
below_by_test : (p : ℕ → Bool) (g : ℕ → ℕ) → agree_below (λ x. p (g x)) (λ _. true) 256 ≡ true → (v : List ℕ) → Each1 (λ x. x < 256) v →
    Each1 (λ y. IsTrue (p y)) (map g v)
below_by_test p g ok [] bytes = tt
below_by_test p g ok (x ∷ xs) bytes =
    (agree_below_at (λ y. p (g y)) (λ _. true) 256 x ok bytes.0, below_by_test p g ok xs bytes.1)

length-map_lanes : (g : ℕ → ℕ) (v : List ℕ) → length (map g v) ≡ length v
length-map_lanes g [] = refl
length-map_lanes g (x ∷ xs) = ap suc (length-map_lanes g xs)

pub places_of_bytes : (g : ℕ → ℕ) → agree_below (λ x. is_place (g x)) (λ _. true) 256 ≡ true → (v : List ℕ) → LanesBelow 256 v → ArePlaces (map g v)
places_of_bytes g ok v below = record {
  size = length-map_lanes g v ∙ below.size;
  each = below_by_test is_place g ok v below.each;
}

pub nibbles_of_bytes : (g : ℕ → ℕ) → agree_below (λ x. nat_lt (g x) 16) (λ _. true) 256 ≡ true → (v : List ℕ) → LanesBelow 256 v → LanesBelow 16 (map g v)
nibbles_of_bytes g ok v below = record {
  size = length-map_lanes g v ∙ below.size;
  each = Each1-weaker (λ y. IsTrue (nat_lt y 16)) (λ y. y < 16) (λ y e. ltb-true y 16 e) (map g v)
      (below_by_test (λ y. nat_lt y 16) g ok v below.each);
}

pub places_of_nibbles : (f : ℕ → ℕ → ℕ) →
    agree_below (λ i. agree_below (λ k. is_place (f i k)) (λ _. true) 16) (λ _. true) 16 ≡ true →
    (xs ys : List ℕ) → LanesBelow 16 xs → LanesBelow 16 ys → ArePlaces (zip2 f xs ys)
places_of_nibbles f ok xs ys xs_below ys_below = record {
  size = length-zip2 f xs ys (xs_below.size ∙ sym ys_below.size) ∙ xs_below.size;
  each = Each1-zip2 f (λ p. IsTrue (is_place p)) xs ys
      (Each2-of (λ x. x < 16) (λ y. y < 16) (λ x y. IsTrue (is_place (f x y)))
      (λ x y x_small y_small.
      agree_below_at (λ k. is_place (f x k)) (λ _. true) 16 y
      (agree_below_at (λ i. agree_below (λ k. is_place (f i k)) (λ _. true) 16) (λ _. true) 16 x ok x_small) y_small)
      xs ys xs_below.each ys_below.each);
}

-- ---- one lane's value for all lanes

pub map_same : (f g : ℕ → ℕ) → ((x : ℕ) → x < 256 → f x ≡ g x) → (v : List ℕ) → Each1 (λ x. x < 256) v → map f v ≡ map g v
map_same f g same [] bytes = refl
map_same f g same (x ∷ xs) bytes = λ i. same x bytes.0 i ∷ map_same f g same xs bytes.1 i

-- what holds of 16 lanes written out
pub lanes_16 : (P : List ℕ → Type 0) → ((f : ℕ → ℕ → ℕ) → P (state_of f)) → (v : List ℕ) → length v ≡ 16 → P v
lanes_16 P h v size = subst P (state_of-at v size) (h (at v))

-- a function of what another gives for bytes
pub map_after : (g f h : ℕ → ℕ) → ((x : ℕ) → x < 256 → f (g x) ≡ h x) → (v : List ℕ) → Each1 (λ x. x < 256) v →
    map f (map g v) ≡ map h v
map_after g f h same [] bytes = refl
map_after g f h same (x ∷ xs) bytes = λ i. same x bytes.0 i ∷ map_after g f h same xs bytes.1 i

pub by_nibbles_lanes : (low high v p q : List ℕ) → length v ≡ 16 →
    p ≡ map (looked_up low) (zip2 bit_and v (replicate 16 15)) →
    q ≡ map (looked_up high) (zip2 (λ a b. a / 2 ^ b) v (replicate 16 4)) →
    zip2 bit_xor p q ≡ map (by_nibbles low high) v
by_nibbles_lanes low high v p q size p_is q_is =
    let P : List ℕ → Type 0 = λ w.
    zip2 bit_xor (map (looked_up low) (zip2 bit_and w (replicate 16 15)))
    (map (looked_up high) (zip2 (λ a b. a / 2 ^ b) w (replicate 16 4))) ≡ map (by_nibbles low high) w in
    rw (p_is, q_is) (lanes_16 P (λ f. refl) v size)

pub low_halves : (v : List ℕ) → length v ≡ 16 → zip2 bit_and v (replicate 16 15) ≡ map (λ x. bit_and x 15) v
low_halves v size = zip2_splat bit_and v 16 15 size

pub high_halves : (v : List ℕ) → length v ≡ 16 → zip2 (λ a b. a / 2 ^ b) v (replicate 16 4) ≡ map (λ x. x / 2 ^ 4) v
high_halves v size = zip2_splat (λ a b. a / 2 ^ b) v 16 4 size

-- the same constant added to each lane
pub with_constant : (f : ℕ → ℕ) (c : ℕ) (v : List ℕ) → length v ≡ 16 →
    zip2 bit_xor (map f v) (replicate 16 c) ≡ map (λ x. bit_xor (f x) c) v
with_constant f c = lanes_16 (λ w. zip2 bit_xor (map f w) (replicate 16 c) ≡ map (λ x. bit_xor (f x) c) w) (λ g. refl)

-- ---- the inverse of k + i * s

zip2-maps : (f : ℕ → ℕ → ℕ) (g h : ℕ → ℕ) (xs ys : List ℕ) → zip2 f (map g xs) (map h ys) ≡ zip2 (λ x y. f (g x) (h y)) xs ys
zip2-maps f g h [] ys = refl
zip2-maps f g h (x ∷ xs) [] = refl
zip2-maps f g h (x ∷ xs) (y ∷ ys) = ap (λ t. f (g x) (h y) ∷ t) (zip2-maps f g h xs ys)

zip2-map_of_zip2 : (f : ℕ → ℕ → ℕ) (e : ℕ → ℕ → ℕ) (g h : ℕ → ℕ) (xs ys : List ℕ) →
    zip2 f (map g (zip2 e xs ys)) (map h ys) ≡ zip2 (λ x y. f (g (e x y)) (h y)) xs ys
zip2-map_of_zip2 f e g h [] ys = refl
zip2-map_of_zip2 f e g h (x ∷ xs) [] = refl
zip2-map_of_zip2 f e g h (x ∷ xs) (y ∷ ys) = ap (λ t. f (g (e x y)) (h y) ∷ t) (zip2-map_of_zip2 f e g h xs ys)

pub xor_places : (i k : List ℕ) → LanesBelow 16 i → LanesBelow 16 k → ArePlaces (zip2 bit_xor i k)
xor_places = places_of_nibbles bit_xor refl

pub io_places : (i k p a : List ℕ) → LanesBelow 16 i → LanesBelow 16 k →
    p ≡ map (looked_up INVERSES) i → a ≡ map (looked_up A_OVER) k → ArePlaces (zip2 bit_xor p a)
io_places i k p a i_below k_below p_is a_is =
    subst ArePlaces (sym ((λ j. zip2 bit_xor (p_is j) (a_is j)) ∙ zip2-maps bit_xor (looked_up INVERSES) (looked_up A_OVER) i k))
    (places_of_nibbles (λ x y. bit_xor (looked_up INVERSES x) (looked_up A_OVER y)) refl i k i_below k_below)

pub jo_places : (i k p a : List ℕ) → LanesBelow 16 i → LanesBelow 16 k →
    p ≡ map (looked_up INVERSES) (zip2 bit_xor i k) → a ≡ map (looked_up A_OVER) k → ArePlaces (zip2 bit_xor p a)
jo_places i k p a i_below k_below p_is a_is =
    subst ArePlaces (sym ((λ j. zip2 bit_xor (p_is j) (a_is j))
    ∙ zip2-map_of_zip2 bit_xor bit_xor (looked_up INVERSES) (looked_up A_OVER) i k))
    (places_of_nibbles (λ x y. bit_xor (looked_up INVERSES (bit_xor x y)) (looked_up A_OVER y)) refl i k i_below k_below)

io_all : (i k : List ℕ) →
    zip2 bit_xor (map (looked_up INVERSES) (zip2 bit_xor (map (looked_up INVERSES) i) (map (looked_up A_OVER) k))) (zip2 bit_xor i k)
    ≡ zip2 io_of i k
io_all [] ys = refl
io_all (x ∷ xs) [] = refl
io_all (x ∷ xs) (y ∷ ys) = ap (λ t. io_of x y ∷ t) (io_all xs ys)

pub io_lanes : (i k p a q : List ℕ) → p ≡ map (looked_up INVERSES) i → a ≡ map (looked_up A_OVER) k →
    q ≡ map (looked_up INVERSES) (zip2 bit_xor p a) → zip2 bit_xor q (zip2 bit_xor i k) ≡ zip2 io_of i k
io_lanes i k p a q p_is a_is q_is = rw (q_is, p_is, a_is) (io_all i k)

jo_all : (i k : List ℕ) →
    zip2 bit_xor (map (looked_up INVERSES) (zip2 bit_xor (map (looked_up INVERSES) (zip2 bit_xor i k)) (map (looked_up A_OVER) k))) i
    ≡ zip2 jo_of i k
jo_all [] ys = refl
jo_all (x ∷ xs) [] = refl
jo_all (x ∷ xs) (y ∷ ys) = ap (λ t. jo_of x y ∷ t) (jo_all xs ys)

pub jo_lanes : (i k p a q : List ℕ) → p ≡ map (looked_up INVERSES) (zip2 bit_xor i k) → a ≡ map (looked_up A_OVER) k →
    q ≡ map (looked_up INVERSES) (zip2 bit_xor p a) → zip2 bit_xor q i ≡ zip2 jo_of i k
jo_lanes i k p a q p_is a_is q_is = rw (q_is, p_is, a_is) (jo_all i k)

-- the sum of two look-ups
pub summed_lanes : (s t f g : ℕ → ℕ) (v : List ℕ) →
    zip2 bit_xor (map s (map f v)) (map t (map g v)) ≡ map (λ x. bit_xor (s (f x)) (t (g x))) v
summed_lanes s t f g [] = refl
summed_lanes s t f g (x ∷ xs) = ap (λ l. bit_xor (s (f x)) (t (g x)) ∷ l) (summed_lanes s t f g xs)

pub pairs_lanes : (e : ℕ → ℕ → ℕ) (f g : ℕ → ℕ) (v p q r : List ℕ) → p ≡ map f v → q ≡ map g v → r ≡ zip2 e p q →
    r ≡ map (λ x. e (f x) (g x)) v
pairs_lanes e f g v p q r p_is q_is r_is = r_is ∙ zip2_of_maps e f g v p_is q_is

-- the sum of look-ups at the two values of each lane
pub read_lanes : (io_table jo_table form io jo r : List ℕ) → io ≡ map io_at form → jo ≡ map jo_at form →
    r ≡ zip2 bit_xor (map (looked_up io_table) io) (map (looked_up jo_table) jo) → r ≡ map (read_from io_table jo_table) form
read_lanes io_table jo_table form io jo r io_is jo_is r_is =
    r_is
    ∙ (λ i. zip2 bit_xor (map (looked_up io_table) (io_is i)) (map (looked_up jo_table) (jo_is i)))
    ∙ summed_lanes (looked_up io_table) (looked_up jo_table) io_at jo_at form
