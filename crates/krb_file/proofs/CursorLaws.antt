-- Each field that a cursor reads is a field: what is read is spelled there, and what is spelled there is read.
use Rattle.std.proofs.Common.{◌≡◌, ℕ, zero, suc, ℤ, ◌+◌, ◌^◌, ◌<◌, ◌≤◌, true, leb, List, [], ◌∷◌, ◌++◌, length, take, drop, Option, Some, None, refl, sym, ap, subst, ◌∙◌, append_assoc, arith, inl, inr}
use Rattle.std.specs.Int.{Width, w8, w16, w32, byte_len, to_be_bytes, from_be_bytes, cast_signed, cast_unsigned}
use mir.Val.{bits}
use Rattle.std.proofs.Math.Facts.{Fits-of_z, sfits_to_z}
use Rattle.std.specs.Prelude.{FitsSigned}
use Rattle.std.proofs.lemmas.Int.{of_z-to_z, to_z-of_z}
use Rattle.std.proofs.lemmas.Bool.{cases_lt, leb-true, le-leb}
use Rattle.std.proofs.lemmas.List.{take_at, drop_at, take-append-drop, length-append, length-take, get_or-drop, get_or-take, get_or_past}
use Rattle.std.proofs.lemmas.Nat.{be_bytes_2, be_bytes_4, from_be_bytes-to_be_bytes_2, from_be_bytes-to_be_bytes_4}
use Rattle.std.proofs.lemmas.Option.{cond_some}
use Rattle.krb_file.specs.Cursor.{Place, ◌>>=◌, bytes_at, number_at, signed_at, data_at, number_bytes, signed_bytes, data_bytes}
use Rattle.krb_file.specs.Field.{IsBytes, Takes, IsField}

pub IsBytes-drop : (n : ℕ) (bytes : List ℕ) → IsBytes bytes → IsBytes (drop n bytes)
IsBytes-drop n bytes h i = rw get_or-drop (h (n + i))

pub IsBytes-take : (n : ℕ) (bytes : List ℕ) → IsBytes bytes → IsBytes (take n bytes)
IsBytes-take n bytes h i =
    elim (cases_lt i n) [
      | inl lt ↦ rw (get_or-take n bytes i 0 lt) (h i)
      | inr le ↦ rw (get_or_past (take n bytes) i 0 (omega (arith, length-take n bytes))) (omega arith)
    ]

pub IsBytes-append : (xs ys : List ℕ) → IsBytes xs → IsBytes ys → IsBytes (xs ++ ys)
IsBytes-append [] ys p q i = q i
IsBytes-append (x ∷ xs) ys p q zero = p 0
IsBytes-append (x ∷ xs) ys p q (suc i) = IsBytes-append xs ys (λ j. p (suc j)) q i

-- the value of a step that read something
pub bind_some : {A B : Type 0} (read : Option A) (f : A → Option B) (y : B) → (read >>= f) ≡ Some y → (x : A) × (read ≡ Some x) × (f x ≡ Some y)
bind_some None f y e = absurd cc
bind_some (Some x) f y e = (x, refl, e)

abbrev found : {A : Type 0} → A → Option A
found x = Some x

pub some_is : {A : Type 0} (x y : A) → found x ≡ found y → x ≡ y
some_is x y e = cc

-- one text after another
pub Takes-then : (a : Place) (x : List ℕ) (b : Place) (y : List ℕ) (c : Place) → Takes a x b → Takes b y c → Takes a (x ++ y) c
Takes-then a x b y c p q = record {
  parts = p.parts ∙ ap (λ (t : List ℕ). x ++ t) q.parts ∙ sym (append_assoc x y c.rest);
  at = omega (arith, p.at, q.at, length-append x y);
  text_fits = IsBytes-append x y p.text_fits q.text_fits;
  rest_fits = q.rest_fits;
}

-- ---- bytes

bytes_take : (count : ℕ) (place : Place) (x : List ℕ) (behind : Place) → IsBytes place.rest → bytes_at count place ≡ Some (x, behind) → Takes place x behind × (length x ≡ count)
unfolding bytes_at
bytes_take count place x behind fits e =
    let g = cond_some (leb count (length place.rest)) (take count place.rest, record { at = place.at + count; rest = drop count place.rest }) (x, behind) e in
    let long : count ≤ length place.rest = leb-true _ _ g.0 in
    let made : List ℕ × Place = (take count place.rest, record { at = place.at + count; rest = drop count place.rest }) in
    let len : length (take count place.rest) ≡ count = omega (arith, length-take count place.rest) in
    subst (λ (p : List ℕ × Place). Takes place p.0 p.1 × (length p.0 ≡ count)) g.1 (
      record {
        parts = sym (take-append-drop count place.rest);
        at = ap (λ (n : ℕ). place.at + n) (sym len);
        text_fits = IsBytes-take count place.rest fits;
        rest_fits = IsBytes-drop count place.rest fits;
      },
      len,
    )

bytes_again : (count at : ℕ) (x rest : List ℕ) → length x ≡ count → bytes_at count (record { at = at; rest = x ++ rest }) ≡ Some (x, record { at = at + length x; rest = rest })
unfolding bytes_at
bytes_again count at x rest len =
    let long : leb count (length (x ++ rest)) ≡ true = le-leb _ _ (omega (arith, length-append x rest)) in
    rw (long, take_at x rest count len, drop_at x rest count len, len) refl

pub IsField-bytes : (count : ℕ) → IsField (bytes_at count) (λ bytes. bytes) (λ bytes. length bytes ≡ count)
IsField-bytes count = record { takes = bytes_take count; again = bytes_again count }

-- ---- numbers

one_byte : (bytes : List ℕ) → length bytes ≡ 1 → IsBytes bytes → to_be_bytes w8 (from_be_bytes w8 bytes) ≡ bytes
one_byte [] len fits = absurd cc
one_byte (x ∷ []) len fits = let small : x < 256 = fits 0 in ap (λ (n : ℕ). n ∷ []) (omega arith)
one_byte (x ∷ y ∷ bytes) len fits = absurd (omega (arith, len))

-- a width at which numbers and their bytes go back and forth
record IsWide (w : Width) (limit : ℕ) : Type 0 where
  len : (n : ℕ) → length (to_be_bytes w n) ≡ byte_len w
  back : (bytes : List ℕ) → length bytes ≡ byte_len w → IsBytes bytes → to_be_bytes w (from_be_bytes w bytes) ≡ bytes
  again : (n : ℕ) → n < limit → from_be_bytes w (to_be_bytes w n) ≡ n
  below : (bytes : List ℕ) → IsBytes bytes → from_be_bytes w bytes < limit

wide8 : IsWide w8 (2 ^ 8)
wide8 = record {
  len = λ n. refl;
  back = one_byte;
  again = λ n lt. omega arith;
  below = λ bytes fits. omega (arith, fits 0);
}

wide16 : IsWide w16 (2 ^ 16)
wide16 = record {
  len = λ n. refl;
  back = λ bytes len fits. be_bytes_2 bytes _ len fits refl;
  again = λ n lt. from_be_bytes-to_be_bytes_2 n lt;
  below = λ bytes fits. omega (arith, fits 0, fits 1);
}

wide32 : IsWide w32 (2 ^ 32)
wide32 = record {
  len = λ n. refl;
  back = λ bytes len fits. be_bytes_4 bytes _ len fits refl;
  again = λ n lt. from_be_bytes-to_be_bytes_4 n lt;
  below = λ bytes fits. omega (arith, fits 0, fits 1, fits 2, fits 3);
}

number_takes : (w : Width) (limit : ℕ) → IsWide w limit → (place : Place) (n : ℕ) (behind : Place) → IsBytes place.rest → number_at w place ≡ Some (n, behind)
    → Takes place (number_bytes w n) behind × (n < limit)
unfolding number_at
number_takes w limit wide place n behind fits e =
    let b = bind_some (bytes_at (byte_len w) place) (λ read. Some (from_be_bytes w read.0, read.1)) (n, behind) e in
    let t = bytes_take (byte_len w) place b.0.0 b.0.1 fits b.1 in
    let spelled : to_be_bytes w (from_be_bytes w b.0.0) ≡ b.0.0 = wide.back b.0.0 t.1 t.0.text_fits in
    subst (λ (p : ℕ × Place). Takes place (number_bytes w p.0) p.1 × (p.0 < limit)) (some_is (from_be_bytes w b.0.0, b.0.1) (n, behind) b.2)
    (subst (λ (text : List ℕ). Takes place text b.0.1) (sym spelled) t.0, wide.below b.0.0 t.0.text_fits)

number_again : (w : Width) (limit : ℕ) → IsWide w limit → (at n : ℕ) (rest : List ℕ) → n < limit
    → number_at w (record { at = at; rest = number_bytes w n ++ rest }) ≡ Some (n, record { at = at + length (number_bytes w n); rest = rest })
unfolding number_at
number_again w limit wide at n rest lt = rw (bytes_again (byte_len w) at (to_be_bytes w n) rest (wide.len n), wide.again n lt) refl

number_field : (w : Width) (limit : ℕ) → IsWide w limit → IsField (number_at w) (number_bytes w) (λ n. n < limit)
number_field w limit wide = record { takes = number_takes w limit wide; again = number_again w limit wide }

pub IsField-u8 : IsField (number_at w8) (number_bytes w8) (λ n. n < 2 ^ 8)
IsField-u8 = number_field w8 (2 ^ 8) wide8

pub IsField-u16 : IsField (number_at w16) (number_bytes w16) (λ n. n < 2 ^ 16)
IsField-u16 = number_field w16 (2 ^ 16) wide16

pub IsField-u32 : IsField (number_at w32) (number_bytes w32) (λ n. n < 2 ^ 32)
IsField-u32 = number_field w32 (2 ^ 32) wide32

-- ---- signed numbers

signed_takes : (w : Width) → IsField (number_at w) (number_bytes w) (λ n. n < 2 ^ bits w) → (place : Place) (z : ℤ) (behind : Place) → IsBytes place.rest
    → signed_at w place ≡ Some (z, behind) → Takes place (signed_bytes w z) behind × FitsSigned w z
unfolding signed_at
signed_takes w field place z behind fits e =
    let b = bind_some (number_at w place) (λ read. Some (cast_signed w read.0, read.1)) (z, behind) e in
    let t = field.takes place b.0.0 b.0.1 fits b.1 in
    let back : cast_unsigned w (cast_signed w b.0.0) ≡ b.0.0 = of_z-to_z w b.0.0 t.1 in
    subst (λ (p : ℤ × Place). Takes place (signed_bytes w p.0) p.1 × FitsSigned w p.0) (some_is (cast_signed w b.0.0, b.0.1) (z, behind) b.2)
    (subst (λ (n : ℕ). Takes place (number_bytes w n) b.0.1) (sym back) t.0, sfits_to_z (record { fits = t.1 }))

signed_again : (w : Width) → IsField (number_at w) (number_bytes w) (λ n. n < 2 ^ bits w) → (at : ℕ) (z : ℤ) (rest : List ℕ) → FitsSigned w z
    → signed_at w (record { at = at; rest = signed_bytes w z ++ rest }) ≡ Some (z, record { at = at + length (signed_bytes w z); rest = rest })
unfolding signed_at
signed_again w field at z rest fits = rw (field.again at (cast_unsigned w z) rest (Fits-of_z fits).fits, to_z-of_z w z fits) refl

signed_field : (w : Width) → IsField (number_at w) (number_bytes w) (λ n. n < 2 ^ bits w) → IsField (signed_at w) (signed_bytes w) (FitsSigned w)
signed_field w field = record { takes = signed_takes w field; again = signed_again w field }

pub IsField-i16 : IsField (signed_at w16) (signed_bytes w16) (FitsSigned w16)
IsField-i16 = signed_field w16 IsField-u16

pub IsField-i32 : IsField (signed_at w32) (signed_bytes w32) (FitsSigned w32)
IsField-i32 = signed_field w32 IsField-u32

-- ---- bytes after their length

data_takes : (w : Width) (limit : ℕ) → IsField (number_at w) (number_bytes w) (λ n. n < limit) → (place : Place) (x : List ℕ) (behind : Place) → IsBytes place.rest
    → data_at w place ≡ Some (x, behind) → Takes place (data_bytes w x) behind × (length x < limit)
unfolding data_at
data_takes w limit field place x behind fits e =
    let b = bind_some (number_at w place) (λ count. bytes_at count.0 count.1) (x, behind) e in
    let t = field.takes place b.0.0 b.0.1 fits b.1 in
    let u = bytes_take b.0.0 b.0.1 x behind t.0.rest_fits b.2 in
    let whole = Takes-then place (number_bytes w b.0.0) b.0.1 x behind t.0 u.0 in
    subst (λ (n : ℕ). Takes place (number_bytes w n ++ x) behind × (n < limit)) (sym u.1) (whole, t.1)

data_again : (w : Width) (limit : ℕ) → IsField (number_at w) (number_bytes w) (λ n. n < limit) → (at : ℕ) (x rest : List ℕ) → length x < limit
    → data_at w (record { at = at; rest = data_bytes w x ++ rest }) ≡ Some (x, record { at = at + length (data_bytes w x); rest = rest })
unfolding data_at
data_again w limit field at x rest lt =
    let grouped : data_bytes w x ++ rest ≡ number_bytes w (length x) ++ (x ++ rest) = append_assoc (number_bytes w (length x)) x rest in
    let after : ℕ = at + length (number_bytes w (length x)) in
    let place : after + length x ≡ at + length (data_bytes w x) = omega (arith, length-append (number_bytes w (length x)) x) in
    rw (grouped, field.again at (length x) (x ++ rest) lt, bytes_again (length x) after x rest refl, place) refl

data_field : (w : Width) (limit : ℕ) → IsField (number_at w) (number_bytes w) (λ n. n < limit) → IsField (data_at w) (data_bytes w) (λ bytes. length bytes < limit)
data_field w limit field = record { takes = data_takes w limit field; again = data_again w limit field }

pub IsField-data16 : IsField (data_at w16) (data_bytes w16) (λ bytes. length bytes < 2 ^ 16)
IsField-data16 = data_field w16 (2 ^ 16) IsField-u16

pub IsField-data32 : IsField (data_at w32) (data_bytes w32) (λ bytes. length bytes < 2 ^ 32)
IsField-data32 = data_field w32 (2 ^ 32) IsField-u32
