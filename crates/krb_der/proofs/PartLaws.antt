-- The laws of a part of a message, from those of the parts that it is made of.
use Rattle.std.proofs.Common.{◌≡◌, ◌⊎◌, inl, inr, ℕ, ◌+◌, ◌^◌, ◌<◌, ◌≤◌, List, [], ◌∷◌, ◌++◌, length, refl, sym, ap, subst, ◌∙◌, arith}
use Rattle.std.proofs.lemmas.Bool.{cases_eq}
use Rattle.krb_der.specs.Spells.{IsLength, IsElement, IsJoined}
use Rattle.krb_der.specs.Size.{element_size}
use Rattle.krb_der.proofs.HeadLaws.{head_is}
use Rattle.krb_der.proofs.Sizes.{IsLength-unique, HasSize, element_sized, joined_sized}

-- A part with one value: which bytes are read as it, which are written, and which have its sequence
-- numbers as negative numbers; whether its numbers are in range, and one of the sequence numbers above
-- 2147483647; and how many bytes are written.
pub record Part : Type 1 where
  pub Reads : List ℕ → Type 0
  pub Writes : List ℕ → Type 0
  pub Negative : List ℕ → Type 0
  pub Fits : Type 0
  pub IsHigh : Type 0
  pub size : ℕ

-- its laws, for a part with so many sequence numbers
pub record IsPart (numbers : ℕ) (p : Part) : Type 0 where
  pub one : (a b : List ℕ) → p.Writes a → p.Writes b → a ≡ b
  pub one_negative : (a b : List ℕ) → p.Negative a → p.Negative b → a ≡ b
  pub fits : (bytes : List ℕ) → p.Reads bytes → p.Fits
  pub sized : HasSize p.Writes p.size
  pub made : p.Fits → p.size < 2 ^ 32 → (bytes : List ℕ) × p.Writes bytes
  pub written : (bytes : List ℕ) → p.Writes bytes → p.Reads bytes
  pub negative : (bytes : List ℕ) → p.Negative bytes → p.Reads bytes
  pub either : numbers ≤ 1 → (bytes : List ℕ) → p.Reads bytes → p.Writes bytes ⊎ (p.Negative bytes × p.IsHigh)
  pub same : numbers ≡ 0 → (bytes : List ℕ) → p.Reads bytes → p.Writes bytes × p.Negative bytes
  pub none : numbers ≡ 0 → p.IsHigh → ⊥

-- ---- a part that is read as it is written
abbrev pub plain_part : (List ℕ → Type 0) → Type 0 → ℕ → Part
plain_part Is Fits size = record { Reads = Is; Writes = Is; Negative = Is; Fits = Fits; IsHigh = ⊥; size = size }

pub plain_is : {n : ℕ} {Is : List ℕ → Type 0} {Fits : Type 0} {size : ℕ} → ((a b : List ℕ) → Is a → Is b → a ≡ b) → ((bytes : List ℕ) → Is bytes → Fits)
    → HasSize Is size → (Fits → (bytes : List ℕ) × Is bytes) → IsPart n (plain_part Is Fits size)
plain_is one fits sized made =
    record {
      one = one;
      one_negative = one;
      fits = fits;
      sized = sized;
      made = λ f small. made f;
      written = λ bytes h. h;
      negative = λ bytes h. h;
      either = λ few bytes h. inl h;
      same = λ none bytes h. (h, h);
      none = λ none h. h;
    }

pub nothing_is : {n : ℕ} → IsPart n (plain_part (λ bytes. bytes ≡ []) (Unit {0}) 0)
nothing_is = plain_is (λ a b h k. h ∙ sym k) (λ bytes h. tt) (λ bytes h. ap length h) (λ f. ([], refl))

-- ---- an element
-- the same element by other rules of its content
pub with_content : {tag : ℕ} {P Q : List ℕ → Type 0} {bytes : List ℕ} (h : IsElement tag P bytes) → Q h.content → IsElement tag Q bytes
with_content h k = record { size = h.size; content = h.content; length_is = h.length_is; content_is = k; whole = h.whole }

element_unique : (tag : ℕ) (P : List ℕ → Type 0) → ((a b : List ℕ) → P a → P b → a ≡ b) → (a b : List ℕ) → IsElement tag P a → IsElement tag P b → a ≡ b
element_unique tag P one a b h k =
    let content = one h.content k.content h.content_is k.content_is in
    let size = IsLength-unique (length k.content) h.size k.size (subst (λ l. IsLength (length l) h.size) content h.length_is) k.length_is in
    h.whole ∙ ap (λ (s : List ℕ). tag ∷ (s ++ h.content)) size ∙ ap (λ (c : List ℕ). tag ∷ (k.size ++ c)) content ∙ sym k.whole

abbrev pub element : ℕ → Part → Part
element tag p =
    record p { Reads = IsElement tag p.Reads; Writes = IsElement tag p.Writes; Negative = IsElement tag p.Negative; size = element_size p.size }

pub element_is : {n : ℕ} {p : Part} (tag : ℕ) → IsPart n p → IsPart n (element tag p)
element_is {p = p} tag is =
    record {
      one = element_unique tag p.Writes is.one;
      one_negative = element_unique tag p.Negative is.one_negative;
      fits = λ bytes h. is.fits h.content h.content_is;
      sized = element_sized tag p.Writes p.size is.sized;
      made = λ f small.
          let c = is.made f (omega (arith, small)) in
          let head = head_is tag (length c.0) (omega (arith, is.sized c.0 c.1, small)) in
          (tag ∷ (head.size ++ c.0), record { size = head.size; content = c.0; length_is = head.length_is; content_is = c.1; whole = refl });
      written = λ bytes h. with_content h (is.written h.content h.content_is);
      negative = λ bytes h. with_content h (is.negative h.content h.content_is);
      either = λ few bytes h. elim (is.either few h.content h.content_is) [
        | inl k ↦ inl (with_content h k)
        | inr k ↦ inr (with_content h k.0, k.1)
      ];
      same = λ none bytes h. let k = is.same none h.content h.content_is in (with_content h k.0, with_content h k.1);
      none = is.none;
    }

-- ---- one part and then another
with_parts : {P Q R S : List ℕ → Type 0} {bytes : List ℕ} (h : IsJoined P Q bytes) → R h.front → S h.back → IsJoined R S bytes
with_parts h r s = record { front = h.front; back = h.back; first = r; rest = s; whole = h.whole }

joined_unique : (P Q : List ℕ → Type 0) → ((a b : List ℕ) → P a → P b → a ≡ b) → ((a b : List ℕ) → Q a → Q b → a ≡ b) → (a b : List ℕ) → IsJoined P Q a → IsJoined P Q b → a ≡ b
joined_unique P Q one rest a b h k =
    h.whole ∙ ap (λ (l : List ℕ). l ++ h.back) (one h.front k.front h.first k.first) ∙ ap (λ (l : List ℕ). k.front ++ l) (rest h.back k.back h.rest k.rest) ∙ sym k.whole

abbrev pub joined : Part → Part → Part
joined p q =
    record {
      Reads = IsJoined p.Reads q.Reads;
      Writes = IsJoined p.Writes q.Writes;
      Negative = IsJoined p.Negative q.Negative;
      Fits = p.Fits × q.Fits;
      IsHigh = p.IsHigh ⊎ q.IsHigh;
      size = p.size + q.size;
    }

-- a part of two others; if `both` is one or none, they hold at most so many sequence numbers
pub joined_is : {m n both : ℕ} {p q : Part} → (both ≤ 1 → m + n ≤ both) → IsPart m p → IsPart n q → IsPart both (joined p q)
joined_is {m = m} {n = n} {both = both} {p = p} {q = q} sum is rest =
    record {
      one = joined_unique p.Writes q.Writes is.one rest.one;
      one_negative = joined_unique p.Negative q.Negative is.one_negative rest.one_negative;
      fits = λ bytes h. (is.fits h.front h.first, rest.fits h.back h.rest);
      sized = joined_sized p.Writes q.Writes p.size q.size is.sized rest.sized;
      made = λ f small.
          let a = is.made f.0 (omega (arith, small)) in
          let b = rest.made f.1 (omega (arith, small)) in
          (a.0 ++ b.0, record { front = a.0; back = b.0; first = a.1; rest = b.1; whole = refl });
      written = λ bytes h. with_parts h (is.written h.front h.first) (rest.written h.back h.rest);
      negative = λ bytes h. with_parts h (is.negative h.front h.first) (rest.negative h.back h.rest);
      either = λ few bytes h. elim (cases_eq m 0) [
        | inl none ↦
            let s = is.same none h.front h.first in
            elim (rest.either (omega (arith, sum few, few)) h.back h.rest) [
              | inl w ↦ inl (with_parts h s.0 w)
              | inr w ↦ inr (with_parts h s.1 w.0, inr w.1)
            ]
        | inr some ↦
            let s = rest.same (omega (arith, sum few, few, some)) h.back h.rest in
            elim (is.either (omega (arith, sum few, few)) h.front h.first) [
              | inl w ↦ inl (with_parts h w s.0)
              | inr w ↦ inr (with_parts h w.0 s.1, inl w.1)
            ]
      ];
      same = λ none bytes h.
          let s = is.same (left none) h.front h.first in
          let t = rest.same (right none) h.back h.rest in
          (with_parts h s.0 t.0, with_parts h s.1 t.1);
      none = λ none h. elim h [
        | inl k ↦ is.none (left none) k
        | inr k ↦ rest.none (right none) k
      ];
    }
  where
    left : both ≡ 0 → m ≡ 0
    left none = omega (arith, sum (omega (arith, none)), none)

    right : both ≡ 0 → n ≡ 0
    right none = omega (arith, sum (omega (arith, none)), none)
