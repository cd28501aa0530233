-- Heads that are written, and bytes whose end is moved.
use Rattle.std.proofs.Common.{OnOk, Result, Ok, Err, ltb, ◌≡◌, ℕ, false, ◌+◌, ◌-◌, ◌/◌, ◌%◌, ◌^◌, ◌<◌, ◌≤◌, List, [], ◌∷◌, ◌++◌, length, take, drop, refl, sym, ap, ◌∙◌, arith, length-take, length-drop, append_assoc}
use Rattle.std.proofs.lemmas.Bool.{cond_both, ltb-true, ltb-false, ne_eqb}
use Rattle.std.proofs.lemmas.List.{take_at, drop_at, take_all, drop_all, take-append-le, drop-append-le, append-nil}
use Rattle.krb_der.specs.Whole.{AreBytes, number}
use Rattle.krb_der.specs.Place.{begins}
use Rattle.krb_der.specs.Spells.{short, long, IsElement}
use Rattle.krb_der.specs.Writing.{Appends, Wraps}
use Rattle.krb_der.specs.Inner.HeadView.{IsHeadOf, head_bytes, turned_at, without_room, filled_at}

-- ---- heads
module _ (tag n : ℕ) where
  head-1 : n < 128 → IsHeadOf tag n (tag ∷ n % 256 ∷ [])
  head-1 lt =
      let same : n % 256 ≡ n = omega arith in
      record { size = n % 256 ∷ []; length_is = short lt (ap (λ x. x ∷ []) same); whole = refl }

  headed : (digits : List ℕ) → length digits ≤ 4 → AreBytes digits → begins 0 digits ≡ false → 128 ≤ n → number digits ≡ n
      → IsHeadOf tag n (tag ∷ (0x80 + length digits) ∷ digits)
  headed digits four are first big value =
      record { size = (0x80 + length digits) ∷ digits; length_is = long digits refl four are first big value; whole = refl }

  head-2 : 128 ≤ n → n < 256 → IsHeadOf tag n (tag ∷ 0x81 ∷ n % 256 ∷ [])
  head-2 ge lt = headed (n % 256 ∷ []) (omega arith) (omega arith, tt) (ne_eqb _ 0 (λ e. absurd (omega (arith, e)))) ge (omega arith)

  head-3 : 256 ≤ n → n < 0x1_0000 → IsHeadOf tag n (tag ∷ 0x82 ∷ n / 256 % 256 ∷ n % 256 ∷ [])
  head-3 ge lt =
      headed (n / 256 % 256 ∷ n % 256 ∷ []) (omega arith) (omega arith, (omega arith, tt)) (ne_eqb _ 0 (λ e. absurd (omega (arith, e)))) (omega arith) (omega arith)

  head-4 : 0x1_0000 ≤ n → n < 0x100_0000 → IsHeadOf tag n (tag ∷ 0x83 ∷ n / 65536 % 256 ∷ n / 256 % 256 ∷ n % 256 ∷ [])
  head-4 ge lt =
      headed (n / 65536 % 256 ∷ n / 256 % 256 ∷ n % 256 ∷ []) (omega arith) (omega arith, (omega arith, (omega arith, tt)))
      (ne_eqb _ 0 (λ e. absurd (omega (arith, e)))) (omega arith) (omega arith)

  head-5 : 0x100_0000 ≤ n → n < 2 ^ 32 → IsHeadOf tag n (tag ∷ 0x84 ∷ n / 16777216 % 256 ∷ n / 65536 % 256 ∷ n / 256 % 256 ∷ n % 256 ∷ [])
  head-5 ge lt =
      headed (n / 16777216 % 256 ∷ n / 65536 % 256 ∷ n / 256 % 256 ∷ n % 256 ∷ []) (omega arith) (omega arith, (omega arith, (omega arith, (omega arith, tt))))
      (ne_eqb _ 0 (λ e. absurd (omega (arith, e)))) (omega arith) (omega arith)

  pub head_is : n < 2 ^ 32 → IsHeadOf tag n (head_bytes tag n)
  head_is small =
      cond_both (ltb n 128) _ _ (IsHeadOf tag n) (λ e. head-1 (ltb-true n 128 e))
      (λ a. cond_both (ltb n (2 ^ 8)) _ _ (IsHeadOf tag n) (λ e. head-2 (ltb-false n 128 a) (ltb-true n (2 ^ 8) e))
      (λ b. cond_both (ltb n (2 ^ 16)) _ _ (IsHeadOf tag n) (λ e. head-3 (ltb-false n (2 ^ 8) b) (ltb-true n (2 ^ 16) e))
      (λ c. cond_both (ltb n (2 ^ 24)) _ _ (IsHeadOf tag n) (λ e. head-4 (ltb-false n (2 ^ 16) c) (ltb-true n (2 ^ 24) e))
      (λ d. head-5 (ltb-false n (2 ^ 24) d) small))))

-- ---- a head before a content
pub element-head : (tag : ℕ) (content head : List ℕ) → IsHeadOf tag (length content) head → IsElement tag (λ c. c ≡ content) (head ++ content)
element-head tag content head h =
    record { size = h.size; content = content; length_is = h.length_is; content_is = refl; whole = ap (λ (l : List ℕ). l ++ content) h.whole }

pub appends_element : (tag : ℕ) (content head old mid new : List ℕ) → IsHeadOf tag (length content) head → mid ≡ old ++ head → new ≡ mid ++ content
    → Appends (IsElement tag (λ c. c ≡ content)) old new
appends_element tag content head old mid new h m n =
    record { bytes = head ++ content; is = element-head tag content head h; whole = n ∙ ap (λ (l : List ℕ). l ++ content) m ∙ append_assoc old head content }

-- what holds anyway holds of success
pub on_ok : {T E : Type 0} (P : Type 0) (r : Result T E) → P → OnOk r P
on_ok P (Ok _) p = p
on_ok P (Err _) p = tt

-- ---- the end moved
pub turned_at-appended : (old head : List ℕ) (start end : ℕ) → start ≤ length old → end ≡ length old → turned_at start end (old ++ head) ≡ take start old ++ (head ++ drop start old)
unfolding turned_at
turned_at-appended old head start end le e =
    let len : length (drop start old) ≡ end - start = omega (arith, length-drop start old, e) in
    rw (take-append-le start old head le, drop_at old head end (sym e), drop-append-le start old head le, take_at (drop start old) head (end - start) len) refl

pub wraps-turned : (tag start : ℕ) (old head mid new : List ℕ) → start ≤ length old → IsHeadOf tag (length (drop start old)) head → mid ≡ old ++ head
    → new ≡ turned_at start (length old) mid → Wraps tag start old new
wraps-turned tag start old head mid new le h m n =
    record {
      bytes = head ++ drop start old;
      is = element-head tag (drop start old) head h;
      whole = n ∙ ap (turned_at start (length old)) m ∙ turned_at-appended old head start (length old) le refl;
    }

-- what a Vec holds once all of its slice was written
pub written_back : (turned' mid : List ℕ) (len : ℕ) → length turned' ≡ length mid → len ≡ length mid → take len (turned' ++ drop (length turned') mid) ≡ turned'
written_back turned' mid len e l =
    ap (λ (r : List ℕ). take len (turned' ++ r)) (drop_all (length turned') mid (omega (arith, e))) ∙ ap (take len) (append-nil turned') ∙ take_all len turned' (omega (arith, e, l))

-- ---- room filled
pub short-head : (tag n : ℕ) → n < 128 → IsHeadOf tag n (tag ∷ n ∷ [])
short-head tag n lt = record { size = n ∷ []; length_is = short lt refl; whole = refl }

pub filled-wraps : (tag start : ℕ) (old head new : List ℕ) → start + 2 ≤ length old → IsHeadOf tag (length (drop (start + 2) old)) head
    → new ≡ take start old ++ (head ++ drop (start + 2) old) → Wraps tag start (without_room start old) new
filled-wraps tag start old head new le h n =
    let front : length (take start old) ≡ start = omega (arith, length-take start old) in
    record {
      bytes = head ++ drop (start + 2) old;
      is = record {
        size = h.size;
        content = drop (start + 2) old;
        length_is = h.length_is;
        content_is = sym (drop_at (take start old) (drop (start + 2) old) start front);
        whole = ap (λ (l : List ℕ). l ++ drop (start + 2) old) h.whole;
      };
      whole = n ∙ ap (λ (l : List ℕ). l ++ (head ++ drop (start + 2) old)) (sym (take_at (take start old) (drop (start + 2) old) start front));
    }

-- what stood after the room, up to the end of what was there before the head's further bytes
pub filled_at-appended : (start end : ℕ) (head old more : List ℕ) → start + 2 ≤ length old → end ≡ length old
    → filled_at start head end (old ++ more) ≡ take start old ++ (head ++ drop (start + 2) old)
unfolding filled_at
filled_at-appended start end head old more le e =
    let len : length (drop (start + 2) old) ≡ end - (start + 2) = omega (arith, length-drop (start + 2) old, e) in
    rw (take-append-le start old more (omega (arith, le)), drop-append-le (start + 2) old more le, take_at (drop (start + 2) old) more (end - (start + 2)) len) refl

pub filled_at-whole : (start : ℕ) (head old : List ℕ) → filled_at start head (length old) old ≡ take start old ++ (head ++ drop (start + 2) old)
unfolding filled_at
filled_at-whole start head old =
    ap (λ (l : List ℕ). take start old ++ (head ++ l)) (take_all (length old - (start + 2)) (drop (start + 2) old) (omega (arith, length-drop (start + 2) old)))
