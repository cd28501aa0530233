-- Each content of an element without parts is read exactly where one is spelled, and a value has one.
use Rattle.std.proofs.Common.{◌≡◌, inl, inr, ℕ, ◌+◌, ◌-◌, ◌^◌, ◌<◌, ◌≤◌, ℤ, pos, negsuc, ◌&&◌, ltb, eqb, List, [], ◌∷◌, length, Some, refl, sym, ap, subst, ◌∙◌, arith}
use Rattle.std.specs.Int.{w32}
use Rattle.std.specs.Prelude.{FitsSigned, IfSome}
use Rattle.std.proofs.lemmas.Bool.{lt-ltb, ltb-true, eqb-true, eq-eqb, and_parts}
use Rattle.std.proofs.lemmas.Int.{ints}
use Rattle.krb_der.specs.Whole.{number, AreFlags, IsInteger, IsNatural, IsSeqNumber}
use Rattle.krb_der.specs.Computed.Steps.{◌>>?◌}
use Rattle.krb_der.specs.Computed.Whole.{are_bytes, whole_of, natural_below, int32_within, seq_number_within, constant_at, flags_of}
use Rattle.krb_der.proofs.Numbers.{are_bytes-true, AreBytes-true}
use Rattle.krb_der.proofs.LengthLaws.{number_injective}
use Rattle.krb_der.proofs.IntegerLaws.{natural_read, negative_read, negative_value, whole_found, bind_found, only_found}

-- ---- flags
pub flags_found : (content : List ℕ) → IfSome (flags_of content) (λ n. AreFlags n content)
unfolding flags_of
flags_found [] = tt
flags_found (unused ∷ bits) =
    only_found _ (eqb unused 0 && eqb (length bits) 4 && are_bytes bits) (number bits) (λ e.
    let q = and_parts (eqb unused 0 && eqb (length bits) 4) (are_bytes bits) e in
    let r = and_parts (eqb unused 0) (eqb (length bits) 4) q.0 in
    record { bits = bits; bytes = AreBytes-true bits q.1; four = eqb-true _ 4 r.1; value = refl; whole = ap (λ u. u ∷ bits) (eqb-true unused 0 r.0) })

pub flags_read : (n : ℕ) (content : List ℕ) → AreFlags n content → flags_of content ≡ Some n
unfolding flags_of
flags_read n content h = ap flags_of h.whole ∙ rw (eq-eqb (length h.bits) 4 h.four, are_bytes-true h.bits h.bytes) (ap Some h.value)

pub flags_unique : (n : ℕ) (a b : List ℕ) → AreFlags n a → AreFlags n b → a ≡ b
flags_unique n a b h k =
    h.whole ∙ ap (λ (l : List ℕ). 0 ∷ l) (number_injective h.bits k.bits (h.four ∙ sym k.four) h.bytes k.bytes (h.value ∙ sym k.value)) ∙ sym k.whole

-- ---- ranges of whole numbers
natural-below : (bound : ℕ) (z : ℤ) (content : List ℕ) → IsInteger z content → IfSome (natural_below bound z) (λ n. (n < bound) × IsNatural n content)
natural-below bound (pos k) content h = only_found _ (ltb k bound) k (λ e. (ltb-true k bound e, h))
natural-below bound (negsuc m) content h = tt

pub below_found : (bound : ℕ) (content : List ℕ) → IfSome (whole_of content >>? natural_below bound) (λ n. (n < bound) × IsNatural n content)
below_found bound content = bind_found _ _ (whole_of content) (natural_below bound) (whole_found content) (λ z h. natural-below bound z content h)

pub below_only : (bound n : ℕ) (content : List ℕ) → bound ≤ 2 ^ 39 → (n < bound) × IsNatural n content → (whole_of content >>? natural_below bound) ≡ Some n
below_only bound n content fits h =
    ap (λ o. o >>? natural_below bound) (natural_read n content h.1 (omega (arith, h.0))) ∙ rw (lt-ltb n bound h.0) refl

pub int32_found : (content : List ℕ) → IfSome (whole_of content >>? int32_within) (λ z. FitsSigned w32 z × IsInteger z content)
int32_found content = bind_found _ _ (whole_of content) int32_within (whole_found content) within
  where
    within : (z : ℤ) → IsInteger z content → IfSome (int32_within z) (λ z. FitsSigned w32 z × IsInteger z content)
    within (pos n) h = only_found _ (ltb n (2 ^ 31)) (pos n) (λ e. let lt = ltb-true n (2 ^ 31) e in (omega (arith, ints, lt), h))
    within (negsuc m) h = only_found _ (ltb m (2 ^ 31)) (negsuc m) (λ e. let lt = ltb-true m (2 ^ 31) e in (omega (arith, ints, lt), h))

pub int32_only : (z : ℤ) (content : List ℕ) → FitsSigned w32 z × IsInteger z content → (whole_of content >>? int32_within) ≡ Some z
int32_only (pos n) content h =
    let lt : n < 2 ^ 31 = omega (arith, ints, h.0) in
    ap (λ o. o >>? int32_within) (natural_read n content h.1 (omega arith)) ∙ rw (lt-ltb n (2 ^ 31) lt) refl
int32_only (negsuc m) content h =
    let lt : m < 2 ^ 31 = omega (arith, ints, h.0) in
    ap (λ o. o >>? int32_within) (negative_read m content h.1 (omega arith)) ∙ rw (lt-ltb m (2 ^ 31) lt) refl

pub seq_number_found : (content : List ℕ) → IfSome (whole_of content >>? seq_number_within) (λ n. IsSeqNumber n content)
seq_number_found content = bind_found _ _ (whole_of content) seq_number_within (whole_found content) within
  where
    within : (z : ℤ) → IsInteger z content → IfSome (seq_number_within z) (λ n. IsSeqNumber n content)
    within (pos k) h = only_found _ (ltb k (2 ^ 32)) k (λ e. inl (ltb-true k (2 ^ 32) e, h))
    within (negsuc m) h =
        only_found _ (ltb m (2 ^ 31)) (2 ^ 32 - (m + 1)) (λ e.
        let lt = ltb-true m (2 ^ 31) e in
        let same = negative_value (2 ^ 32 - (m + 1)) (2 ^ 32) m (omega (arith, lt)) in
        inr (omega (arith, lt), omega (arith, lt), subst (λ (z : ℤ). IsInteger z content) (sym same) h))

-- n is 2^32 less m and 1 more
negative_only : (m n : ℕ) (content : List ℕ) → m < 2 ^ 31 → n + m + 1 ≡ 2 ^ 32 → IsInteger (negsuc m) content → (whole_of content >>? seq_number_within) ≡ Some n
negative_only m n content lt e h =
    let value : 2 ^ 32 - (m + 1) ≡ n = omega (arith, e) in
    ap (λ o. o >>? seq_number_within) (negative_read m content h (omega (arith, lt))) ∙ rw (lt-ltb m (2 ^ 31) lt) (ap Some value)

pub seq_number_only : (n : ℕ) (content : List ℕ) → IsSeqNumber n content → (whole_of content >>? seq_number_within) ≡ Some n
seq_number_only n content (inl h) =
    ap (λ o. o >>? seq_number_within) (natural_read n content h.1 (omega (arith, h.0))) ∙ rw (lt-ltb n (2 ^ 32) h.0) refl
seq_number_only n content (inr h) =
    let m = 2 ^ 32 - (n + 1) in
    let sum : n + m + 1 ≡ 2 ^ 32 = omega (arith, h.1) in
    negative_only m n content (omega (arith, h.0, h.1)) sum (subst (λ (z : ℤ). IsInteger z content) (negative_value n (2 ^ 32) m sum) h.2)

pub constant_found : (n : ℕ) (content : List ℕ) → IfSome (whole_of content >>? constant_at n) (λ _. (n < 2 ^ 32) × IsNatural n content)
constant_found n content = bind_found _ _ (whole_of content) (constant_at n) (whole_found content) is
  where
    is : (z : ℤ) → IsInteger z content → IfSome (constant_at n z) (λ _. (n < 2 ^ 32) × IsNatural n content)
    is (pos k) h =
        only_found _ (eqb k n && ltb n (2 ^ 32)) tt (λ e.
        let q = and_parts (eqb k n) (ltb n (2 ^ 32)) e in
        (ltb-true n (2 ^ 32) q.1, record { bytes = h.bytes; shortest = h.shortest; value = h.value ∙ eqb-true k n q.0 }))
    is (negsuc m) h = tt

pub constant_only : (n : ℕ) (v : Unit {0}) (content : List ℕ) → (n < 2 ^ 32) × IsNatural n content → (whole_of content >>? constant_at n) ≡ Some v
constant_only n v content h =
    ap (λ o. o >>? constant_at n) (natural_read n content h.1 (omega (arith, h.0)))
    ∙ rw (eq-eqb n n refl, lt-ltb n (2 ^ 32) h.0) refl
