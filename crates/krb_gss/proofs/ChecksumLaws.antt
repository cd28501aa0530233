-- Checksums: one value, one spelling, and no fault beside them.
use Rattle.std.proofs.Common.{◌≡◌, Bor, true, false, not, eqb, Decides, ℕ, zero, suc, ◌+◌, ◌^◌, ◌<◌, ◌≤◌, List, [], ◌∷◌, ◌++◌, length, take, drop, get_or, Option, Some, None, Ok, Err, inl, inr, refl, sym, ap, subst, ◌∙◌, arith, length-append, length-take, get_or-drop, get_or-take}
use Rattle.std.specs.Int.{w16, w32, to_le_bytes, from_le_bytes, to_be_bytes, from_be_bytes}
use Rattle.std.proofs.lemmas.Nat.{be_bytes_2, be_bytes_4, from_be_bytes-to_be_bytes_2, from_be_bytes-to_be_bytes_4}
use Rattle.std.specs.List.{IsSplitAt}
use Rattle.std.specs.Cmp.Lexicographic.{pointwise}
use Rattle.std.proofs.lemmas.Bool.{cases_lt, cases_Bool, false≢true}
use Rattle.std.proofs.lemmas.Bool.Decides.{Decides-eqb}
use Rattle.std.proofs.lemmas.Slice.Eq.{slice_eq-Decides}
use Rattle.std.proofs.lemmas.List.{take_at, drop_at, take-append-drop, get_or_past}
use Rattle.krb_gss.specs.declared.flags.ContextFlag.TheVariants.{Delegation}
use Rattle.krb_gss.specs.declared.checksum.ChecksumFault.{ChecksumFault}
use Rattle.krb_gss.specs.Checksum.{HasFlag, Content, bytes_if, HasFront, HasDelegation, IsChecksum, IsChecksumFault, cut_front, other_length, cut_option, other_option, cut_message}
use Rattle.krb_gss.specs.declared.checksum.ChecksumFault.TheVariants.{Truncated, DelegationOption}
use Rattle.krb_gss.specs.Inner.Checked.{ReadsMessage}

-- ---- numbers of four and of two bytes
abbrev pub AreOctets : List ℕ → Type 0
AreOctets bytes = (i : ℕ) → get_or bytes i 0 < 256

four : (a b c d : ℕ) → a < 256 → b < 256 → c < 256 → d < 256 → AreOctets (a ∷ b ∷ c ∷ d ∷ [])
four a b c d p q r s zero = p
four a b c d p q r s (suc zero) = q
four a b c d p q r s (suc (suc zero)) = r
four a b c d p q r s (suc (suc (suc zero))) = s
four a b c d p q r s (suc (suc (suc (suc i)))) = omega arith

two : (a b : ℕ) → a < 256 → b < 256 → AreOctets (a ∷ b ∷ [])
two a b p q zero = p
two a b p q (suc zero) = q
two a b p q (suc (suc i)) = omega arith

turned_4 : (a b c d n : ℕ) → to_be_bytes w32 n ≡ d ∷ c ∷ b ∷ a ∷ [] → to_le_bytes w32 n ≡ a ∷ b ∷ c ∷ d ∷ []
turned_4 a b c d n e = cc

turned_2 : (a b n : ℕ) → to_be_bytes w16 n ≡ b ∷ a ∷ [] → to_le_bytes w16 n ≡ a ∷ b ∷ []
turned_2 a b n e = cc

le_bytes_4 : (bytes : List ℕ) (n : ℕ) → length bytes ≡ 4 → AreOctets bytes → n ≡ from_le_bytes w32 bytes → to_le_bytes w32 n ≡ bytes
le_bytes_4 (a ∷ b ∷ c ∷ d ∷ []) n len fits is =
    turned_4 a b c d n (be_bytes_4 (d ∷ c ∷ b ∷ a ∷ []) n refl (four d c b a (fits 3) (fits 2) (fits 1) (fits 0)) (omega (arith, is)))
le_bytes_4 [] n len fits is = absurd cc
le_bytes_4 (a ∷ []) n len fits is = absurd (omega (arith, len))
le_bytes_4 (a ∷ b ∷ []) n len fits is = absurd (omega (arith, len))
le_bytes_4 (a ∷ b ∷ c ∷ []) n len fits is = absurd (omega (arith, len))
le_bytes_4 (a ∷ b ∷ c ∷ d ∷ e ∷ more) n len fits is = absurd (omega (arith, len))

le_bytes_2 : (bytes : List ℕ) (n : ℕ) → length bytes ≡ 2 → AreOctets bytes → n ≡ from_le_bytes w16 bytes → to_le_bytes w16 n ≡ bytes
le_bytes_2 (a ∷ b ∷ []) n len fits is = turned_2 a b n (be_bytes_2 (b ∷ a ∷ []) n refl (two b a (fits 1) (fits 0)) (omega (arith, is)))
le_bytes_2 [] n len fits is = absurd cc
le_bytes_2 (a ∷ []) n len fits is = absurd (omega (arith, len))
le_bytes_2 (a ∷ b ∷ c ∷ more) n len fits is = absurd (omega (arith, len))

below_4 : (bytes : List ℕ) → AreOctets bytes → from_le_bytes w32 bytes < 2 ^ 32
below_4 bytes fits = omega (arith, fits 0, fits 1, fits 2, fits 3)

below_2 : (bytes : List ℕ) → AreOctets bytes → from_le_bytes w16 bytes < 2 ^ 16
below_2 bytes fits = omega (arith, fits 0, fits 1)

same_4 : (m n : ℕ) → m < 2 ^ 32 → n < 2 ^ 32 → to_le_bytes w32 m ≡ to_le_bytes w32 n → m ≡ n
same_4 m n p q e =
    let f : to_be_bytes w32 m ≡ to_be_bytes w32 n = cc in
    sym (from_be_bytes-to_be_bytes_4 m p) ∙ ap (from_be_bytes w32) f ∙ from_be_bytes-to_be_bytes_4 n q

same_2 : (m n : ℕ) → m < 2 ^ 16 → n < 2 ^ 16 → to_le_bytes w16 m ≡ to_le_bytes w16 n → m ≡ n
same_2 m n p q e =
    let f : to_be_bytes w16 m ≡ to_be_bytes w16 n = cc in
    sym (from_be_bytes-to_be_bytes_2 m p) ∙ ap (from_be_bytes w16) f ∙ from_be_bytes-to_be_bytes_2 n q

-- ---- parts of lists
AreOctets-drop : (n : ℕ) (bytes : List ℕ) → AreOctets bytes → AreOctets (drop n bytes)
AreOctets-drop n bytes h i = rw get_or-drop (h (n + i))

AreOctets-take : (n : ℕ) (bytes : List ℕ) → AreOctets bytes → AreOctets (take n bytes)
AreOctets-take n bytes h i =
    elim (cases_lt i n) [
      | inl lt ↦ rw (get_or-take n bytes i 0 lt) (h i)
      | inr le ↦ rw (get_or_past (take n bytes) i 0 (omega (arith, length-take n bytes))) (omega arith)
    ]

split : (n : ℕ) (xs ys u v : List ℕ) → length xs ≡ n → length ys ≡ n → xs ++ u ≡ ys ++ v → (xs ≡ ys) × (u ≡ v)
split n xs ys u v p q e =
    (sym (take_at xs u n p) ∙ ap (take n) e ∙ take_at ys v n q, sym (drop_at xs u n p) ∙ ap (drop n) e ∙ drop_at ys v n q)

-- ---- the first 24 bytes
pub front_unique : (f g : ℕ) (a b x y bytes : List ℕ) → HasFront f a x bytes → HasFront g b y bytes → (f ≡ g) × (a ≡ b) × (x ≡ y)
front_unique f g a b x y bytes h k =
    let s = split 4 (to_le_bytes w32 16) (to_le_bytes w32 16) (a ++ (to_le_bytes w32 f ++ x)) (b ++ (to_le_bytes w32 g ++ y)) refl refl (sym h.whole ∙ k.whole) in
    let t = split 16 a b (to_le_bytes w32 f ++ x) (to_le_bytes w32 g ++ y) h.sixteen k.sixteen s.1 in
    let u = split 4 (to_le_bytes w32 f) (to_le_bytes w32 g) x y refl refl t.1 in
    (same_4 f g h.number k.number u.0, t.0, u.1)

front_size : (f : ℕ) (a x bytes : List ℕ) → HasFront f a x bytes → 24 ≤ length bytes
front_size f a x bytes h =
    omega (arith, ap length h.whole, length-append a (to_le_bytes w32 f ++ x), h.sixteen)

front_number : (f : ℕ) (a x bytes : List ℕ) → HasFront f a x bytes → take 4 bytes ≡ to_le_bytes w32 16
front_number f a x bytes h = ap (take 4) h.whole ∙ take_at (to_le_bytes w32 16) (a ++ (to_le_bytes w32 f ++ x)) 4 refl

-- ---- the delegation
no_some : {A : Type 0} (x : A) → ◌≡◌ {A = Option A} (Some x) None → ⊥
no_some x e = cc

delegation_unique : (f : ℕ) (o p : Option (List ℕ)) (x y bytes : List ℕ) → HasDelegation f o x bytes → HasDelegation f p y bytes → (o ≡ p) × (x ≡ y)
delegation_unique f None None x y bytes h k = (refl, sym h.1 ∙ k.1)
delegation_unique f None (Some m) x y bytes h k = absurd (h.0 k.0)
delegation_unique f (Some m) None x y bytes h k = absurd (k.0 h.0)
delegation_unique f (Some m) (Some n) x y bytes h k =
    let s = split 2 (to_le_bytes w16 1) (to_le_bytes w16 1) (to_le_bytes w16 (length m) ++ (m ++ x)) (to_le_bytes w16 (length n) ++ (n ++ y)) refl refl (sym h.2 ∙ k.2) in
    let t = split 2 (to_le_bytes w16 (length m)) (to_le_bytes w16 (length n)) (m ++ x) (n ++ y) refl refl s.1 in
    let u = split (length m) m n x y refl (sym (same_2 (length m) (length n) h.1 k.1 t.0)) t.1 in
    (ap Some u.0, u.1)

-- ---- one value
same_content : (f g : ℕ) (a b : List ℕ) (o p : Option (List ℕ)) (x y : List ℕ) → f ≡ g → a ≡ b → o ≡ p → x ≡ y
    → ◌≡◌ {A = Content} (record { flags = f; bindings = a; delegation = o; extensions = x }) (record { flags = g; bindings = b; delegation = p; extensions = y })
same_content f g a b o p x y p1 p2 p3 p4 = cc

pub one_value : (c d : Content) (bytes : List ℕ) → IsChecksum c bytes → IsChecksum d bytes → c ≡ d
one_value c d bytes h k =
    let s = front_unique c.flags d.flags c.bindings d.bindings h.after k.after bytes h.front k.front in
    let m : HasDelegation d.flags c.delegation c.extensions k.after =
    subst (λ (f : ℕ). HasDelegation f c.delegation c.extensions k.after) s.0 (subst (HasDelegation c.flags c.delegation c.extensions) s.2 h.delegation) in
    let t = delegation_unique d.flags c.delegation d.delegation c.extensions d.extensions k.after m k.delegation in
    same_content c.flags d.flags c.bindings d.bindings c.delegation d.delegation c.extensions d.extensions s.0 s.1 t.0 t.1

-- ---- one spelling
pub one_spelling : (c : Content) (a b : List ℕ) → IsChecksum c a → IsChecksum c b → a ≡ b
one_spelling c a b h k = by c.delegation h.delegation k.delegation
  where
    with_after : h.after ≡ k.after → a ≡ b
    with_after e = h.front.whole ∙ ap (λ (x : List ℕ). to_le_bytes w32 16 ++ (c.bindings ++ (to_le_bytes w32 c.flags ++ x))) e ∙ sym k.front.whole

    by : (o : Option (List ℕ)) → HasDelegation c.flags o c.extensions h.after → HasDelegation c.flags o c.extensions k.after → a ≡ b
    by None p q = with_after (p.1 ∙ sym q.1)
    by (Some m) p q = with_after (p.2 ∙ sym q.2)

-- ---- no fault beside a value
module _ (c : Content) (bytes : List ℕ) (h : IsChecksum c bytes) where
  delegated : (f : ℕ) (a after : List ℕ) → HasFront f a after bytes → HasFlag f Delegation
      → (m : List ℕ) × (length m < 2 ^ 16) × (after ≡ to_le_bytes w16 1 ++ (to_le_bytes w16 (length m) ++ (m ++ c.extensions)))
  delegated f a after k flag = by c.delegation h.delegation
    where
      s : (c.flags ≡ f) × (c.bindings ≡ a) × (h.after ≡ after)
      s = front_unique c.flags f c.bindings a h.after after bytes h.front k

      by : (o : Option (List ℕ)) → HasDelegation c.flags o c.extensions h.after
          → (m : List ℕ) × (length m < 2 ^ 16) × (after ≡ to_le_bytes w16 1 ++ (to_le_bytes w16 (length m) ++ (m ++ c.extensions)))
      by None d = absurd (d.0 (subst (λ (g : ℕ). HasFlag g Delegation) (sym s.0) flag))
      by (Some m) d = (m, d.1, sym s.2 ∙ d.2)

  pub not_faulty : (fault : ChecksumFault) → IsChecksumFault bytes fault → ⊥
  not_faulty fault (cut_front lt is) = omega (arith, front_size c.flags c.bindings h.after bytes h.front)
  not_faulty fault (other_length le ne is) = ne (front_number c.flags c.bindings h.after bytes h.front)
  not_faulty fault (cut_option f a after k flag lt is) =
      let d = delegated f a after k flag in
      omega (arith, ap length d.2, lt)
  not_faulty fault (other_option f a after k flag le ne is) =
      let d = delegated f a after k flag in
      ne (ap (take 2) d.2 ∙ take_at (to_le_bytes w16 1) (to_le_bytes w16 (length d.0) ++ (d.0 ++ c.extensions)) 2 refl)
  not_faulty fault (cut_message f a after size message k flag fits whole lt is) =
      let d = delegated f a after k flag in
      let s = split 2 (to_le_bytes w16 1) (to_le_bytes w16 1) (to_le_bytes w16 size ++ message) (to_le_bytes w16 (length d.0) ++ (d.0 ++ c.extensions)) refl refl (sym whole ∙ d.2) in
      let t = split 2 (to_le_bytes w16 size) (to_le_bytes w16 (length d.0)) message (d.0 ++ c.extensions) refl refl s.1 in
      omega (arith, same_2 size (length d.0) fits d.1 t.0, ap length t.1, length-append d.0 c.extensions, lt)

-- ---- what reading answers
pub checksum-found : (flags : ℕ) (bindings after bytes : List ℕ) (o : Option (Bor (List ℕ))) (extensions : Bor (List ℕ)) → HasFront flags bindings after bytes
    → HasDelegation flags (bytes_if o) extensions.now after
    → IsChecksum (record { flags = flags; bindings = bindings; delegation = bytes_if o; extensions = extensions.now }) bytes
checksum-found flags bindings after bytes o extensions h d = record { after = after; front = h; delegation = d }

module _ (bytes : List ℕ) (fits : AreOctets bytes) where
  pub front_found : (size rest bindings rest2 number after : List ℕ) (n : ℕ) → size ≡ take 4 bytes → rest ≡ drop 4 bytes → bindings ≡ take 16 rest → rest2 ≡ drop 16 rest
      → number ≡ take 4 rest2 → after ≡ drop 4 rest2 → length rest2 + 16 ≡ length rest → length after + 4 ≡ length rest2 → size ≡ to_le_bytes w32 16 → n ≡ from_le_bytes w32 number
      → HasFront n bindings after bytes
  front_found size rest bindings rest2 number after n e1 e2 e3 e4 e5 e6 l1 l2 is value =
      let octets : AreOctets number =
      subst AreOctets (sym e5) (AreOctets-take 4 rest2 (subst AreOctets (sym e4) (AreOctets-drop 16 rest (subst AreOctets (sym e2) (AreOctets-drop 4 bytes fits))))) in
      let len : length number ≡ 4 = omega (arith, ap length e5, length-take 4 rest2, l2) in
      record {
        number = subst (λ (m : ℕ). m < 2 ^ 32) (sym value) (below_4 number octets);
        sixteen = omega (arith, ap length e3, length-take 16 rest, l1);
        whole =
            sym (take-append-drop 4 bytes)
            ∙ ap (λ (x : List ℕ). x ++ drop 4 bytes) (sym e1 ∙ is)
            ∙ ap (λ (x : List ℕ). to_le_bytes w32 16 ++ x) (sym e2 ∙ sym (take-append-drop 16 rest))
            ∙ ap (λ (x : List ℕ). to_le_bytes w32 16 ++ (x ++ drop 16 rest)) (sym e3)
            ∙ ap (λ (x : List ℕ). to_le_bytes w32 16 ++ (bindings ++ x)) (sym e4 ∙ sym (take-append-drop 4 rest2))
            ∙ ap (λ (x : List ℕ). to_le_bytes w32 16 ++ (bindings ++ (x ++ drop 4 rest2))) (sym e5 ∙ sym (le_bytes_4 number n len octets value))
            ∙ ap (λ (x : List ℕ). to_le_bytes w32 16 ++ (bindings ++ (to_le_bytes w32 n ++ x))) (sym e6);
      }

-- ---- tests of two lists
lists_decided : (xs ys : List ℕ) → Decides (pointwise eqb xs ys) (xs ≡ ys)
lists_decided xs ys = slice_eq-Decides Decides-eqb xs ys _ refl

pub are_same : (xs ys : List ℕ) → false ≡ not (pointwise eqb xs ys) → xs ≡ ys
are_same xs ys e =
    elim (cases_Bool (pointwise eqb xs ys)) [
      | inl t ↦ (lists_decided xs ys).0 t
      | inr f ↦ absurd (false≢true (e ∙ ap not f))
    ]

pub are_other : (xs ys : List ℕ) → true ≡ not (pointwise eqb xs ys) → xs ≡ ys → ⊥
are_other xs ys e same = false≢true (sym (e ∙ ap not ((lists_decided xs ys).1 same)))

-- ---- the message of a delegation
pub message-cut : (flags : ℕ) (after : List ℕ) → length after < 4 → ReadsMessage flags (Err Truncated) after
message-cut flags after lt = record { found = tt; faulty = λ flag bindings bytes h. cut_option flags bindings after h flag lt refl }

pub message-other : (flags : ℕ) (after option : List ℕ) → option ≡ take 2 after → 4 ≤ length after → (option ≡ to_le_bytes w16 1 → ⊥) → ReadsMessage flags (Err DelegationOption) after
message-other flags after option is le ne =
    record { found = tt; faulty = λ flag bindings bytes h. other_option flags bindings after h flag le (λ e. ne (is ∙ e)) refl }

module _ (after : List ℕ) (fits : AreOctets after) (option rest size rest2 : List ℕ) (n : ℕ) (e1 : option ≡ take 2 after) (e2 : rest ≡ drop 2 after) (e3 : size ≡ take 2 rest) (e4 : rest2 ≡ drop 2 rest)
    (l : length rest2 + 2 ≡ length rest) (is : option ≡ to_le_bytes w16 1) (value : n ≡ from_le_bytes w16 size) where
  octets : AreOctets size
  octets = subst AreOctets (sym e3) (AreOctets-take 2 rest (subst AreOctets (sym e2) (AreOctets-drop 2 after fits)))

  below : n < 2 ^ 16
  below = subst (λ (m : ℕ). m < 2 ^ 16) (sym value) (below_2 size octets)

  whole : after ≡ to_le_bytes w16 1 ++ (to_le_bytes w16 n ++ rest2)
  whole =
      let len : length size ≡ 2 = omega (arith, ap length e3, length-take 2 rest, l) in
      sym (take-append-drop 2 after)
      ∙ ap (λ (x : List ℕ). x ++ drop 2 after) (sym e1 ∙ is)
      ∙ ap (λ (x : List ℕ). to_le_bytes w16 1 ++ x) (sym e2 ∙ sym (take-append-drop 2 rest))
      ∙ ap (λ (x : List ℕ). to_le_bytes w16 1 ++ (x ++ drop 2 rest)) (sym e3 ∙ sym (le_bytes_2 size n len octets value))
      ∙ ap (λ (x : List ℕ). to_le_bytes w16 1 ++ (to_le_bytes w16 n ++ x)) (sym e4)

  pub message-cut_off : (flags : ℕ) → length rest2 < n → ReadsMessage flags (Err Truncated) after
  message-cut_off flags lt = record { found = tt; faulty = λ flag bindings bytes h. cut_message flags bindings after n rest2 h flag below whole lt refl }

  pub message-found : (flags : ℕ) (front back : Bor (List ℕ)) → IsSplitAt rest2 n front.now back.now → ReadsMessage flags (Ok (front, back)) after
  message-found flags front back s =
      record {
        found = record {
          short = subst (λ (m : ℕ). m < 2 ^ 16) (sym s.3) below;
          whole =
              whole
              ∙ ap (λ (m : ℕ). to_le_bytes w16 1 ++ (to_le_bytes w16 m ++ rest2)) (sym s.3)
              ∙ ap (λ (x : List ℕ). to_le_bytes w16 1 ++ (to_le_bytes w16 (length front.now) ++ x)) (sym (take-append-drop n rest2))
              ∙ ap (λ (x : List ℕ). to_le_bytes w16 1 ++ (to_le_bytes w16 (length front.now) ++ (x ++ drop n rest2))) (sym s.1)
              ∙ ap (λ (x : List ℕ). to_le_bytes w16 1 ++ (to_le_bytes w16 (length front.now) ++ (front.now ++ x))) (sym s.2);
        };
        faulty = λ flag. tt;
      }
