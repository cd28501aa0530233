-- The clock offset of a header.
use Rattle.std.proofs.Common.{◌≡◌, ◌≢◌, Bool, true, false, cond, leb, ℕ, ℤ, suc, ◌+◌, ◌<◌, List, [], ◌∷◌, ◌++◌, length, get_or, take, drop, Some, None, refl, sym, ap, subst, ◌∙◌, append-nil, arith, drop-cons}
use Rattle.std.specs.Int.{w32, from_be_bytes, cast_signed}
use mir.Val.{of_z, to_z}
use Rattle.std.proofs.lemmas.Int.{to_z-of_z}
use Rattle.std.proofs.lemmas.Bool.{leb-false}
use Rattle.std.specs.Prelude.{◌↔◌, All, MatchBool, nat_eq}
use Rattle.std.specs.Cmp.Lexicographic.{pointwise, told_text}
use Rattle.std.proofs.lemmas.List.{length-append, nil_from_length, take-append-drop}
use Rattle.std.proofs.lemmas.List.Elements.{recursion_from_All}
use Rattle.std.specs.List.{AllByRecursion}
use Rattle.krb_file.specs.Cursor.{Place, bytes_at, number_at, signed_at, signed_bytes}
use Rattle.krb_file.specs.Field.{IsBytes}
use Rattle.krb_file.proofs.CursorLaws.{IsField-i32}
use Rattle.krb_ccache.specs.Types.{HeaderField}
use Rattle.krb_ccache.specs.Configuration.{IsOffset, HoldsOffset, BeginsWith}
use Rattle.krb_ccache.proofs.Fields.{none_then}
use Rattle.krb_ccache.proofs.Repeats.{same_front}

-- ---- reading it

pub offset_read : (value : List ℕ) (start middle behind : Place) (seconds microseconds : ℤ) → IsBytes value → length value ≡ 8 → start ≡ record { at = 0; rest = value } → signed_at w32 start ≡ Some (seconds, middle)
    → signed_at w32 middle ≡ Some (microseconds, behind) → IsOffset value seconds microseconds
offset_read value start middle behind seconds microseconds fits eight is e f =
    let t = IsField-i32.takes (record { at = 0; rest = value }) seconds middle fits (rw is at e) in
    let u = IsField-i32.takes middle microseconds behind t.0.rest_fits f in
    let rest : behind.rest ≡ [] = nil_from_length behind.rest (omega (arith, eight, ap length t.0.parts, ap length u.0.parts, length-append (signed_bytes w32 seconds) middle.rest, length-append (signed_bytes w32 microseconds) behind.rest)) in
    record {
      seconds_fit = t.1;
      microseconds_fit = u.1;
      value_is = t.0.parts ∙ ap (λ (text : List ℕ). signed_bytes w32 seconds ++ text) (u.0.parts ∙ ap (λ (text : List ℕ). signed_bytes w32 microseconds ++ text) rest ∙ append-nil (signed_bytes w32 microseconds));
    }

-- as code writes signed numbers
pub offset_answered : (value : List ℕ) (seconds microseconds : ℤ) → IsOffset value seconds microseconds → IsOffset value (to_z w32 (of_z w32 seconds)) (to_z w32 (of_z w32 microseconds))
offset_answered value seconds microseconds o = rw (to_z-of_z w32 seconds o.seconds_fit, to_z-of_z w32 microseconds o.microseconds_fit) o

none_bytes : {A : Type 0} (b : Bool) (x : A) → cond b (Some x) None ≡ None → b ≡ false
none_bytes true x e = absurd cc
none_bytes false x e = refl

short_bytes : (count : ℕ) (place : Place) → bytes_at count place ≡ None → length place.rest < count
unfolding bytes_at
short_bytes count place e = let f = none_bytes (leb count (length place.rest)) (take count place.rest, record { at = place.at + count; rest = drop count place.rest }) e in leb-false _ _ f

short_number : (place : Place) → signed_at w32 place ≡ None → length place.rest < 4
unfolding signed_at number_at
short_number place e =
    let f : number_at w32 place ≡ None = none_then (number_at w32 place) (λ read. (cast_signed w32 read.0, read.1)) e in
    let g : bytes_at 4 place ≡ None = none_then (bytes_at 4 place) (λ read. (from_be_bytes w32 read.0, read.1)) f in
    short_bytes 4 place g

pub first_there : (value : List ℕ) (start : Place) → length value ≡ 8 → start ≡ record { at = 0; rest = value } → signed_at w32 start ≡ None → ⊥
first_there value start eight is e = omega (arith, eight, short_number start e, ap (λ (k : Place). length k.rest) is)

pub second_there : (value : List ℕ) (start middle : Place) (seconds : ℤ) → IsBytes value → length value ≡ 8 → start ≡ record { at = 0; rest = value } → signed_at w32 start ≡ Some (seconds, middle) → signed_at w32 middle ≡ None → ⊥
second_there value start middle seconds fits eight is e f =
    let t = IsField-i32.takes (record { at = 0; rest = value }) seconds middle fits (rw is at e) in
    omega (arith, eight, short_number middle f, ap length t.0.parts, length-append (signed_bytes w32 seconds) middle.rest)

-- ---- the first field

at_place : (header : List HeaderField) (i : ℕ) (field : HeaderField) → i < length header → field ≡ get_or header i field → header ≡ take i header ++ field ∷ drop (suc i) header
at_place header i field lt e =
    sym (take-append-drop i header) ∙ ap (λ (t : List HeaderField). take i header ++ t) (drop-cons header i field lt ∙ ap (λ (x : HeaderField). x ∷ drop (suc i) header) (sym e))

pub offset_held : (header : List HeaderField) (i : ℕ) (field : HeaderField) (seconds microseconds : ℤ) → i < length header → field ≡ get_or header i field → All (λ other. other.tag ≢ 1) (take i header) → field.tag ≡ 1
    → IsOffset field.value seconds microseconds → HoldsOffset header seconds microseconds
offset_held header i field seconds microseconds lt e first tag offset = record {
  before = take i header;
  field = field;
  after = drop (suc i) header;
  header_is = at_place header i field lt e;
  first = first;
  tag = tag;
  offset = offset;
}

-- ---- a name that begins so

abbrev list_of : List (List ℕ) → List (List ℕ)
list_of xs = xs

begins : (x : List ℕ) (xs : List (List ℕ)) (name : List ℕ) (r : Bool) → r ≡ pointwise nat_eq x name → (r ≡ true) ↔ BeginsWith (x ∷ xs) name
begins x xs name r f = told r (told_text x name r f)
  where
    told : (b : Bool) → MatchBool b (x ≡ name) (x ≢ name) → (b ≡ true) ↔ BeginsWith (x ∷ xs) name
    told true same = (λ t. (xs, ap (λ (k : List ℕ). k ∷ xs) same), λ t. refl)
    told false other = (λ t. absurd cc, λ t. let front : x ≡ name = head_is x name xs t.0 t.1 in absurd (other front))
      where
        head_is : (a b : List ℕ) (ms ns : List (List ℕ)) → list_of (a ∷ ms) ≡ list_of (b ∷ ns) → a ≡ b
        head_is a b ms ns k = cc

pub begins_so : (components : List (List ℕ)) (first : List ℕ) (others : List (List ℕ)) (name : List ℕ) (r : Bool) → components ≡ first ∷ others → r ≡ pointwise nat_eq first name
    → (r ≡ true) ↔ BeginsWith components name
begins_so components first others name r e f = subst (λ (all : List (List ℕ)). (r ≡ true) ↔ BeginsWith all name) (sym e) (begins first others name r f)

-- ---- one offset at most

same_field : (xs ys : List HeaderField) (x y : HeaderField) (a b : List HeaderField) → AllByRecursion (λ other. other.tag ≢ 1) xs → AllByRecursion (λ other. other.tag ≢ 1) ys → x.tag ≡ 1 → y.tag ≡ 1 → xs ++ x ∷ a ≡ ys ++ y ∷ b → x ≡ y
same_field [] [] x y a b p q t u e = cc
same_field [] (z ∷ ys) x y a b p q t u e = let same : x ≡ z = cc in absurd (q.0 (ap (λ (k : HeaderField). k.tag) (sym same) ∙ t))
same_field (z ∷ xs) [] x y a b p q t u e = let same : z ≡ y = cc in absurd (p.0 (ap (λ (k : HeaderField). k.tag) same ∙ u))
same_field (z ∷ xs) (w ∷ ys) x y a b p q t u e = let others : xs ++ x ∷ a ≡ ys ++ y ∷ b = cc in same_field xs ys x y a b p.1 q.1 t u others

same_offset : (value : List ℕ) (a b c d : ℤ) → IsOffset value a b → IsOffset value c d → (a ≡ c) × (b ≡ d)
same_offset value a b c d p q =
    let first = same_front _ _ _ IsField-i32 a c (signed_bytes w32 b) (signed_bytes w32 d) p.seconds_fit q.seconds_fit (sym p.value_is ∙ q.value_is) in
    let second = same_front _ _ _ IsField-i32 b d [] [] p.microseconds_fit q.microseconds_fit (append-nil (signed_bytes w32 b) ∙ first.1 ∙ sym (append-nil (signed_bytes w32 d))) in
    (first.0, second.0)

both_held : (header : List HeaderField) (a b c d : ℤ) → HoldsOffset header a b → HoldsOffset header c d → (a ≡ c) × (b ≡ d)
both_held header a b c d p q =
    let same = same_field p.before q.before p.field q.field p.after q.after (recursion_from_All (λ other. other.tag ≢ 1) p.before p.first) (recursion_from_All (λ other. other.tag ≢ 1) q.before q.first) p.tag q.tag (sym p.header_is ∙ q.header_is) in
    same_offset q.field.value a b c d (subst (λ (field : HeaderField). IsOffset field.value a b) same p.offset) q.offset

pub one_seconds : (header : List HeaderField) (a b c d : ℤ) → HoldsOffset header a b → HoldsOffset header c d → a ≡ c
one_seconds header a b c d p q = (both_held header a b c d p q).0

pub one_microseconds : (header : List HeaderField) (a b c d : ℤ) → HoldsOffset header a b → HoldsOffset header c d → b ≡ d
one_microseconds header a b c d p q = (both_held header a b c d p q).1
