-- What is written spells, and writing within the limit.
use Rattle.std.proofs.Common.{◌≡◌, ℕ, ◌+◌, ◌≤◌, ltb, ℤ, List, [], ◌∷◌, ◌++◌, length, take, drop, Result, Ok, Err, refl, sym, ap, subst, ◌∙◌, arith, length-append, append_assoc}
use Rattle.std.specs.Prelude.{OnOk, OnErr, Vec}
use Rattle.std.proofs.lemmas.Bool.{ltb-true, ltb-false, cond_both}
use Rattle.std.proofs.lemmas.List.{take_at, take_all, drop_at}
use Rattle.std.proofs.lemmas.Result.{on_ok_weaker, on_err_weaker}
use Rattle.krb_der.specs.declared.fault.EncodeFault.{EncodeFault}
use Rattle.krb_der.specs.Kind.{Kind, Fields, ValueOf, FieldsOf, tag_of}
use Rattle.krb_der.specs.Content.{Written}
use Rattle.krb_der.specs.Whole.{IsInteger}
use Rattle.krb_der.specs.Spells.{IsElement, IsJoined, SpellsContent, limit}
use Rattle.krb_der.specs.Writing.{Appends, AppendsElement, Wraps, Writes, WritesFields, Encodes, IsEncoded}
use Rattle.krb_der.specs.Inner.HeadView.{without_room}
use Rattle.krb_der.specs.Inner.Limited.{limited_of, settled}
use Rattle.krb_der.specs.Size.{element_size, fields_size, size_of}
use Rattle.krb_der.proofs.PartLaws.{with_content}
use Rattle.krb_der.proofs.Sizes.{HasSize, element_sized, element-longer}
use Rattle.krb_der.proofs.Spelled.{spelled_is, fields_is}

pub element-map : (tag : ℕ) (P Q : List ℕ → Type 0) → ((c : List ℕ) → P c → Q c) → (bytes : List ℕ) → IsElement tag P bytes → IsElement tag Q bytes
element-map tag P Q f bytes h = with_content h (f h.content h.content_is)

pub appends-map : (P Q : List ℕ → Type 0) → ((b : List ℕ) → P b → Q b) → (old new : List ℕ) → Appends P old new → Appends Q old new
appends-map P Q f old new h = record { bytes = h.bytes; is = f h.bytes h.is; whole = h.whole }

pub writes : {E : Type 0} (k : Kind) (v : ValueOf k) (P : List ℕ → Type 0) (r : Result (Unit {0}) E) (old new : List ℕ)
    → ((c : List ℕ) → P c → SpellsContent Written k v c) → OnOk r (Appends (IsElement (tag_of k) P) old new) → OnErr r (new ≡ old) → AppendsElement k v r old new
writes k v P (Ok u) old new f ok kept =
    record { ok = appends-map (IsElement (tag_of k) P) (Writes k v) (element-map (tag_of k) P (SpellsContent Written k v) f) old new ok; kept = tt }
writes k v P (Err e) old new f ok kept = record { ok = tt; kept = kept }

-- a whole number, which the code has as another term
pub writes_whole : {E : Type 0} {old new : List ℕ} {z w : ℤ} (k : Kind) (v : ValueOf k) (r : Result (Unit {0}) E) → ((c : List ℕ) → IsInteger z c → SpellsContent Written k v c) → w ≡ z
    → OnOk r (Appends (IsElement (tag_of k) (IsInteger w)) old new) → OnErr r (new ≡ old) → AppendsElement k v r old new
writes_whole {old = old} {new = new} {w = w} k v r spells same ok kept =
    writes k v (IsInteger w) r old new (λ c h. spells c (subst (λ x. IsInteger x c) same h)) ok kept

-- ---- the limit
-- what a part was appended to is what stood before it
pub before_appended : (Part : List ℕ → Type 0) (start : ℕ) (old mid : List ℕ) → start ≡ length old → Appends Part old mid → take start mid ≡ old
before_appended Part start old mid at a = ap (take start) a.whole ∙ take_at old a.bytes start (sym at)

-- what was written from start on, and the limit
pub encodes-limited : {E : Type 0} (Part : List ℕ → Type 0) (size : ℕ) → HasSize Part size → (written : Result (Unit {0}) E) (r : Result (Unit {0}) EncodeFault) (start : ℕ) (old mid new : List ℕ)
    → start ≡ length old → OnOk written (Appends Part old mid) → OnErr written (take start mid ≡ old) → r ≡ limited_of written mid → new ≡ settled r start mid
    → Encodes Part size r old new
encodes-limited Part size sized (Err e) r start old mid new at a kept l n = rw (n, l) (record { ok = tt; too_long = λ t. absurd cc; kept = kept })
encodes-limited Part size sized (Ok u) r start old mid new at a kept l n =
    rw (n, l)
    (cond_both (ltb limit (length mid)) _ _ (λ r. Encodes Part size r old (settled r start mid))
    (λ long. record {
      ok = tt;
      too_long = λ t. omega (arith, ltb-true limit (length mid) long, ap length a.whole, length-append old a.bytes, sized a.bytes a.is);
      kept = before_appended Part start old mid at a;
    })
    (λ fits. record { ok = (a, ltb-false limit (length mid) fits); too_long = λ t. absurd cc; kept = tt }))

pub value_size : (k : Kind) (v : ValueOf k) → HasSize (Writes k v) (size_of k v)
value_size k v = (spelled_is k v).sized

pub encodes_leaf : {E : Type 0} {written : Result (Unit {0}) E} {r : Result (Unit {0}) EncodeFault} {start : ℕ} {old mid new : List ℕ} (k : Kind) (v : ValueOf k)
    → start ≡ length old → AppendsElement k v written old mid → r ≡ limited_of written mid → new ≡ settled r start mid → Encodes (Writes k v) (size_of k v) r old new
encodes_leaf {written = written} {r = r} {start = start} {old = old} {mid = mid} {new = new} k v at w l n =
    encodes-limited (Writes k v) (size_of k v) (value_size k v) written r start old mid new at w.ok
    (on_err_weaker written (λ same. ap (take start) same ∙ take_all start old (omega (arith, at))) w.kept) l n

-- ---- an element round what was written
pub wrapped-appends : (tag start : ℕ) (Part : List ℕ → Type 0) (old mid new : List ℕ) → start ≡ length old → Appends Part old mid → Wraps tag start mid new → Appends (IsElement tag Part) old new
wrapped-appends tag start Part old mid new at a w =
    let front : take start mid ≡ old = before_appended Part start old mid at a in
    let rest : drop start mid ≡ a.bytes = ap (drop start) a.whole ∙ drop_at old a.bytes start (sym at) in
    record {
      bytes = w.bytes;
      is = record {
        size = w.is.size;
        content = w.is.content;
        length_is = w.is.length_is;
        content_is = subst Part (sym (w.is.content_is ∙ rest)) a.is;
        whole = w.is.whole;
      };
      whole = w.whole ∙ ap (λ (l : List ℕ). l ++ w.bytes) front;
    }

-- ---- an element round what was written after room for its head
room-long : (old room : List ℕ) → room ≡ old ++ (0 ∷ 0 ∷ []) → length room ≡ length old + 2
room-long old room opened = ap length opened ∙ length-append old (0 ∷ 0 ∷ [])

before_room : (Part : List ℕ → Type 0) (start : ℕ) (old room mid : List ℕ) → start ≡ length old → room ≡ old ++ (0 ∷ 0 ∷ []) → Appends Part room mid → take start mid ≡ old
before_room Part start old room mid at opened a =
    ap (take start) (a.whole ∙ ap (λ (l : List ℕ). l ++ a.bytes) opened ∙ append_assoc old (0 ∷ 0 ∷ []) a.bytes) ∙ take_at old (0 ∷ 0 ∷ a.bytes) start (sym at)

-- without the room, the part was appended to what stood before
appended-without : (Part : List ℕ → Type 0) (start : ℕ) (old room mid : List ℕ) → start ≡ length old → room ≡ old ++ (0 ∷ 0 ∷ []) → Appends Part room mid → Appends Part old (without_room start mid)
appended-without Part start old room mid at opened a =
    let front = before_room Part start old room mid at opened a in
    let rest : drop (start + 2) mid ≡ a.bytes = ap (drop (start + 2)) a.whole ∙ drop_at room a.bytes (start + 2) (omega (arith, room-long old room opened, at)) in
    record { bytes = a.bytes; is = a.is; whole = ap (λ (l : List ℕ). l ++ drop (start + 2) mid) front ∙ ap (λ (l : List ℕ). old ++ l) rest }

module _ {tag start : ℕ} {Part : List ℕ → Type 0} {size : ℕ} {r : Result (Unit {0}) EncodeFault} {old room mid new : List ℕ} (sized : HasSize Part size) (at : start ≡ length old)
    (opened : room ≡ old ++ (0 ∷ 0 ∷ [])) where
  pub encodes-closed : {E : Type 0} (written : Result (Unit {0}) E) (end : List ℕ) → Appends Part room mid → OnOk written (Wraps tag start (without_room start mid) end) → OnErr written (end ≡ mid)
      → r ≡ limited_of written end → new ≡ settled r start end → Encodes (IsElement tag Part) (element_size size) r old new
  encodes-closed {E = E} written end a w kept l n =
      encodes-limited {E = E} (IsElement tag Part) (element_size size) (element_sized tag Part size sized) written r start old end new at
      (on_ok_weaker written (wrapped-appends tag start Part old (without_room start mid) end at (appended-without Part start old room mid at opened a)) w)
      (on_err_weaker written (λ same. ap (take start) same ∙ before_room Part start old room mid at opened a) kept)
      l n

  -- what the part's writing left is removed
  pub encodes-refused : {f : EncodeFault} → Encodes Part size (Err f) room mid → r ≡ Err f → new ≡ settled r start mid → Encodes (IsElement tag Part) (element_size size) r old new
  encodes-refused {f = f} e same n =
      rw (n, same) (record {
        ok = tt;
        too_long = λ t. omega (arith, e.too_long t, room-long old room opened, element-longer size);
        kept = ap (take start) (e.kept ∙ opened) ∙ take_at old (0 ∷ 0 ∷ []) start (sym at);
      })

pub row_size : (fs : Fields) (v : FieldsOf fs) → HasSize (WritesFields fs v) (fields_size fs v)
row_size fs v = (fields_is fs v).sized

-- ---- one part and then others: mid has the first, end what the call for the others left
pub encodes-joined : {First Rest : List ℕ → Type 0} {size others : ℕ} {written r : Result (Unit {0}) EncodeFault} {start : ℕ} {old mid end new : List ℕ} → HasSize First size
    → start ≡ length old → Appends First old mid → Encodes Rest others written mid end → r ≡ written → new ≡ settled r start end → Encodes (IsJoined First Rest) (size + others) r old new
encodes-joined {written = Ok u} {old = old} sized at a e same n =
    let b = e.ok.0 in
    rw (n, same) (record {
      ok = (
        record {
          bytes = a.bytes ++ b.bytes;
          is = record { front = a.bytes; back = b.bytes; first = a.is; rest = b.is; whole = refl };
          whole = b.whole ∙ ap (λ (l : List ℕ). l ++ b.bytes) a.whole ∙ append_assoc old a.bytes b.bytes;
        },
        e.ok.1,
      );
      too_long = λ t. absurd cc;
      kept = tt;
    })
encodes-joined {First = First} {written = Err f} {start = start} {old = old} {mid = mid} sized at a e same n =
    rw (n, same) (record {
      ok = tt;
      too_long = λ t. omega (arith, e.too_long t, ap length a.whole, length-append old a.bytes, sized a.bytes a.is);
      kept = ap (take start) e.kept ∙ before_appended First start old mid at a;
    })

-- ---- a whole message, from nothing
pub encoded_ok : {Z : Type 0} (k : Kind) (v : ValueOf k) (made : Vec ℕ Z) (old new : List ℕ) → old ≡ [] → Appends (Writes k v) old new → length new ≤ limit → made.items ≡ new
    → IsEncoded k v (Ok made)
encoded_ok k v made old new none a fits same =
    let all : made.items ≡ a.bytes = same ∙ a.whole ∙ ap (λ (l : List ℕ). l ++ a.bytes) none in
    let within : length made.items ≤ limit = omega (arith, fits, ap length same) in
    let written : Writes k v made.items = subst (Writes k v) (sym all) a.is in
    let size = value_size k v made.items written in
    record {
      ok = record { spelled = (spelled_is k v).written made.items written; within = within };
      written = written;
      size = size;
      fits = omega (arith, size, within);
      too_long = λ t. absurd cc;
    }
