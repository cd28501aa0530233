-- Parts that are written, and how many bytes they have.
use Rattle.std.proofs.Common.{◌≡◌, ℕ, ◌+◌, List, [], ◌++◌, length, Result, Ok, Err, refl, sym, ap, subst, ◌∙◌, arith, length-append, append_assoc}
use Rattle.std.specs.Prelude.{OnOk}
use Rattle.std.proofs.lemmas.List.{append-nil}
use Rattle.krb_der.specs.Spells.{IsLength, IsElement, IsJoined}
use Rattle.krb_der.specs.Size.{element_size}
use Rattle.krb_der.specs.Writing.{Appends}
use Rattle.krb_der.specs.Inner.HeadView.{IsHeadOf}
use Rattle.krb_der.proofs.Sizes.{length_sized}

-- ---- steps
pub appended-joined : {E : Type 0} (P Q : List ℕ → Type 0) (old mid new : List ℕ) (r : Result (Unit {0}) E) → Appends P old mid → OnOk r (Appends Q mid new) → OnOk r (Appends (IsJoined P Q) old new)
appended-joined P Q old mid new (Err e) a b = tt
appended-joined P Q old mid new (Ok u) a b =
    record {
      bytes = a.bytes ++ b.bytes;
      is = record { front = a.bytes; back = b.bytes; first = a.is; rest = b.is; whole = refl };
      whole = b.whole ∙ ap (λ (x : List ℕ). x ++ b.bytes) a.whole ∙ append_assoc old a.bytes b.bytes;
    }

pub appended-after-nothing : {E : Type 0} (Q : List ℕ → Type 0) (old new : List ℕ) (r : Result (Unit {0}) E) → OnOk r (Appends Q old new) → OnOk r (Appends (IsJoined (λ bytes. bytes ≡ []) Q) old new)
appended-after-nothing Q old new (Err e) b = tt
appended-after-nothing Q old new (Ok u) b = record { bytes = b.bytes; is = record { front = []; back = b.bytes; first = refl; rest = b.is; whole = refl }; whole = b.whole }

pub appended-none : (old new : List ℕ) → new ≡ old → Appends (λ bytes. bytes ≡ []) old new
appended-none old new e = record { bytes = []; is = refl; whole = e ∙ sym (append-nil old) }

-- a part after the head of an element
module _ (P : List ℕ → Type 0) (tag n : ℕ) (old mid new : List ℕ) (h : Appends (IsHeadOf tag n) old mid) where
  pub headed-part : {E : Type 0} (r : Result (Unit {0}) E) → OnOk r (Appends P mid new) → OnOk r (length new ≡ length mid + n) → OnOk r (Appends (IsElement tag P) old new)
  headed-part (Err e) a sized = tt
  headed-part (Ok u) a sized =
      let same : n ≡ length a.bytes = omega (arith, ap length a.whole, length-append mid a.bytes, sized) in
      record {
        bytes = h.bytes ++ a.bytes;
        is = record {
          size = h.is.size;
          content = a.bytes;
          length_is = subst (λ k. IsLength k h.is.size) same h.is.length_is;
          content_is = a.is;
          whole = ap (λ (l : List ℕ). l ++ a.bytes) h.is.whole;
        };
        whole = a.whole ∙ ap (λ (l : List ℕ). l ++ a.bytes) h.whole ∙ append_assoc old h.bytes a.bytes;
      }

  pub headed-sized : {E : Type 0} (r : Result (Unit {0}) E) → OnOk r (length new ≡ length mid + n) → OnOk r (length new ≡ length old + element_size n)
  headed-sized (Err e) sized = tt
  headed-sized (Ok u) sized =
      omega (arith, sized, ap length h.whole, length-append old h.bytes, ap length h.is.whole, length_sized n h.is.size h.is.length_is)

-- what was appended to nothing
pub from-nothing : {P : List ℕ → Type 0} {old new : List ℕ} → old ≡ [] → Appends P old new → P new
from-nothing {P = P} nil a = subst P (sym (a.whole ∙ ap (λ (x : List ℕ). x ++ a.bytes) nil)) a.is
