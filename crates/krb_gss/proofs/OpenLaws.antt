-- Whole tokens and answers: what opening answers.
use Rattle.std.proofs.Common.{◌≡◌, ℕ, ◌≤◌, List, ◌∷◌, length, Result, Ok, Err, inl, inr, refl, sym, ap, ◌∙◌, subst}
use Rattle.std.specs.Prelude.{IfOk, IfErr, IsErrAnd, ◌⊎◌}
use Rattle.std.proofs.lemmas.Result.{err_from_is_err_and}
use Rattle.krb_der.specs.Place.{Place, begin_at}
use Rattle.krb_der.specs.Spells.{limit}
use Rattle.krb_der.proofs.LengthLaws.{no_value}
use Rattle.krb_der.proofs.ElementSteps.{same_ok}
use Rattle.krb_der.proofs.Steps.{Reads, reads-then}
use Rattle.krb_gss.specs.declared.fault.TokenFault.{TokenFault}
use Rattle.krb_gss.specs.declared.mechanism.Mechanism.{Mechanism}
use Rattle.krb_gss.specs.declared.opening.Wrapping.{Wrapping}
use Rattle.krb_gss.specs.Token.{IsWhole, IsWrapped}
use Rattle.krb_gss.specs.Fault.{IsTooLong, IsWholeFault, too_long, of_wrapping, of_message, IsNoMessage}
use Rattle.krb_gss.specs.Answer.{Message, reply, error, Stands, IsWrappedAnswer}
use Rattle.krb_gss.specs.Inner.Reading.{begun, whole_at}
use Rattle.krb_gss.proofs.ReadLaws.{reads-begun}

-- ---- messages
pub one_request : (here : Place) (a b : List ℕ) → here.rest ≡ 0x01 ∷ 0 ∷ a → here.rest ≡ 0x01 ∷ 0 ∷ b → a ≡ b
one_request here a b h k = let e : ◌≡◌ {A = List ℕ} (0x01 ∷ 0 ∷ a) (0x01 ∷ 0 ∷ b) = sym h ∙ k in cc

pub one_answer : (here : Place) (a b : Message) → Stands here a → Stands here b → a ≡ b
one_answer here (reply x) (reply y) h k = let e : ◌≡◌ {A = List ℕ} (2 ∷ 0 ∷ x) (2 ∷ 0 ∷ y) = sym h ∙ k in cc
one_answer here (error x) (error y) h k = let e : ◌≡◌ {A = List ℕ} (3 ∷ 0 ∷ x) (3 ∷ 0 ∷ y) = sym h ∙ k in cc
one_answer here (reply x) (error y) h k = let e : ◌≡◌ {A = List ℕ} (2 ∷ 0 ∷ x) (3 ∷ 0 ∷ y) = sym h ∙ k in absurd cc
one_answer here (error x) (reply y) h k = let e : ◌≡◌ {A = List ℕ} (3 ∷ 0 ∷ x) (2 ∷ 0 ∷ y) = sym h ∙ k in absurd cc

-- what the exit of a `?` returns
pub fault-at-exit : {V E : Type 0} (IsFault : E → Type 0) (r : Result V E) {e : E} → IsErrAnd r (λ y. y ≡ e) → IsFault e → IfErr r IsFault
fault-at-exit IsFault r x h = let p = err_from_is_err_and r x in rw (p.1, p.2) h

-- the forms
abbrev pub AsToken : Place → Wrapping × Mechanism → Place → Type 0
AsToken here x inner = IsWrapped here x.0 x.1 inner

abbrev pub AsAnswer : Place → Wrapping × Mechanism → Place → Type 0
AsAnswer here x inner = IsWrappedAnswer here x.0 x.1 inner

-- ---- the whole of the bytes, of a form that is read up to the identifier
module _ {X M : Type 0} (Is : Place → X → Place → Type 0) {IsFault : Place → TokenFault → Type 0} {read : Place → Result (X × Place) TokenFault}
    (reads : (here : Place) → Reads (read here) (λ (y : X × Place). Is here y.0 y.1) (IsFault here)) (Holds : Place → M → Type 0) (bytes : List ℕ) where
  abbrev WholeFault : TokenFault → Type 0
  WholeFault f = IsTooLong bytes f ⊎ ((length bytes ≤ limit) × IsFault (begin_at bytes) f)

  reads-whole : Reads (whole_at read bytes) (λ (y : X × Place). (length bytes ≤ limit) × Is (begin_at bytes) y.0 y.1) WholeFault
  unfolding whole_at
  reads-whole =
      reads-then (begun bytes) _ (reads-begun bytes) (λ here b. reads here) (λ here y b k. (b.0, subst (λ (p : Place). Is p y.0 y.1) b.1 k)) (λ y k. (begin_at bytes, (k.0, refl), k.1))
      (λ f k. inl k) (λ here f b k. inr (b.0, subst (λ (p : Place). IsFault p f) b.1 k))

  module _ {f : TokenFault} (e : whole_at read bytes ≡ Err f) where
    pub unread-only : (x : X) (message : M) → IsWhole Is (λ i. Holds i message) x bytes → ⊥
    unread-only x message t = no_value f (x, t.inner) (sym e ∙ reads-whole.only (x, t.inner) (t.within, t.wrapped))

    pub unread-faulty : {NoMessage : Place → TokenFault → Type 0} → IsWholeFault Is IsFault NoMessage bytes f
    unread-faulty {NoMessage = NoMessage} = by (subst (λ r. IfErr r WholeFault) e reads-whole.faulty)
      where
        by : WholeFault f → IsWholeFault Is IsFault NoMessage bytes f
        by (inl k) = too_long k
        by (inr k) = of_wrapping k.0 k.1

  module _ {x : X} {inner : Place} (e : whole_at read bytes ≡ Ok (x, inner)) where
    there : (length bytes ≤ limit) × Is (begin_at bytes) x inner
    there = subst (λ r. IfOk r (λ (y : X × Place). (length bytes ≤ limit) × Is (begin_at bytes) y.0 y.1)) e reads-whole.found

    same : (y : X) (message : M) (t : IsWhole Is (λ i. Holds i message) y bytes) → ◌≡◌ {A = X × Place} (x, inner) (y, t.inner)
    same y message t = same_ok {E = TokenFault} (x, inner) (y, t.inner) (sym e ∙ reads-whole.only (y, t.inner) (t.within, t.wrapped))

    held : (y : X) (message : M) → IsWhole Is (λ i. Holds i message) y bytes → Holds inner message
    held y message t = subst (λ (p : Place). Holds p message) (sym (ap (λ (z : X × Place). z.1) (same y message t))) t.is

    pub unheld-only : {f : TokenFault} → IsNoMessage (Holds inner) inner f → (y : X) (message : M) → IsWhole Is (λ i. Holds i message) y bytes → ⊥
    unheld-only un y message t = un.none message (held y message t)

    pub unheld-faulty : {f : TokenFault} {NoMessage : Place → TokenFault → Type 0} → NoMessage inner f → IsWholeFault Is IsFault NoMessage bytes f
    unheld-faulty un = of_message x inner there.0 there.1 un

    pub whole-found : (message : M) → Holds inner message → IsWhole Is (λ i. Holds i message) x bytes
    whole-found message is = record { within = there.0; inner = inner; wrapped = there.1; is = is }

    pub one-whole : ((here : Place) (a b : M) → Holds here a → Holds here b → a ≡ b) → (message : M) → Holds inner message → (y : X) (k : M) → IsWhole Is (λ i. Holds i k) y bytes
        → (x ≡ y) × (message ≡ k)
    one-whole one message is y k t = (ap (λ (z : X × Place). z.0) (same y k t), one inner message k is (held y k t))
