-- Whole messages.
use Rattle.std.proofs.Common.{ltb, ◌≡◌, ◌⊎◌, inl, inr, ℕ, true, List, [], ◌++◌, length, take, Result, Ok, Err, refl, sym, ap, subst, ◌∙◌, arith}
use Rattle.std.specs.Prelude.{◌↔◌}
use Rattle.krb_der.specs.Computed.Gives.{Fills}
use Rattle.std.proofs.lemmas.Bool.{cond_both, ltb-true, ltb-false, le-ltb}
use Rattle.std.proofs.lemmas.List.{append-nil, take_at}
use Rattle.krb_der.specs.declared.fault.Fault.{Fault}
use Rattle.krb_der.specs.Kind.{Kind, ends, must, ValueOf}
use Rattle.krb_der.specs.Place.{Place, begin_at}
use Rattle.krb_der.specs.Spells.{Spells, IsMessage, limit}
use Rattle.krb_der.specs.Fault.{IsFault, too_long, faulty, start, after_element}
use Rattle.krb_der.specs.Reading.{Parses}
use Rattle.krb_der.specs.Clear.{is_clear}
use Rattle.krb_der.specs.Computed.Read.{element_at, finish_at, message_of}
use Rattle.krb_der.proofs.LengthLaws.{no_value}
use Rattle.krb_der.proofs.ElementSteps.{answer, bind_at, same_ok}
use Rattle.krb_der.proofs.ElementLaws.{element_read, finished}
use Rattle.krb_der.proofs.Outcomes.{bind_by, ElementOut, FieldsOut, element_out, end_out, alone}
use Rattle.krb_der.proofs.Offsets.{fault_within}

-- what is spelled is read, whatever follows
reads : (k : Kind) (v : ValueOf k) (front rest : List ℕ) → is_clear k ≡ true → Spells k v front
    → element_at k (begin_at (front ++ rest)) ≡ Ok (v, record { at = length front; rest = rest })
reads k v front rest clear s =
    element_read k clear v (begin_at (front ++ rest)) (record { at = length front; rest = rest }) (record { front = front; spelled = s; whole = refl; at_is = omega arith })

pub no_prefix : (k : Kind) → is_clear k ≡ true → (v w : ValueOf k) (a b x y : List ℕ) → Spells k v a → Spells k w b → a ++ x ≡ b ++ y → (a ≡ b) × (v ≡ w)
no_prefix k clear v w a b x y s t e =
    let both = answer v w (record { at = length a; rest = x }) (record { at = length b; rest = y })
    (sym (reads k v a x clear s) ∙ ap (λ (l : List ℕ). element_at k (begin_at l)) e ∙ reads k w b y clear t) in
    let long : length a ≡ length b = ap (λ (p : Place). p.at) both.1 in
    (sym (take_at a x (length a) refl) ∙ ap (take (length a)) e ∙ take_at b y (length a) (sym long), both.0)

pub one_value : (k : Kind) → is_clear k ≡ true → (v w : ValueOf k) (bytes : List ℕ) → Spells k v bytes → Spells k w bytes → v ≡ w
one_value k clear v w bytes s t = (no_prefix k clear v w bytes bytes [] [] s t refl).1

-- ---- reading a whole message
pub message_only : (k : Kind) (v : ValueOf k) (bytes : List ℕ) → is_clear k ≡ true → IsMessage k v bytes → message_of k bytes ≡ Ok v
unfolding message_of
message_only k v bytes clear m =
    rw (le-ltb limit (length bytes) m.within)
    (bind_at (element_at k (begin_at bytes)) _ _ (ap (λ (l : List ℕ). element_at k (begin_at l)) (sym (append-nil bytes)) ∙ reads k v bytes [] clear m.spelled)
    ∙ bind_at (finish_at (record { at = length bytes; rest = [] })) (λ _. Ok v) _ (finished (record { at = length bytes; rest = [] }) refl))

-- what it gives
abbrev MessageOut : (k : Kind) → List ℕ → Result (ValueOf k) Fault → Type 0
MessageOut k bytes (Ok v) = IsMessage k v bytes
MessageOut k bytes (Err f) = IsFault k bytes f

message_out : (k : Kind) (bytes : List ℕ) → MessageOut k bytes (message_of k bytes)
unfolding message_of
message_out k bytes =
    cond_both (ltb limit (length bytes)) _ _ (MessageOut k bytes)
    (λ long. too_long (ltb-true limit (length bytes) long) refl)
    (λ fits.
    let within = ltb-false limit (length bytes) fits in
    bind_by (ElementOut k (begin_at bytes)) (MessageOut k bytes) (element_at k (begin_at bytes)) _ (element_out k (begin_at bytes))
    (λ x s. bind_by (FieldsOut ends x.1) (MessageOut k bytes) (finish_at x.1) _ (end_out x.1)
    (λ u end. record { spelled = alone k x.0 (begin_at bytes) x.1 s end; within = within })
    (λ f faults. faulty within (faults (must k ends) (begin_at bytes) (after_element x.0 start s))))
    (λ f faults. faulty within (faults ends (must k ends) (begin_at bytes) start)))

pub message_found : (k : Kind) (v : ValueOf k) (bytes : List ℕ) → message_of k bytes ≡ Ok v → IsMessage k v bytes
message_found k v bytes e = subst (MessageOut k bytes) e (message_out k bytes)

pub message_fault : (k : Kind) (bytes : List ℕ) (f : Fault) → message_of k bytes ≡ Err f → IsFault k bytes f
message_fault k bytes f e = subst (MessageOut k bytes) e (message_out k bytes)

-- ---- decided
pub decided : (k : Kind) → is_clear k ≡ true → (bytes : List ℕ) → ((v : ValueOf k) × IsMessage k v bytes) ⊎ ((v : ValueOf k) → IsMessage k v bytes → ⊥)
decided k clear bytes = by (message_of k bytes) refl
  where
    by : (r : Result (ValueOf k) Fault) → message_of k bytes ≡ r → ((v : ValueOf k) × IsMessage k v bytes) ⊎ ((v : ValueOf k) → IsMessage k v bytes → ⊥)
    by (Ok v) e = inl (v, message_found k v bytes e)
    by (Err f) e = inr (λ v m. absurd (no_value f v (sym e ∙ message_only k v bytes clear m)))

pub has_fault : (k : Kind) → is_clear k ≡ true → (bytes : List ℕ) → ((v : ValueOf k) → IsMessage k v bytes → ⊥) → (f : Fault) × IsFault k bytes f
has_fault k clear bytes none = by (message_of k bytes) refl
  where
    by : (r : Result (ValueOf k) Fault) → message_of k bytes ≡ r → (f : Fault) × IsFault k bytes f
    by (Ok v) e = absurd (none v (message_found k v bytes e))
    by (Err f) e = (f, message_fault k bytes f e)

pub message_read : (k : Kind) → is_clear k ≡ true → (v : ValueOf k) (bytes : List ℕ) → (message_of k bytes ≡ Ok v) ↔ IsMessage k v bytes
message_read k clear v bytes = (message_found k v bytes, message_only k v bytes clear)

-- ---- a call that gives what reading a message gives
pub parses : {X : Type 0} (k : Kind) (view : X → ValueOf k) (r : Result X Fault) (bytes : List ℕ) → is_clear k ≡ true → Fills view r (message_of k bytes) → Parses k view r bytes
parses k view (Ok x) bytes clear e =
    record {
      found = message_found k (view x) bytes e;
      only = λ v m. same_ok {E = Fault} (view x) v (sym e ∙ message_only k v bytes clear m);
      faulty = tt;
      offset = tt;
    }
parses k view (Err f) bytes clear e =
    record {
      found = tt;
      only = λ v m. absurd (no_value f v (sym e ∙ message_only k v bytes clear m));
      faulty = message_fault k bytes f e;
      offset = fault_within k bytes f (message_fault k bytes f e);
    }
