-- Reading tokens gives exactly what the relations say, else a fault by the rules.
use Rattle.std.proofs.Common.{◌≡◌, ℕ, ◌≤◌, ltb, true, false, List, [], ◌∷◌, length, Option, Some, None, Result, Ok, Err, refl, sym, ap, ◌∙◌, arith}
use Rattle.std.proofs.lemmas.Bool.{cond_both, ltb-true, ltb-false, le-ltb, eq-eqb, eqb-true, false≢true, true≢false}
use Rattle.krb_der.specs.declared.fault.Fault.{Fault}
use Rattle.krb_der.specs.Place.{Place, begin_at, begins}
use Rattle.krb_der.specs.Spells.{limit}
use Rattle.krb_der.specs.Fault.{HasHead}
use Rattle.krb_der.specs.Parts.{Parts, PlacesOf}
use Rattle.krb_der.specs.Computed.Steps.{◌>>=◌}
use Rattle.krb_der.specs.Computed.Parts.{parts_at}
use Rattle.krb_der.proofs.LengthLaws.{no_value}
use Rattle.krb_der.proofs.Steps.{Reads, reads-as, reads-made, reads-then, reads-both}
use Rattle.krb_der.proofs.PartsLaws.{reads-parts}
use Rattle.krb_gss.specs.declared.fault.TokenFault.{TokenFault}
use Rattle.krb_gss.specs.declared.fault.TokenFault.TheVariants.{OtherMechanism}
use Rattle.krb_gss.specs.declared.mechanism.Mechanism.{Mechanism}
use Rattle.krb_gss.specs.declared.mechanism.Foreign.{Foreign}
use Rattle.krb_gss.specs.declared.mechanism.Foreign.TheVariants.{Negotiation, Ntlm, IaKerb, Unknown}
use Rattle.krb_gss.specs.declared.opening.Wrapping.{Wrapping}
use Rattle.krb_gss.specs.declared.opening.Wrapping.TheVariants.{Bare, Negotiated}
use Rattle.krb_gss.specs.Mechanism.{named_of}
use Rattle.krb_gss.specs.Module.{initial_context_token, negotiation_token, later_response}
use Rattle.krb_gss.specs.Token.{IsKerberos, HoldsFields, IsInit, HoldsKerberos, AreKerberos, IsNegotiated, IsWithin, IsWrapped}
use Rattle.krb_gss.specs.Fault.{IsEither, of_first, of_next, IsMalformed, IsOther, IsKerberosFault, HoldsFieldsFault, IsHeldFault, unframed, of_kerberos, HoldsKerberosFault, AreKerberosFault, IsNegotiatedFault, IsWithinFault, within_mechanism, within_negotiation, IsBeginFault, response, request, not_token, IsWrappedFault, IsTooLong}
use Rattle.krb_gss.specs.Answer.{IsResponse, IsWrappedAnswer}
use Rattle.krb_gss.specs.Answered.{IsWrappedAnswerFault, not_answer, answer_plain, answer_negotiated}
use Rattle.krb_gss.specs.Later.{of_later, IsGoingOn, IsGoingOnFault}
use Rattle.krb_gss.specs.Inner.Reading.{as_token, begun, name_from, name_at, kerberos_at, fields_at, init_at, response_at, later_at, held_at, held_from, named_at, negotiated_by, going_on_at, as_negotiated, as_bare, within_from, begin_from, framed_at, wrapped_at, answer_at}

-- ---- steps
-- one step after another, where a fault is one of the first or of the second
pub either : {V W E : Type 0} {Is : V → Type 0} {Next : V → W → Type 0} {Whole : W → Type 0} {IsFault : E → Type 0} {NextFault : V → E → Type 0} (r : Result V E) (next : V → Result W E)
    → Reads r Is IsFault → ((v : V) → Is v → Reads (next v) (Next v) (NextFault v)) → ((v : V) (w : W) → Is v → Next v w → Whole w) → ((w : W) → Whole w → (v : V) × Is v × Next v w)
    → Reads (r >>= next) Whole (IsEither Is IsFault NextFault)
either r next h n join split = reads-then r next h n join split (λ e k. of_first k) (λ v e is k. of_next v is k)

either-both : {V U W E : Type 0} {Is : V → Type 0} {Next : V → U → Type 0} {Whole : W → Type 0} {IsFault : E → Type 0} {NextFault : V → E → Type 0} (made : V → U → W) (r : Result V E)
    (next : V → Result U E) → Reads r Is IsFault → ((v : V) → Is v → Reads (next v) (Next v) (NextFault v)) → ((v : V) (u : U) → Is v → Next v u → Whole (made v u))
    → ((w : W) → Whole w → (v : V) × (u : U) × Is v × Next v u × (made v u ≡ w)) → Reads (r >>= λ v. next v >>= λ u. Ok (made v u)) Whole (IsEither Is IsFault NextFault)
either-both made r next h n join split = reads-both made r next h n join split (λ e k. of_first k) (λ v e is k. of_next v is k)

pub of-token : {V : Type 0} {Is : V → Type 0} {IsFault : Fault → Type 0} (r : Result V Fault) → Reads r Is IsFault → Reads (as_token r) Is (IsMalformed IsFault)
of-token (Ok v) h = record { found = h.found; only = λ w k. ap as_token (h.only w k); faulty = tt }
of-token (Err f) h = record { found = tt; only = λ w k. ap as_token (h.only w k); faulty = record { broken = f; is = h.faulty; fault_is = refl } }

pub reads-begun : (bytes : List ℕ) → Reads (begun bytes) (λ here. (length bytes ≤ limit) × (here ≡ begin_at bytes)) (IsTooLong bytes)
unfolding begun
reads-begun bytes =
    cond_both (ltb limit (length bytes)) _ _ (λ r. Reads r (λ here. (length bytes ≤ limit) × (here ≡ begin_at bytes)) (IsTooLong bytes))
    (λ more. record { found = tt; only = λ here k. absurd (false≢true (sym (le-ltb limit (length bytes) k.0) ∙ more)); faulty = record { more = ltb-true limit (length bytes) more; fault_is = refl } })
    (λ less. record { found = (ltb-false limit (length bytes) less, refl); only = λ here k. ap Ok (sym k.1); faulty = tt })

-- ---- names
reads-named : (r : Result Mechanism Foreign) (oid : Place) → named_of oid.rest ≡ r → Reads (name_from oid.at r) (λ m. named_of oid.rest ≡ Ok m) (IsOther oid)
reads-named (Ok m) oid e = record { found = e; only = λ n k. ap (name_from oid.at) (sym e ∙ k); faulty = tt }
reads-named (Err other) oid e = record { found = tt; only = λ n k. absurd (no_value other n (sym e ∙ k)); faulty = record { other = other; named = e; fault_is = refl } }

reads-name : (oid : Place) → Reads (name_at oid) (λ m. named_of oid.rest ≡ Ok m) (IsOther oid)
reads-name oid = reads-named (named_of oid.rest) oid refl

pub reads-kerberos : (here : Place) → Reads (kerberos_at here) (λ (x : Mechanism × Place). IsKerberos here x.0 x.1) (IsKerberosFault here)
unfolding kerberos_at
reads-kerberos here =
    either-both (λ x m. (m, x.1)) (as_token (parts_at initial_context_token here)) (λ x. name_at x.0) (of-token (parts_at initial_context_token here) (reads-parts initial_context_token here))
    (λ x is. reads-name x.0) (λ x m is named. record { oid = x.0; framed = is; named = named }) (λ w k. ((k.oid, w.1), w.0, k.framed, k.named, refl))

-- ---- the messages of a negotiation
pub reads-fields : {W : Type 0} (tag : ℕ) (ps : Parts) (pick : Place → PlacesOf ps → W) (here : Place) → Reads (fields_at tag ps pick here) (HoldsFields tag ps pick here) (HoldsFieldsFault tag ps here)
unfolding fields_at
reads-fields tag ps pick here =
    either-both pick (parts_at (negotiation_token tag) here) (λ fields. parts_at ps fields) (reads-parts (negotiation_token tag) here) (λ fields is. reads-parts ps fields)
    (λ fields v is k. record { fields = fields; places = v; chosen = is; stand = k; picked_is = refl }) (λ w k. (k.fields, k.places, k.chosen, k.stand, k.picked_is))

-- ---- their tokens
head_begins : {tag : ℕ} {here inside after : Place} → HasHead tag here inside after → begins tag here.rest ≡ true
head_begins {tag = tag} h = ap (begins tag) h.whole ∙ eq-eqb tag tag refl

both_begin : (a b : ℕ) (bytes : List ℕ) → begins a bytes ≡ true → begins b bytes ≡ true → a ≡ b
both_begin a b [] e f = absurd (false≢true e)
both_begin a b (x ∷ bytes) e f = sym (eqb-true x a e) ∙ eqb-true x b f

reads-held : (here : Place) → Reads (held_at here) (λ (x : Mechanism × Place). IsKerberos here x.0 x.1) (IsHeldFault here)
unfolding held_at
reads-held here =
    cond_both (begins 0x6e here.rest) _ _ (λ r. Reads r (λ (x : Mechanism × Place). IsKerberos here x.0 x.1) (IsHeldFault here))
    (λ b. record { found = tt; only = λ x k. absurd (other (both_begin 0x6e 0x60 here.rest b (head_begins k.framed.head))); faulty = unframed b refl })
    (λ b. reads-as (kerberos_at here) (reads-kerberos here) (λ x k. k) (λ x k. k) (λ f k. of_kerberos b k))
  where
    other : ◌≡◌ {A = ℕ} 0x6e 0x60 → ⊥
    other e = omega (arith, e)

reads-held-from : (oid : Place) (token : Option Place) → Reads (held_from oid token) (λ (x : Mechanism × Place). HoldsKerberos token x.0 x.1) (HoldsKerberosFault oid token)
reads-held-from oid None = record { found = tt; only = λ x k. absurd k; faulty = refl }
reads-held-from oid (Some here) = reads-held here

reads-both-named : (oid : Place) (token : Option Place) → Reads (named_at oid token) (λ (x : Mechanism × Mechanism × Place). AreKerberos oid token x.0 x.1 x.2) (AreKerberosFault oid token)
unfolding named_at
reads-both-named oid token =
    either-both (λ first x. (first, x.0, x.1)) (name_at oid) (λ first. held_from oid token) (reads-name oid) (λ first is. reads-held-from oid token)
    (λ first x is k. record { named = is; is = k }) (λ w k. (w.0, (w.1, w.2), k.named, k.is, refl))

reads-negotiated : {Is : Place → Option Place → Type 0} {IsFault : Fault → Type 0} (r : Result (Place × Option Place) Fault) → Reads r (λ x. Is x.0 x.1) IsFault
    → Reads (negotiated_by r) (λ (x : Mechanism × Mechanism × Place). IsNegotiated Is x.0 x.1 x.2) (IsNegotiatedFault Is IsFault)
unfolding negotiated_by
reads-negotiated r h =
    either (as_token r) _ (of-token r h) (λ x is. reads-both-named x.0 x.1) (λ x w is k. record { oid = x.0; token = x.1; fields = is; are = k }) (λ w k. ((k.oid, k.token), k.fields, k.are))

pub reads-going-on : (here : Place) → Reads (going_on_at here) (λ (x : Mechanism × Place). IsGoingOn here x.0 x.1) (IsGoingOnFault here)
unfolding going_on_at
reads-going-on here =
    either (as_token (later_at here)) _ (of-token (later_at here) (reads-fields 0xa1 later_response of_later here)) (λ x is. reads-held-from x.0 x.1)
    (λ x w is k. record { fields = x.0; token = x.1; are = is; held = k }) (λ w k. ((k.fields, k.token), k.are, k.held))

-- ---- tokens in their wrapping
abbrev Within : Place → Place → Result ((Wrapping × Mechanism) × Place) TokenFault → Type 0
Within oid after r = Reads r (λ x. IsWithin oid after x.0.0 x.0.1 x.1) (IsWithinFault oid after)

-- a mechanism that is neither Kerberos nor a negotiation
foreign : (oid after : Place) (other : Foreign) → named_of oid.rest ≡ Err other → (other ≡ Negotiation → ⊥) → Within oid after (Err (OtherMechanism other oid.at))
foreign oid after other e isnt =
    record { found = tt; only = λ w k. absurd (none w.0.0 w.0.1 w.1 k); faulty = within_mechanism (λ q. isnt (same_err (sym e ∙ q))) (record { other = other; named = e; fault_is = refl }) }
  where
    same_err : ◌≡◌ {A = Result Mechanism Foreign} (Err other) (Err Negotiation) → other ≡ Negotiation
    same_err q = cc

    none : (w : Wrapping) (m : Mechanism) (inner : Place) → IsWithin oid after w m inner → ⊥
    none Bare m inner k = no_value other m (sym e ∙ k.0)
    none (Negotiated first) m inner k = isnt (same_err (sym e ∙ k.0))

reads-within : (oid after : Place) (r : Result Mechanism Foreign) → named_of oid.rest ≡ r → Within oid after (within_from oid.at after r)
reads-within oid after (Ok m) e = record { found = (e, refl); only = λ w k. only w.0.0 w.0.1 w.1 k; faulty = tt }
  where
    same_ok : (n : Mechanism) → ◌≡◌ {A = Result Mechanism Foreign} (Ok m) (Ok n) → m ≡ n
    same_ok n q = cc

    only : (w : Wrapping) (n : Mechanism) (inner : Place) → IsWithin oid after w n inner → ◌≡◌ {A = Result ((Wrapping × Mechanism) × Place) TokenFault} (Ok ((Bare, m), after)) (Ok ((w, n), inner))
    only Bare n inner k = ap (λ (y : Mechanism). Ok ((Bare, y), after)) (same_ok n (sym e ∙ k.0)) ∙ ap (λ (y : Place). Ok ((Bare, n), y)) k.1
    only (Negotiated first) n inner k = absurd (no_value _ m (sym k.0 ∙ e))
reads-within oid after (Err Negotiation) e =
    reads-made as_negotiated (negotiated_by (init_at after)) (reads-negotiated (init_at after) (reads-fields 0xa0 _ _ after)) (λ x k. (e, k)) (λ w k. split w.0.0 w.0.1 w.1 k)
    (λ f k. within_negotiation e k)
  where
    split : (w : Wrapping) (m : Mechanism) (inner : Place) → IsWithin oid after w m inner
        → (x : Mechanism × Mechanism × Place) × IsNegotiated (IsInit after) x.0 x.1 x.2 × (as_negotiated x ≡ ((w, m), inner))
    split Bare m inner k = absurd (no_value _ m (sym e ∙ k.0))
    split (Negotiated first) m inner k = ((first, m, inner), k.1, refl)
reads-within oid after (Err Ntlm) e = foreign oid after Ntlm e (λ q. absurd cc)
reads-within oid after (Err IaKerb) e = foreign oid after IaKerb e (λ q. absurd cc)
reads-within oid after (Err Unknown) e = foreign oid after Unknown e (λ q. absurd cc)

abbrev Begins : List ℕ → Result (Unit {0}) TokenFault → Type 0
Begins bytes r = Reads r (λ (u : Unit {0}). begins 0x60 bytes ≡ true) (IsBeginFault bytes)

reads-begin : (bytes : List ℕ) → Reads (begin_from bytes) (λ (u : Unit {0}). begins 0x60 bytes ≡ true) (IsBeginFault bytes)
reads-begin bytes =
    cond_both (begins 0x60 bytes) _ _ (Begins bytes) (λ b. record { found = b; only = λ u k. refl; faulty = tt })
    (λ n. cond_both (begins 0xa1 bytes) _ _ (Begins bytes) (λ b. record { found = tt; only = λ u k. absurd (true≢false (sym k ∙ n)); faulty = response b refl })
    (λ a. cond_both (begins 0x6e bytes) _ _ (Begins bytes) (λ b. record { found = tt; only = λ u k. absurd (true≢false (sym k ∙ n)); faulty = request b refl })
    (λ r. record { found = tt; only = λ u k. absurd (true≢false (sym k ∙ n)); faulty = not_token a r n refl })))

pub reads-wrapped : (here : Place) → Reads (wrapped_at here) (λ (x : (Wrapping × Mechanism) × Place). IsWrapped here x.0.0 x.0.1 x.1) (IsWrappedFault here)
unfolding wrapped_at framed_at
reads-wrapped here =
    either {Next = λ (u : Unit {0}) (x : (Wrapping × Mechanism) × Place). IsWrapped here x.0.0 x.0.1 x.1} (begin_from here.rest) _ (reads-begin here.rest)
    (λ u b. either (as_token (parts_at initial_context_token here)) _ (of-token (parts_at initial_context_token here) (reads-parts initial_context_token here))
    (λ x is. reads-within x.0 x.1 (named_of x.0.rest) refl) (λ x w is k. record { oid = x.0; after = x.1; framed = is; within = k }) (λ w k. ((k.oid, k.after), k.framed, k.within)))
    (λ u w b k. k) (λ w k. (tt, head_begins k.framed.head, k))

-- ---- answers
abbrev Answers : Place → Result ((Wrapping × Mechanism) × Place) TokenFault → Type 0
Answers here r = Reads r (λ x. IsWrappedAnswer here x.0.0 x.0.1 x.1) (IsWrappedAnswerFault here)

pub reads-answer : (here : Place) → Reads (answer_at here) (λ (x : (Wrapping × Mechanism) × Place). IsWrappedAnswer here x.0.0 x.0.1 x.1) (IsWrappedAnswerFault here)
unfolding answer_at
reads-answer here =
    cond_both (begins 0x60 here.rest) _ _ (Answers here)
    (λ b. reads-made as_bare (kerberos_at here) (reads-kerberos here) (λ x k. k) (λ w k. is-bare b w.0.0 w.0.1 w.1 k) (λ f k. answer_plain b k))
    (λ n. cond_both (begins 0xa1 here.rest) _ _ (Answers here)
    (λ b. reads-made as_negotiated (negotiated_by (response_at here)) (reads-negotiated (response_at here) (reads-fields 0xa1 _ _ here)) (λ x k. k) (λ w k. is-negotiated n w.0.0 w.0.1 w.1 k)
    (λ f k. answer_negotiated b k))
    (λ a. record { found = tt; only = λ w k. absurd (none n a w.0.0 w.0.1 w.1 k); faulty = not_answer a n refl }))
  where
    other : ◌≡◌ {A = ℕ} 0x60 0xa1 → ⊥
    other e = omega (arith, e)

    is-bare : begins 0x60 here.rest ≡ true → (w : Wrapping) (m : Mechanism) (inner : Place) → IsWrappedAnswer here w m inner
        → (x : Mechanism × Place) × IsKerberos here x.0 x.1 × (as_bare x ≡ ((w, m), inner))
    is-bare b Bare m inner k = ((m, inner), k, refl)
    is-bare b (Negotiated first) m inner k = absurd (other (both_begin 0x60 0xa1 here.rest b (head_begins k.fields.chosen.head)))

    is-negotiated : begins 0x60 here.rest ≡ false → (w : Wrapping) (m : Mechanism) (inner : Place) → IsWrappedAnswer here w m inner
        → (x : Mechanism × Mechanism × Place) × IsNegotiated (IsResponse here) x.0 x.1 x.2 × (as_negotiated x ≡ ((w, m), inner))
    is-negotiated n Bare m inner k = absurd (true≢false (sym (head_begins k.framed.head) ∙ n))
    is-negotiated n (Negotiated first) m inner k = ((first, m, inner), k, refl)

    none : begins 0x60 here.rest ≡ false → begins 0xa1 here.rest ≡ false → (w : Wrapping) (m : Mechanism) (inner : Place) → IsWrappedAnswer here w m inner → ⊥
    none n a Bare m inner k = true≢false (sym (head_begins k.framed.head) ∙ n)
    none n a (Negotiated first) m inner k = true≢false (sym (head_begins k.fields.chosen.head) ∙ a)
