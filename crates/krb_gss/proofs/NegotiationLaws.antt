-- A negotiation without a token, on either side: what reading finds, if it finds something.
use Rattle.std.proofs.Common.{◌≡◌, ℕ, ◌≤◌, List, length, Option, Some, None, Result, Ok, Err, refl, sym, ap, ◌∙◌, subst}
use Rattle.std.specs.Prelude.{IfSome}
use Rattle.std.specs.Option.{MatchOption}
use Rattle.krb_der.specs.Place.{Place, begin_at}
use Rattle.krb_der.specs.Spells.{limit}
use Rattle.krb_der.specs.Computed.Steps.{◌>>?◌}
use Rattle.krb_der.specs.Computed.Parts.{parts_at}
use Rattle.krb_der.proofs.Steps.{Reads}
use Rattle.krb_der.proofs.PartsLaws.{reads-parts}
use Rattle.krb_gss.specs.declared.mechanism.Mechanism.{Mechanism}
use Rattle.krb_gss.specs.declared.mechanism.Foreign.{Foreign}
use Rattle.krb_gss.specs.declared.mechanism.Foreign.TheVariants.{Negotiation, Ntlm, IaKerb, Unknown}
use Rattle.krb_gss.specs.declared.verdict.Verdict.{Verdict}
use Rattle.krb_gss.specs.Mechanism.{named_of}
use Rattle.krb_gss.specs.Module.{initial_context_token, neg_token_init, bare_response}
use Rattle.krb_gss.specs.Token.{IsFramed, HoldsFields, of_init, IsInit}
use Rattle.krb_gss.specs.Said.{of_said, named_if, Means, Says}
use Rattle.krb_gss.specs.Negotiation.{IsAsking}
use Rattle.krb_gss.specs.Inner.Reading.{begun, ok_of, init_at, said_at, spnego_from, unsent_from, asked_at, said_whole}
use Rattle.krb_gss.proofs.ReadLaws.{reads-begun, reads-fields}

-- what is there exactly if something is found
pub record Gets {V : Type 0} (o : Option V) (Is : V → Type 0) : Type 0 where
  pub found : IfSome o Is
  pub only : (v : V) → Is v → o ≡ Some v

pub gets : {V E : Type 0} {Is : V → Type 0} {IsFault : E → Type 0} (r : Result V E) → Reads r Is IsFault → Gets (ok_of r) Is
gets (Ok v) h = record { found = h.found; only = λ w k. ap ok_of (h.only w k) }
gets (Err e) h = record { found = tt; only = λ w k. ap ok_of (h.only w k) }

pub gets-then : {V W : Type 0} {Is : V → Type 0} {Next : V → W → Type 0} {Whole : W → Type 0} (o : Option V) (next : V → Option W) → Gets o Is → ((v : V) → Is v → Gets (next v) (Next v))
    → ((v : V) (w : W) → Is v → Next v w → Whole w) → ((w : W) → Whole w → (v : V) × Is v × Next v w) → Gets (o >>? next) Whole
gets-then {V = V} {W = W} {Is = Is} {Next = Next} {Whole = Whole} o next h n join split =
    record { found = by o h.found; only = λ w k. let s = split w k in ap (λ (x : Option V). x >>? next) (h.only s.0 s.1) ∙ (n s.0 s.1).only w s.2 }
  where
    whole : (v : V) → Is v → (p : Option W) → IfSome p (Next v) → IfSome p Whole
    whole v is None k = tt
    whole v is (Some w) k = join v w is k

    by : (p : Option V) → IfSome p Is → IfSome (p >>? next) Whole
    by None k = tt
    by (Some v) is = whole v is (next v) (n v is).found

pub match-map : {V : Type 0} {N M : Type 0} {S T : V → Type 0} (r : Option V) → MatchOption r N S → (N → M) → ((v : V) → S v → T v) → MatchOption r M T
match-map None h f g = f h
match-map (Some v) h f g = g v h

pub some_none : {V : Type 0} (v : V) → ◌≡◌ {A = Option V} None (Some v) → ⊥
some_none v e = cc

matched : {V : Type 0} {Is : V → Type 0} (o : Option V) → Gets o Is → MatchOption o ((v : V) → Is v → ⊥) Is
matched None h = λ v k. some_none v (h.only v k)
matched (Some v) h = h.found

-- ---- a client that asks
pub gets-spnego : (r : Result Mechanism Foreign) (after : Place) → Gets (spnego_from r after) (λ p. (r ≡ Err Negotiation) × (after ≡ p))
gets-spnego (Ok m) after = record { found = tt; only = λ p k. absurd (other k.0) }
  where
    other : ◌≡◌ {A = Result Mechanism Foreign} (Ok m) (Err Negotiation) → ⊥
    other e = cc
gets-spnego (Err Negotiation) after = record { found = (refl, refl); only = λ p k. ap Some k.1 }
gets-spnego (Err Ntlm) after = record { found = tt; only = λ p k. absurd (let e : ◌≡◌ {A = Result Mechanism Foreign} (Err Ntlm) (Err Negotiation) = k.0 in cc) }
gets-spnego (Err IaKerb) after = record { found = tt; only = λ p k. absurd (let e : ◌≡◌ {A = Result Mechanism Foreign} (Err IaKerb) (Err Negotiation) = k.0 in cc) }
gets-spnego (Err Unknown) after = record { found = tt; only = λ p k. absurd (let e : ◌≡◌ {A = Result Mechanism Foreign} (Err Unknown) (Err Negotiation) = k.0 in cc) }

gets-unsent : (token : Option Place) (r : Result Mechanism Foreign) → Gets (unsent_from token r) (λ first. (token ≡ None) × (r ≡ Ok first))
gets-unsent (Some here) r = record { found = tt; only = λ first k. absurd (some_none here (sym k.0)) }
gets-unsent None (Ok m) = record { found = (refl, refl); only = λ first k. let e : ◌≡◌ {A = Result Mechanism Foreign} (Ok m) (Ok first) = k.1 in ap Some (same m first e) }
  where
    same : (a b : Mechanism) → ◌≡◌ {A = Result Mechanism Foreign} (Ok a) (Ok b) → a ≡ b
    same a b e = cc
gets-unsent None (Err other) = record { found = tt; only = λ first k. absurd (let e : ◌≡◌ {A = Result Mechanism Foreign} (Err other) (Ok first) = k.1 in cc) }

-- in a NegTokenInit, and in what is framed
abbrev AsksIn : Place → Mechanism → Type 0
AsksIn after first = (y : Place × Option Place) × HoldsFields 0xa0 neg_token_init of_init after y × (y.1 ≡ None) × (named_of y.0.rest ≡ Ok first)

abbrev AsksAt : Place → Mechanism → Type 0
AsksAt here first = (x : Place × Place) × IsFramed here x.0 x.1 × (named_of x.0.rest ≡ Err Negotiation) × AsksIn x.1 first

asking : (bytes : List ℕ) → Gets (asked_at bytes) (λ first. IsAsking first bytes)
unfolding asked_at
asking bytes =
    gets-then {Next = AsksAt} (ok_of (begun bytes)) _ (gets (begun bytes) (reads-begun bytes))
    (λ here b. gets-then {Next = λ x first. (named_of x.0.rest ≡ Err Negotiation) × AsksIn x.1 first} (ok_of (parts_at initial_context_token here)) _ (gets (parts_at initial_context_token here) (reads-parts initial_context_token here))
    (λ x is. gets-then {Next = λ after first. AsksIn after first} (spnego_from (named_of x.0.rest) x.1) _ (gets-spnego (named_of x.0.rest) x.1)
    (λ after s. gets-then {Next = λ y first. (y.1 ≡ None) × (named_of y.0.rest ≡ Ok first)} (ok_of (init_at after)) _ (gets (init_at after) (reads-fields 0xa0 neg_token_init of_init after))
    (λ y i. gets-unsent y.1 (named_of y.0.rest)) (λ y first i k. (y, i, k.0, k.1)) (λ first k. (k.0, k.1, (k.2, k.3))))
    (λ after first s k. (s.0, subst (λ (p : Place). AsksIn p first) (sym s.1) k)) (λ first k. (x.1, (k.0, refl), k.1)))
    (λ x first is k. (x, is, k.0, k.1)) (λ first k. (k.0, k.1, (k.2, k.3))))
    (λ here first b k. whole first here b k)
    (λ first k. (begin_at bytes, (k.within, refl), ((k.name, k.after), k.framed, k.negotiation, ((k.oid, None), k.init, refl, k.named))))
  where
    whole : (first : Mechanism) (here : Place) → (length bytes ≤ limit) × (here ≡ begin_at bytes) → AsksAt here first → IsAsking first bytes
    whole first here b k =
        let i = k.3 in
        record {
          within = b.0;
          name = k.0.0;
          after = k.0.1;
          oid = i.0.0;
          framed = subst (λ (p : Place). IsFramed p k.0.0 k.0.1) b.1 k.1;
          negotiation = k.2;
          init = subst (λ (o : Option Place). IsInit k.0.1 i.0.0 o) i.2 i.1;
          named = i.3;
        }

pub asks : (r : Option Mechanism) (bytes : List ℕ) → r ≡ asked_at bytes → MatchOption r ((first : Mechanism) → IsAsking first bytes → ⊥) (λ first. IsAsking first bytes)
asks r bytes e = subst (λ o. MatchOption o ((first : Mechanism) → IsAsking first bytes → ⊥) (λ first. IsAsking first bytes)) (sym e) (matched (asked_at bytes) (asking bytes))

-- ---- an answer without a token
said : (bytes : List ℕ) → Gets (said_whole bytes) (λ (x : Place × Option Place). (length bytes ≤ limit) × HoldsFields 0xa1 bare_response of_said (begin_at bytes) x)
unfolding said_whole
said bytes =
    gets-then {Next = λ here x. HoldsFields 0xa1 bare_response of_said here x} (ok_of (begun bytes)) _ (gets (begun bytes) (reads-begun bytes))
    (λ here b. gets (said_at here) (reads-fields 0xa1 bare_response of_said here)) (λ here x b k. (b.0, subst (λ (p : Place). HoldsFields 0xa1 bare_response of_said p x) b.1 k))
    (λ x k. (begin_at bytes, (k.0, refl), k.1))

pub said-none : (bytes : List ℕ) → None ≡ said_whole bytes → (v : Verdict) → Says v bytes → ⊥
said-none bytes e v k = some_none (k.state, k.name) (e ∙ (said bytes).only (k.state, k.name) (k.within, k.said))

module _ {bytes : List ℕ} {state : Place} {name : Option Place} (e : Some (state, name) ≡ said_whole bytes) where
  pub says-is : (v : Verdict) → Means v state.rest (named_if name) → Says v bytes
  says-is v m =
      let f = subst (λ o. IfSome o (λ (x : Place × Option Place). (length bytes ≤ limit) × HoldsFields 0xa1 bare_response of_said (begin_at bytes) x)) (sym e) (said bytes).found in
      record { within = f.0; state = state; name = name; said = f.1; means = m }

  same-said : (v : Verdict) (k : Says v bytes) → ◌≡◌ {A = Place × Option Place} (state, name) (k.state, k.name)
  same-said v k = same (state, name) (k.state, k.name) (e ∙ (said bytes).only (k.state, k.name) (k.within, k.said))
    where
      same : (x y : Place × Option Place) → ◌≡◌ {A = Option (Place × Option Place)} (Some x) (Some y) → x ≡ y
      same x y e = cc

  pub says-not : ((v : Verdict) → Means v state.rest (named_if name) → ⊥) → (v : Verdict) → Says v bytes → ⊥
  says-not isnt v k = isnt v (subst (λ (x : Place × Option Place). Means v x.0.rest (named_if x.1)) (sym (same-said v k)) k.means)
