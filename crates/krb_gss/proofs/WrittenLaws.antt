-- What is written is a token or an answer, and holds its message.
use Rattle.std.proofs.Common.{◌≡◌, ℕ, ◌+◌, ◌≤◌, List, [], ◌∷◌, ◌++◌, length, Option, Some, None, Result, Ok, Err, refl, sym, ap, ◌∙◌, arith}
use Rattle.std.specs.Prelude.{IfOk}
use Rattle.std.specs.Option.{option_map}
use Rattle.std.proofs.lemmas.List.{append-nil}
use Rattle.krb_der.specs.Place.{Place, begins}
use Rattle.krb_der.specs.Spells.{IsElement, IsJoined, IfPresent, limit}
use Rattle.krb_der.specs.Size.{element_size, size_if}
use Rattle.krb_der.specs.Parts.{Parts, ended, anything, each_of, unknown, last, must, may, PlacesOf, no_more, HasElement, Stand}
use Rattle.krb_der.proofs.Sizes.{HasSize, element_sized, joined_sized}
use Rattle.krb_gss.specs.declared.mechanism.Mechanism.{Mechanism}
use Rattle.krb_gss.specs.declared.mechanism.Mechanism.TheVariants.{Kerberos, Microsoft, Draft}
use Rattle.krb_gss.specs.declared.opening.Wrapping.{Wrapping}
use Rattle.krb_gss.specs.declared.opening.Wrapping.TheVariants.{Bare, Negotiated}
use Rattle.krb_gss.specs.Mechanism.{oid_of, named_of}
use Rattle.krb_gss.specs.declared.mechanism.Foreign.{Foreign}
use Rattle.krb_gss.specs.declared.verdict.Verdict.{Verdict}
use Rattle.krb_gss.specs.declared.verdict.Verdict.TheVariants.{Completed, Incomplete, Rejected}
use Rattle.krb_gss.specs.Module.{neg_token_init, first_response, bare_response}
use Rattle.krb_gss.specs.Said.{of_said, named_if, Means, Says}
use Rattle.krb_gss.specs.Token.{IsMessage, IsKerberos, HoldsFields, of_init, IsNegotiated, IsToken}
use Rattle.krb_gss.specs.Answer.{Message, bytes_of, id_of, state_of, of_response, IsAnswer, WritesAnswer, said_state, said_name, WritesVerdict}
use Rattle.krb_gss.specs.Wrapping.{IsPlain, IsMechTypes, IsTokenField, IsState, IsSupported, AreResponding, IsResponding, WritesRequest, oid_size, fields_size, responding_size}

-- ---- elements at places
abbrev inside_at : ℕ → List ℕ → List ℕ → Place
inside_at at size content = record { at = at + (1 + length size); rest = content }

abbrev behind_at : ℕ → List ℕ → List ℕ → List ℕ → Place
behind_at at size content back = record { at = at + (1 + length size) + length content; rest = back }

-- an element before other bytes
element : {tag : ℕ} {C : List ℕ → Type 0} {bytes : List ℕ} (at : ℕ) (h : IsElement tag C bytes) (back whole : List ℕ) → whole ≡ bytes ++ back → {I A : Place → Type 0} → I (inside_at at h.size h.content)
    → A (behind_at at h.size h.content back) → HasElement tag I A (record { at = at; rest = whole })
element at h back whole e is others =
    record {
      inside = inside_at at h.size h.content;
      after = behind_at at h.size h.content back;
      head = record { size = h.size; length_is = h.length_is; whole = e ∙ ap (λ (x : List ℕ). x ++ back) h.whole; inside_at = refl; after_at = refl };
      is = is;
      others = others;
    }

-- one that is all there is
alone : {tag : ℕ} {C : List ℕ → Type 0} {bytes : List ℕ} (at : ℕ) (h : IsElement tag C bytes) → {I : Place → Type 0} → I (inside_at at h.size h.content)
    → HasElement tag I (λ after. after.rest ≡ []) (record { at = at; rest = bytes })
alone {bytes = bytes} at h is = element at h [] bytes (sym (append-nil bytes)) is refl

-- ---- tokens of Kerberos
named_of-oid_of : (m : Mechanism) → named_of (oid_of m) ≡ Ok m
named_of-oid_of Kerberos = refl
named_of-oid_of Microsoft = refl
named_of-oid_of Draft = refl

-- an identifier stands where it is to, and this message after it
record Holds (Is : Place → Type 0) (id : ℕ) (message : List ℕ) : Type 0 where
  pub inner : Place
  pub there : Is inner
  pub is : IsMessage id inner message

plain-read : (id : ℕ) (m : Mechanism) (message bytes : List ℕ) (at : ℕ) → IsPlain id m message bytes → Holds (IsKerberos (record { at = at; rest = bytes }) m) id message
plain-read id m message bytes at h =
    let j = h.content_is in
    let place : ℕ = at + (1 + length h.size) in
    record {
      inner = behind_at place j.first.size j.first.content j.back;
      there = record {
        oid = inside_at place j.first.size j.first.content;
        framed = alone at h (element place j.first j.back h.content j.whole refl refl);
        named = ap named_of j.first.content_is ∙ named_of-oid_of m;
      };
      is = j.rest;
    }

-- ---- fields that may be left out
-- what comes after a part that must or may come
abbrev pub others_of : Parts → Parts
others_of ended = ended
others_of anything = ended
others_of (each_of tag) = ended
others_of (unknown from to) = ended
others_of (last tag ps) = ended
others_of (must tag ps qs) = qs
others_of (may tag ps qs) = qs

-- no part must come
abbrev MayBeEmpty : Parts → Type 0
MayBeEmpty ended = Unit {0}
MayBeEmpty anything = ⊥
MayBeEmpty (each_of tag) = Unit {0}
MayBeEmpty (unknown from to) = Unit {0}
MayBeEmpty (last tag ps) = ⊥
MayBeEmpty (must tag ps qs) = ⊥
MayBeEmpty (may tag ps qs) = MayBeEmpty qs

empty : (ps : Parts) → MayBeEmpty ps → (here : Place) → here.rest ≡ [] → (v : PlacesOf ps) × Stand ps v here
empty ended o here e = (tt, e)
empty anything o here e = absurd o
empty (each_of tag) o here e = (tt, no_more e)
empty (unknown from to) o here e = (tt, no_more e)
empty (last tag ps) o here e = absurd o
empty (must tag ps qs) o here e = absurd o
empty (may tag ps qs) o here e = let r = empty qs o here e in ((None, r.0), (ap (begins tag) e, r.1))

-- the last field holds a token of Kerberos
record HoldsToken (qs : Parts) (id : ℕ) (m : Mechanism) (message : List ℕ) (here : Place) : Type 0 where
  pub token : Place
  pub places : PlacesOf qs
  pub stand : Stand (may 0xa2 (last 0x04 anything) qs) (Some token, places) here
  pub held : Holds (IsKerberos token m) id message

token-read : (qs : Parts) → MayBeEmpty qs → (id : ℕ) (m : Mechanism) (message bytes : List ℕ) (at : ℕ) → IsTokenField id m message bytes → HoldsToken qs id m message (record { at = at; rest = bytes })
token-read qs o id m message bytes at h =
    let token = h.content_is in
    let token_at : ℕ = at + (1 + length h.size) in
    let r = empty qs o (behind_at at h.size h.content []) refl in
    record {
      token = inside_at token_at token.size token.content;
      places = r.0;
      stand = element at h [] bytes (sym (append-nil bytes)) (alone token_at token refl) r.1;
      held = plain-read id m message token.content (token_at + (1 + length token.size)) token.content_is;
    }

-- ---- a message of a negotiation
module _ (ps : Parts) (pick : Place → PlacesOf ps → Place × Option Place) (first : Mechanism) (id : ℕ) (m : Mechanism) (message : List ℕ) where
  -- its fields name a mechanism and hold a token of Kerberos
  record HoldsBoth (here : Place) : Type 0 where
    pub oid : Place
    pub token : Place
    pub places : PlacesOf ps
    pub stand : Stand ps places here
    pub picked : pick here places ≡ (oid, Some token)
    pub named : named_of oid.rest ≡ Ok first
    pub held : Holds (IsKerberos token m) id message

  choice-read : (tag : ℕ) (C : List ℕ → Type 0) (bytes : List ℕ) (at : ℕ) → IsElement tag (IsElement 0x30 C) bytes → ((content : List ℕ) (at : ℕ) → C content → HoldsBoth (record { at = at; rest = content }))
      → Holds (IsNegotiated (λ oid token. HoldsFields tag ps pick (record { at = at; rest = bytes }) (oid, token)) first m) id message
  choice-read tag C bytes at h fields =
      let sequence_at : ℕ = at + (1 + length h.size) in
      let s = h.content_is in
      let both = fields s.content (sequence_at + (1 + length s.size)) s.content_is in
      record {
        inner = both.held.inner;
        there = record {
          oid = both.oid;
          token = Some both.token;
          fields = record {
            fields = inside_at sequence_at s.size s.content;
            places = both.places;
            chosen = alone at h (alone sequence_at s refl);
            stand = both.stand;
            picked_is = both.picked;
          };
          are = record { named = both.named; is = both.held.there };
        };
        is = both.held.is;
      }

init-read : (first m : Mechanism) (request bytes : List ℕ) (at : ℕ) → IsJoined (IsMechTypes first) (IsTokenField 0x01 m request) bytes → HoldsBoth neg_token_init of_init first 0x01 m request (record { at = at; rest = bytes })
init-read first m request bytes at j =
    let list = j.first.content_is in
    let name = list.content_is in
    let list_at : ℕ = at + (1 + length j.first.size) in
    let name_at : ℕ = list_at + (1 + length list.size) in
    let after : Place = behind_at at j.first.size j.first.content j.back in
    let last = token-read (others_of (others_of (others_of neg_token_init))) tt 0x01 m request j.back after.at j.rest in
    record {
      oid = inside_at name_at name.size name.content;
      token = last.token;
      places = ((inside_at name_at name.size name.content, tt), (None, (Some last.token, last.places)));
      stand = element at j.first j.back bytes j.whole (alone list_at list (element name_at name [] list.content (sym (append-nil list.content)) refl (no_more refl)))
          (ap (begins 0xa1) j.rest.whole, last.stand);
      picked = refl;
      named = ap named_of name.content_is ∙ named_of-oid_of first;
      held = last.held;
    }

response-read : (state : ℕ) (first m : Mechanism) (id : ℕ) (message bytes : List ℕ) (at : ℕ) → AreResponding state (Some first) (IsTokenField id m message) bytes
    → HoldsBoth first_response of_response first id m message (record { at = at; rest = bytes })
response-read state first m id message bytes at j =
    let k = j.rest in
    let state_at : ℕ = at + (1 + length j.first.size) in
    let after : Place = behind_at at j.first.size j.first.content j.back in
    let name_at : ℕ = after.at + (1 + length k.first.size) in
    let last = token-read (others_of (others_of (others_of first_response))) tt id m message k.back (behind_at after.at k.first.size k.first.content k.back).at k.rest in
    record {
      oid = inside_at name_at k.first.content_is.size k.first.content_is.content;
      token = last.token;
      places = (Some (inside_at state_at j.first.content_is.size j.first.content_is.content), (inside_at name_at k.first.content_is.size k.first.content_is.content, (Some last.token, last.places)));
      stand = element at j.first j.back bytes j.whole (alone state_at j.first.content_is refl) (element after.at k.first k.back j.back k.whole (alone name_at k.first.content_is refl) last.stand);
      picked = refl;
      named = ap named_of k.first.content_is.content_is ∙ named_of-oid_of first;
      held = last.held;
    }

-- ---- the whole
pub request-token : (w : Wrapping) (m : Mechanism) (request bytes : List ℕ) → WritesRequest w m request bytes → length bytes ≤ limit → IsToken w m request bytes
request-token Bare m request bytes h le =
    let r = plain-read 0x01 m request bytes 0 h in
    record { within = le; inner = r.inner; wrapped = record { oid = r.there.oid; after = r.inner; framed = r.there.framed; within = (r.there.named, refl) }; is = r.is }
request-token (Negotiated first) m request bytes h le =
    let j = h.content_is in
    let frame_at : ℕ = 0 + (1 + length h.size) in
    let after : Place = behind_at frame_at j.first.size j.first.content j.back in
    let n = choice-read neg_token_init of_init first 0x01 m request 0xa0 (IsJoined (IsMechTypes first) (IsTokenField 0x01 m request)) j.back after.at j.rest (init-read first m request) in
    record {
      within = le;
      inner = n.inner;
      wrapped = record {
        oid = inside_at frame_at j.first.size j.first.content;
        after = after;
        framed = alone 0 h (element frame_at j.first j.back h.content j.whole refl refl);
        within = (ap named_of j.first.content_is, n.there);
      };
      is = n.is;
    }

pub answer-token : (w : Wrapping) (m : Mechanism) (a : Message) (bytes : List ℕ) → WritesAnswer w m a bytes → length bytes ≤ limit → IsAnswer w m a bytes
answer-token Bare m a bytes h le = let r = plain-read (id_of a) m (bytes_of a) bytes 0 h in record { within = le; inner = r.inner; wrapped = r.there; is = r.is }
answer-token (Negotiated first) m a bytes h le =
    let n = choice-read first_response of_response first (id_of a) m (bytes_of a) 0xa1 (AreResponding (state_of a) (Some first) (IsTokenField (id_of a) m (bytes_of a))) bytes 0 h
    (λ content at c. response-read (state_of a) first m (id_of a) (bytes_of a) content at c) in
    record { within = le; inner = n.inner; wrapped = n.there; is = n.is }

-- ---- sizes
-- a verdict is short
pub verdict-fits : (first : Option Mechanism) → responding_size first 0 ≤ limit
verdict-fits None = let e : responding_size None 0 ≡ 9 = refl in omega (arith, e)
verdict-fits (Some Kerberos) = let e : responding_size (Some Kerberos) 0 ≡ 22 = refl in omega (arith, e)
verdict-fits (Some Microsoft) = let e : responding_size (Some Microsoft) 0 ≡ 22 = refl in omega (arith, e)
verdict-fits (Some Draft) = let e : responding_size (Some Draft) 0 ≡ 18 = refl in omega (arith, e)

name-sized : (name : Option Mechanism) → HasSize (IfPresent IsSupported name) (size_if (λ m. element_size (oid_size m)) name)
name-sized None = λ b e. ap length e
name-sized (Some first) = element_sized 0xa1 _ (oid_size first) (element_sized 0x06 (λ c. c ≡ oid_of first) (length (oid_of first)) (λ b e. ap length e))

verdict-sized : (state : ℕ) (name : Option Mechanism) → HasSize (IsResponding state name (λ b. b ≡ [])) (responding_size name 0)
verdict-sized state name =
    element_sized 0xa1 _ (element_size (fields_size name 0)) (element_sized 0x30 (AreResponding state name (λ b. b ≡ [])) (fields_size name 0)
    (joined_sized (IsState state) (IsJoined (IfPresent IsSupported name) (λ b. b ≡ [])) (element_size (element_size 1)) (size_if (λ m. element_size (oid_size m)) name + 0)
    (element_sized 0xa0 _ (element_size 1) (element_sized 0x0a (λ c. c ≡ state ∷ []) 1 (λ b e. ap length e)))
    (joined_sized (IfPresent IsSupported name) (λ b. b ≡ []) (size_if (λ m. element_size (oid_size m)) name) 0 (name-sized name) (λ b e. ap length e))))

pub ok-both : {T E : Type 0} {P Q R : T → Type 0} (r : Result T E) → ((x : T) → P x → Q x → R x) → IfOk r P → IfOk r Q → IfOk r R
ok-both (Ok x) f p q = f x p q
ok-both (Err e) f p q = tt

-- ---- a verdict
-- a NegTokenResp without a token, and what is read of it
record ReadBare (state : ℕ) (name : Option Mechanism) (here : Place) : Type 0 where
  pub at : Place
  pub oid : Option Place
  pub places : PlacesOf bare_response
  pub stand : Stand bare_response places here
  pub picked : of_said here places ≡ (at, oid)
  pub state_is : at.rest ≡ state ∷ []
  pub name_is : named_if oid ≡ option_map Ok name

bare-read : (state : ℕ) (name : Option Mechanism) (bytes : List ℕ) (at : ℕ) → AreResponding state name (λ b. b ≡ []) bytes → ReadBare state name (record { at = at; rest = bytes })
bare-read state None bytes at j =
    let state_at : ℕ = at + (1 + length j.first.size) in
    let place = inside_at state_at j.first.content_is.size j.first.content_is.content in
    let nothing : j.back ≡ [] = j.rest.whole ∙ ap (λ (x : List ℕ). x ++ j.rest.back) j.rest.first ∙ j.rest.rest in
    let r = empty (others_of (others_of bare_response)) tt (behind_at at j.first.size j.first.content j.back) nothing in
    record {
      at = place;
      oid = None;
      places = (place, (None, r.0));
      stand = element at j.first j.back bytes j.whole (alone state_at j.first.content_is refl) (ap (begins 0xa1) nothing, r.1);
      picked = refl;
      state_is = j.first.content_is.content_is;
      name_is = refl;
    }
bare-read state (Some first) bytes at j =
    let k = j.rest in
    let state_at : ℕ = at + (1 + length j.first.size) in
    let place = inside_at state_at j.first.content_is.size j.first.content_is.content in
    let after : Place = behind_at at j.first.size j.first.content j.back in
    let name_at : ℕ = after.at + (1 + length k.first.size) in
    let oid = inside_at name_at k.first.content_is.size k.first.content_is.content in
    let r = empty (others_of (others_of bare_response)) tt (behind_at after.at k.first.size k.first.content k.back) k.rest in
    record {
      at = place;
      oid = Some oid;
      places = (place, (Some oid, r.0));
      stand = element at j.first j.back bytes j.whole (alone state_at j.first.content_is refl)
          (element after.at k.first k.back j.back k.whole (alone name_at k.first.content_is refl) r.1);
      picked = refl;
      state_is = j.first.content_is.content_is;
      name_is = ap Some (ap named_of k.first.content_is.content_is ∙ named_of-oid_of first);
    }

means : (v : Verdict) (state : List ℕ) (name : Option (Result Mechanism Foreign)) → state ≡ said_state v ∷ [] → name ≡ option_map Ok (said_name v) → Means v state name
means (Completed None) state name e n = (e, n)
means (Completed (Some first)) state name e n = (e, n)
means (Incomplete first) state name e n = (e, n)
means Rejected state name e n = e

-- what is written for a verdict says it
pub verdict-said : (v : Verdict) (bytes : List ℕ) → WritesVerdict v bytes → Says v bytes
verdict-said v bytes h =
    let s = h.content_is in
    let at : ℕ = 0 + (1 + length h.size) in
    let r = bare-read (said_state v) (said_name v) s.content (at + (1 + length s.size)) s.content_is in
    record {
      within = omega (arith, verdict-fits (said_name v), verdict-sized (said_state v) (said_name v) bytes h);
      state = r.at;
      name = r.oid;
      said = record {
        fields = inside_at at s.size s.content;
        places = r.places;
        chosen = alone 0 h (alone at s refl);
        stand = r.stand;
        picked_is = r.picked;
      };
      means = means v r.at.rest (named_if r.oid) r.state_is r.name_is;
    }
