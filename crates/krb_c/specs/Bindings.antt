-- The channel bindings that a service asks for, by a rule's number and an MD5 hash (RFC 4121, section
-- 4.1.1.2).
use Rattle.std.specs.Prelude.{◌≡◌, ◌≢◌, ◌⊎◌, ◌<◌, ℕ, List, length}
use Rattle.krb_login.specs.NoBindings.{none_sent}
use Rattle.krb_login.specs.declared.terms.Bindings.{Bindings}
use Rattle.krb_login.specs.declared.terms.Bindings.TheVariants.{Ignored, IfSent, Required}
use Rattle.krb_c.specs.Answer.{plain}
use Rattle.krb_c.specs.Codes.{bad_bindings, ok}
use Rattle.krb_c.specs.declared.structs.Answer.{Answer}
use Rattle.krb_c.specs.declared.service_state.ServiceState.{ServiceState}

-- A hash has 16 bytes. Sixteen zeros say that a client has no bindings, so whoever compared with them
-- would let in just those that aren't bound.
abbrev pub CanBeSent : List ℕ → Type 0
CanBeSent hash = (length hash ≡ 16) × (hash ≢ none_sent)

abbrev pub CantBeSent : List ℕ → Type 0
CantBeSent hash = (length hash ≢ 16) ⊎ (hash ≡ none_sent)

-- the rules: 0 ignored, 1 if they are sent, 2 required
abbrev pub AreBindings : ℕ → List ℕ → Bindings → Type 0
AreBindings rule hash Ignored = rule ≡ 0
AreBindings rule hash (IfSent wanted) = (rule ≡ 1) × ((wanted ≡ hash) × CanBeSent hash)
AreBindings rule hash (Required wanted) = (rule ≡ 2) × ((wanted ≡ hash) × CanBeSent hash)

-- there is no such rule, or one that compares with what can't be sent
abbrev pub AreNoBindings : ℕ → List ℕ → Type 0
AreNoBindings rule hash = (2 < rule) ⊎ ((rule ≢ 0) × CantBeSent hash)

abbrev pub HasBindings : ℕ → List ℕ → Type 0
HasBindings rule hash = (bindings : Bindings) × AreBindings rule hash bindings

-- only the bindings are others
abbrev pub with_bindings : ServiceState → Bindings → ServiceState
with_bindings state bindings = record {
  service = record {
    acceptor = state.service.acceptor;
    terms = record { anonymous = state.service.terms.anonymous; realms = state.service.terms.realms; bindings = bindings };
  };
  subkey_type = state.subkey_type;
  is_shared = state.is_shared;
  refusal = state.refusal;
}

-- a service asks for them from now on, or it is unchanged
pub data ReplacesBindings (rule : ℕ) (hash : List ℕ) (old new : ServiceState) (answer : Answer) : Type 0 where
  replaced : (bindings : Bindings) → AreBindings rule hash bindings → new ≡ with_bindings old bindings → answer ≡ plain ok
      → ReplacesBindings rule hash old new answer
  unreplaced : AreNoBindings rule hash → new ≡ old → answer ≡ plain bad_bindings → ReplacesBindings rule hash old new answer
