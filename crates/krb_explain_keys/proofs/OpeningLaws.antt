-- What a text opens to, as words of a request.
use Rattle.std.proofs.Common.{◌≡◌, ℕ, List, Option, Some, None, Result, Ok, Err, subst}
use Rattle.std.specs.Prelude.{IfOk, MatchOption}
use Rattle.krb_enc.specs.Key.{KeyValue, profile_of}
use Rattle.krb_enc.specs.Opens.{Opens}
use Rattle.krb_ap.specs.Inner.Stages.{IsShut}

pub opened_as : {A E P Q : Type 0} {R S : A → Type 0} (result : Result (Option A) E) → (P → Q) → ((x : A) → R x → S x)
    → IfOk result (λ o. MatchOption o P R) → IfOk result (λ o. MatchOption o Q S)
opened_as (Err fault) none some h = tt
opened_as (Ok None) none some h = none h
opened_as (Ok (Some x)) none some h = some x h

-- one clause of a success, and two
pub if_ok : {A E : Type 0} {P R : A → Type 0} (result : Result A E) → ((x : A) → P x → R x) → IfOk result P → IfOk result R
if_ok (Err fault) f p = tt
if_ok (Ok x) f p = f x p

pub if_ok_two : {A E : Type 0} {P Q R : A → Type 0} (result : Result A E) → ((x : A) → P x → Q x → R x) → IfOk result P → IfOk result Q → IfOk result R
if_ok_two (Err fault) f p q = tt
if_ok_two (Ok x) f p q = f x p q

-- what opens under a key opens under the same key
pub under : {A E : Type 0} (items : A → List ℕ) (usage : ℕ) (cipher : List ℕ) (key other : KeyValue) (result : Result (Option A) E) → key ≡ other
    → IfOk result (λ o. MatchOption o (IsShut key usage cipher) (λ p. Opens (profile_of key) key.bytes usage cipher (items p)))
    → IfOk result (λ o. MatchOption o (IsShut other usage cipher) (λ p. Opens (profile_of other) other.bytes usage cipher (items p)))
under items usage cipher key other result e h =
    subst (λ (k : KeyValue). IfOk result (λ o. MatchOption o (IsShut k usage cipher) (λ p. Opens (profile_of k) k.bytes usage cipher (items p)))) e h
