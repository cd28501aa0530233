-- What is written of a request, and that it is one text.
use Rattle.std.proofs.Common.{◌≡◌, ℕ, ◌<◌, ◌≤◌, ℤ, List, sym, ◌∙◌, ap, subst, length, arith, Option, None}
use Rattle.std.specs.Option.{option_map}
use Rattle.std.proofs.lemmas.Int.{ints}
use Rattle.krb_name.specs.declared.principal.Principal.{Principal}
use Rattle.krb_der.specs.Kind.{Kind, ValueOf}
use Rattle.krb_der.specs.Spells.{IsMessage, limit}
use Rattle.krb_der.specs.Size.{size_of}
use Rattle.krb_enc.specs.Key.{KeyValue, UsageKeyValue, profile_of}
use Rattle.krb_enc.specs.Sealed.{sealed}
use Rattle.krb_msg.specs.Module.{ap_req, authenticator, checksum, encrypted_data, encryption_key, ticket as ticket_kind, is_ticket}
use Rattle.krb_msg.specs.Fields.{authenticator_value, ap_req_value, encrypted_value}
use Rattle.krb_time.specs.Moments.{micros_of}
use Rattle.krb_ccache.specs.declared.credential.Credential.{Credential}
use Rattle.krb_ap.specs.Written.{IsWritten, IsSealed, key_value}
use Rattle.krb_ap.specs.Opened.{authenticator_usage}
use Rattle.krb_ap.specs.Credentials.{credential_key}
use Rattle.krb_ap.specs.Request.{authenticator_for, context_checksum, options_for, request_for, IsPlain, IsAuthenticator, IsBuilt}
use Rattle.krb_ap.specs.Inner.Facts.{Facts, WritingFacts}
use Rattle.krb_ap.specs.declared.request.RequestOptions.{RequestOptions}

-- a moment has one second and one number of microseconds
pub seconds_of : (s t : ℤ) (m n : ℕ) → m < 1_000_000 → n < 1_000_000 → micros_of s m ≡ micros_of t n → s ≡ t
seconds_of s t m n h g e = omega (arith, ints)

pub micros_in : (s t : ℤ) (m n : ℕ) → m < 1_000_000 → n < 1_000_000 → micros_of s m ≡ micros_of t n → m ≡ n
micros_in s t m n h g e = omega (arith, ints)

-- the value of an authenticator whose parts are copies
pub copied : (client : Principal) (credential : Credential) (ctime : ℤ) (cusec : ℕ) (sum : Option (ValueOf checksum))
    (subkey : Option (ValueOf encryption_key)) (options : RequestOptions)
    → client ≡ credential.client → sum ≡ option_map (context_checksum options.mutual) options.context → subkey ≡ option_map key_value options.subkey
    → authenticator_value (record {
      client = client;
      checksum = sum;
      cusec = cusec;
      ctime = ctime;
      subkey = subkey;
      seq_number = options.seq;
      authorization = None;
    }) ≡ authenticator_for credential ctime cusec options
copied client credential ctime cusec sum subkey options e d f = rw (e, d, f)

too_big : (n m : ℕ) → n ≡ m → n ≤ limit → limit < m → ⊥
too_big n m e h g = omega arith

-- a value that is too long isn't written
pub unwritten : WritingFacts → (k : Kind) (v : ValueOf k) (bytes : List ℕ) → limit < size_of k v → ¬ IsWritten k v bytes
unwritten w k v bytes long written = too_big (length bytes) (size_of k v) (w.size k v bytes written.written) written.message.within long

same_told : (credential : Credential) (options : RequestOptions) (s t : ℤ) (m n : ℕ) → m < 1_000_000 → n < 1_000_000 → micros_of s m ≡ micros_of t n
    → authenticator_for credential s m options ≡ authenticator_for credential t n options
same_told credential options s t m n h g e = rw (seconds_of s t m n h g e, micros_in s t m n h g e)

module _ (w : WritingFacts) (credential : Credential) (at : ℤ) (options : RequestOptions) where
  -- no bytes are an authenticator that is too long
  pub untold : (ctime : ℤ) (cusec : ℕ) → at ≡ micros_of ctime cusec → cusec < 1_000_000
      → limit < size_of authenticator (authenticator_for credential ctime cusec options) → (plain : List ℕ) → ¬ IsPlain credential at options plain
  untold ctime cusec is micros long plain p = unwritten w authenticator (authenticator_for credential p.ctime p.cusec options) plain
      (subst (λ v. limit < size_of authenticator v) (same_told credential options ctime p.ctime cusec p.cusec micros p.micros (sym is ∙ p.at_is)) long) p.plain_is

  -- and an authenticator is one
  one_told : (a b : List ℕ) → IsPlain credential at options a → IsPlain credential at options b → a ≡ b
  one_told a b p q = w.one authenticator (authenticator_for credential q.ctime q.cusec options) a b
      (subst (λ v. IsWritten authenticator v a) (same_told credential options p.ctime q.ctime p.cusec q.cusec p.micros q.micros (sym p.at_is ∙ q.at_is)) p.plain_is).written
      q.plain_is.written

  one_text : (confounder a b : List ℕ) → IsAuthenticator credential at confounder options a → IsAuthenticator credential at confounder options b → a ≡ b
  one_text confounder a b p q = p.text_is.text_is ∙ ap (λ (plain : List ℕ). sealed (profile_of (credential_key credential)) credential.key authenticator_usage confounder plain) (one_told p.plain q.plain p.told q.told) ∙ sym q.text_is.text_is

  pub too_long_to_build : Facts → (confounder text : List ℕ) (ticket : ValueOf ticket_kind) → IsMessage ticket_kind ticket credential.ticket
      → IsAuthenticator credential at confounder options text → limit < size_of ap_req (request_for credential options ticket text)
      → (bytes : List ℕ) → ¬ IsBuilt credential at confounder options bytes
  too_long_to_build facts confounder text ticket message a long bytes b =
      let e : ticket ≡ b.ticket = facts.one_value ticket_kind is_ticket ticket b.ticket credential.ticket message b.ticket_is in
      let f : text ≡ b.text = one_text confounder text b.text a b.text_is in
      unwritten w ap_req (request_for credential options b.ticket b.text) bytes
      (subst (λ (t : ValueOf ticket_kind). limit < size_of ap_req (request_for credential options t b.text)) e
      (subst (λ (x : List ℕ). limit < size_of ap_req (request_for credential options ticket x)) f long))
      b.bytes_are

  -- a request is one
  pub one_built : Facts → (confounder a b : List ℕ) → IsBuilt credential at confounder options a → IsBuilt credential at confounder options b → a ≡ b
  one_built facts confounder a b p q =
      let e : p.ticket ≡ q.ticket = facts.one_value ticket_kind is_ticket p.ticket q.ticket credential.ticket p.ticket_is q.ticket_is in
      let f : p.text ≡ q.text = one_text confounder p.text q.text p.text_is q.text_is in
      w.one ap_req (request_for credential options q.ticket q.text) a b
      (subst (λ (t : ValueOf ticket_kind). IsWritten ap_req (request_for credential options t q.text) a) e
      (subst (λ (x : List ℕ). IsWritten ap_req (request_for credential options p.ticket x) a) f p.bytes_are)).written
      q.bytes_are.written

-- what is sealed, with the type of the credential's key
pub told_type : (credential : Credential) (key : KeyValue) (text : List ℕ) → key ≡ credential_key credential
    → encrypted_value (record { etype = key.etype; kvno = None; cipher = text })
    ≡ encrypted_value (record { etype = credential.etype; kvno = None; cipher = text })
told_type credential key text e = rw e

-- the value of a request whose parts are copies
pub copied_request : (credential : Credential) (options : RequestOptions) (ticket : ValueOf ticket_kind) (text : List ℕ) (bits : ℕ) (copy : ValueOf ticket_kind)
    (told : ValueOf encrypted_data) → bits ≡ options_for options.mutual → copy ≡ ticket
    → told ≡ encrypted_value (record { etype = credential.etype; kvno = None; cipher = text })
    → ap_req_value (record { options = bits; ticket = copy; authenticator = told }) ≡ request_for credential options ticket text
copied_request credential options ticket text bits copy told e f g = rw (e, f, g)

-- what is sealed with the keys of a copy, and a copy of the plain text
pub sealed_by : (keys : UsageKeyValue) (copy key : KeyValue) (usage : ℕ) (confounder lent plain text : List ℕ) → keys ≡ record { key = copy; usage = usage }
    → copy ≡ key → lent ≡ plain → IsSealed keys.key keys.usage confounder lent text → IsSealed key usage confounder plain text
sealed_by keys copy key usage confounder lent plain text d e f s =
    subst (λ (k : KeyValue). IsSealed k usage confounder plain text) e
    (subst (λ (k : UsageKeyValue). IsSealed k.key k.usage confounder plain text) d (rw f at s))
