-- What a request asks for, as anyone can read it: nothing of this is sealed (RFC 4120, sections
-- 5.5.1 and 5.3).
use Rattle.std.specs.Prelude.{◌≡◌, ◌↔◌, ℕ, List, IsTrue}
use Rattle.krb_der.specs.Kind.{ValueOf}
use Rattle.krb_der.specs.Spells.{IsMessage}
use Rattle.krb_msg.specs.Module.{ap_req}
use Rattle.krb_msg.specs.Fields.{encrypted_fields}
use Rattle.krb_ap.specs.Opened.{sealed_ticket, service_of}
use Rattle.krb_ap.specs.Taken.{IsMutual}
use Rattle.krb_login.specs.declared.asked.Asked.{Asked}

-- the request asks for this: the ticket's service, its encryption type and version number, and
-- whether the client awaits a reply
pub record IsAsked (request : ValueOf ap_req) (asked : Asked) : Type 0 where
  pub service : asked.service ≡ service_of request
  pub etype : asked.etype ≡ (encrypted_fields (sealed_ticket request)).etype
  pub kvno : asked.kvno ≡ (encrypted_fields (sealed_ticket request)).kvno
  pub wants_reply : IsTrue asked.wants_reply ↔ IsMutual request

-- the bytes are such a request
pub record Asks (bytes : List ℕ) (asked : Asked) : Type 0 where
  pub request : ValueOf ap_req
  pub message : IsMessage ap_req request bytes
  pub asked_is : IsAsked request asked

abbrev pub AsksNothing : List ℕ → Type 0
AsksNothing bytes = (request : ValueOf ap_req) → IsMessage ap_req request bytes → ⊥

abbrev pub AsksSomething : List ℕ → Type 0
AsksSomething bytes = (request : ValueOf ap_req) × IsMessage ap_req request bytes
