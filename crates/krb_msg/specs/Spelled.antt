-- A request that is made of a ticket's bytes (RFC 4120, section 5.5.1): its value, and how it is written.
use Rattle.std.specs.Prelude.{◌≡◌, ℕ, List, []}
use Rattle.krb_der.specs.Kind.{ValueOf, constant, field, flags, leaf}
use Rattle.krb_der.specs.Spells.{IsElement, IsJoined}
use Rattle.krb_der.specs.Writing.{Writes}
use Rattle.krb_msg.specs.Module.{ap_req, encrypted_data}
use Rattle.krb_msg.specs.Fields.{ap_req_value}
use Rattle.krb_msg.specs.Owned.{owned_encrypted_of}
use Rattle.krb_msg.specs.declared.spelled.ApReqOver.{ApReqOver}

abbrev pub spelled_ap_req_of : ApReqOver → ValueOf ap_req
spelled_ap_req_of m = ap_req_value (record {
  options = m.options.0;
  ticket = m.ticket;
  authenticator = owned_encrypted_of m.authenticator;
})

-- [APPLICATION 14] around the fields [0] to [4]: the content of [3] is these bytes, as they are
abbrev pub WritesOver : ℕ → List ℕ → ValueOf encrypted_data → List ℕ → Type 0
WritesOver options ticket authenticator =
    IsElement 0x6e
    (IsElement 0x30
    (IsJoined (Writes (field 0 (leaf (constant 5))) tt)
    (IsJoined (Writes (field 1 (leaf (constant 14))) tt)
    (IsJoined (Writes (field 2 (leaf flags)) options)
    (IsJoined (IsElement 0xa3 (λ content. content ≡ ticket))
    (IsJoined (Writes (field 4 encrypted_data) authenticator) (λ rest. rest ≡ [])))))))
