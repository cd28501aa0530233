use Rattle.std.proofs.Common.{◌≡◌, ◌∙◌, refl, sym, subst, List, ℕ, ◌<◌}
use Rattle.krb_der.specs.Kind.{ValueOf}
use Rattle.krb_der.specs.Size.{size_of}
use Rattle.krb_der.specs.Spells.{IsMessage, limit}
use Rattle.krb_msg.specs.Fields.{ap_req_value}
use Rattle.krb_msg.specs.Module.{ap_req, ticket as ticket_kind}
use Rattle.krb_msg.specs.Owned.{owned_encrypted_of}
use Rattle.krb_ap.specs.Written.{IsWritten}
use Rattle.krb_ap.specs.Request.{request_for}
use Rattle.krb_ap.specs.Inner.Requests.{IsUnbuilt}
use Rattle.krb_ap.specs.declared.request.RequestFault.{RequestFault}
use Rattle.krb_ap.proofs.Building.{copied_request, told_type, too_long_to_build}
use Rattle.krb_ap.proofs.Truth.{err_is}
use Rattle.krb_ap.proofs.ready_key.ReadyCredential.request.Goals as goal
use Rattle.krb_ap.proofs.ready_key.ReadyCredential.request.Goals.{In-Ok, After-encode}

ticket_of : (c : In-Ok) → IsMessage ticket_kind c.in-Ok.ticket c.args.self.now.credential.now.ticket
ticket_of c = subst (λ (b : List ℕ). IsMessage ticket_kind c.in-Ok.ticket b) c.as_slice.ensures c.in-Ok.ensures.found

as_built : (c : After-encode) → ap_req_value (record { options = c.flags.result.0; ticket = c.in-Ok.ticket; authenticator = owned_encrypted_of c.encrypted.result })
    ≡ request_for c.args.self.now.credential.now c.args.options c.in-Ok.ticket c.in_ok-cipher.cipher.items
as_built c = copied_request c.args.self.now.credential.now c.args.options c.in-Ok.ticket c.in_ok-cipher.cipher.items _ _ _ c.flags.ensures refl
    (c.encrypted.ensures ∙ told_type c.args.self.now.credential.now c.args.self.now.key.now.key c.in_ok-cipher.cipher.items c.args.self.now.key_is)

pub returns-in-Err-clause-fault : goal.returns-in-Err-clause-fault
returns-in-Err-clause-fault c = λ named has. c.in-Err.ensures.only has.0 (subst (λ (b : List ℕ). IsMessage ticket_kind has.0 b) (sym c.as_slice.ensures) has.1)

pub returns-in_err-cipher-clause-fault : goal.returns-in_err-cipher-clause-fault
returns-in_err-cipher-clause-fault c =
    rw (err_is _ c.from_residual.ensures) (λ named.
    subst (λ (f : RequestFault). IsUnbuilt c.args.self.now.credential.now c.args.at c.args.confounder.now c.args.options f)
    (sym (c.in_err-cipher.ensures.fault named).0) (
      (c.in-Ok.ticket, ticket_of (goal.at.returns-in_err-cipher-clause-fault c).In-Ok),
      λ bytes b. (c.in_err-cipher.ensures.fault named).1 b.text_is.plain b.text_is.told,
    ))

pub returns-in-Err-TooLong-clause-fault : goal.returns-in-Err-TooLong-clause-fault
returns-in-Err-TooLong-clause-fault c = λ named.
    let ticket_is : IsMessage ticket_kind c.in-Ok.ticket c.args.self.now.credential.now.ticket = ticket_of (goal.at.returns-in-Err-TooLong-clause-fault c).In-Ok in (
      (c.in-Ok.ticket, ticket_is),
      too_long_to_build c.writing.ensures c.args.self.now.credential.now c.args.at c.args.options c.facts.ensures c.args.confounder.now c.in_ok-cipher.cipher.items
          c.in-Ok.ticket ticket_is c.in_ok-cipher.ensures.sealed
          (subst (λ (v : ValueOf ap_req). limit < size_of ap_req v) (as_built (goal.at.returns-in-Err-TooLong-clause-fault c).After-encode)
          ((rw c.in-Err-TooLong.field-0-is at c.in-Err-TooLong.ensures.too_long) refl)),
    )

pub returns-clause-built : goal.returns-clause-built
returns-clause-built c = record {
  ticket = c.in-Ok.ticket;
  ticket_is = ticket_of (goal.at.returns-clause-built c).In-Ok;
  text = c.in_ok-cipher.cipher.items;
  text_is = c.in_ok-cipher.ensures.sealed;
  bytes_are = subst (λ (v : ValueOf ap_req). IsWritten ap_req v c.in-Ok-encode.bytes.items) (as_built (goal.at.returns-clause-built c).After-encode)
      (record { message = c.in-Ok-encode.ensures.ok; written = c.in-Ok-encode.ensures.written });
}
