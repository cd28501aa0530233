use Rattle.std.proofs.Common.{inl, inr, refl}
use Rattle.krb_msg.specs.Borrowed.{ap_req_of}
use Rattle.krb_msg.specs.Fields.{encrypted_fields}
use Rattle.krb_ap.specs.Opened.{sealed_ticket, service_of}
use Rattle.krb_login.proofs.asked.wants_reply.Goals as goal

pub returns-in_default : goal.returns-in_default
returns-in_default c = inl (λ request message. c.in_default.ensures.only request message)

pub returns : goal.returns
returns c =
    let request = ap_req_of c.in-Ok.request in
    inr (
      record {
        service = service_of request;
        etype = (encrypted_fields (sealed_ticket request)).etype;
        kvno = (encrypted_fields (sealed_ticket request)).kvno;
        wants_reply = c.is_mutual.result;
      },
      (
        record { request = request; message = c.in-Ok.ensures.found; asked_is = record { service = refl; etype = refl; kvno = refl; wants_reply = c.is_mutual.ensures } },
        refl,
      ),
    )
