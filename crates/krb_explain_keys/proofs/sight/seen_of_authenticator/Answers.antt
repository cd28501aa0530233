use Rattle.std.proofs.Common.{inl, inr}
use Rattle.krb_der.specs.Spells.{IsMessage}
use Rattle.krb_msg.specs.Borrowed.{ap_req_of, authenticator_of, enc_ticket_part_of}
use Rattle.krb_msg.specs.Module.{authenticator}
use Rattle.krb_ap.proofs.TurnedAway.{opens_to_none}
use Rattle.krb_explain_keys.specs.Inner.Shut.{OpensText}
use Rattle.krb_explain_keys.proofs.OpeningLaws.{if_ok_two}
use Rattle.krb_explain_keys.proofs.sight.seen_of_authenticator.Goals as goal

pub returns-in-Ok : goal.returns-in-Ok
returns-in-Ok c =
    let text : OpensText (ap_req_of c.args.request.now) (enc_ticket_part_of c.args.part.now) c.in-Some.plain.items = rw c.in-Some.is at c.in_ok-plain.ensures in
    let parsed : IsMessage authenticator (authenticator_of c.in-Ok.auth) c.in-Some.plain.items = rw c.as_slice.ensures.value at c.in-Ok.ensures.found in
    if_ok_two c.seen_opened.result
    (λ seen lines finds. λ entries. inr (record {
      auth = authenticator_of c.in-Ok.auth;
      usable = text.usable;
      opens = record { same_type = text.same_type; opens = record { plain = c.in-Some.plain.items; opens = text.opens; message = parsed } };
      lines_are = lines;
      finds = finds;
    }))
    c.seen_opened.ensures.lines c.seen_opened.ensures.finds

pub returns : goal.returns
returns c =
    let text : OpensText (ap_req_of c.args.request.now) (enc_ticket_part_of c.args.part.now) c.in-Some.plain.items = rw c.in-Some.is at c.in_ok-plain.ensures in
    let none = rw c.as_slice.ensures.value at c.in-Err.ensures.only in
    if_ok_two c.seen_nothing-in-Err.result
    (λ seen lines finds. λ entries. inl (record {
      shut = inr (λ auth o. opens_to_none c.facts.ensures _ _ _ c.in-Some.plain.items authenticator text.opens none auth o.opens);
      lines_are = lines;
      finds = finds;
    }))
    c.seen_nothing-in-Err.ensures.lines c.seen_nothing-in-Err.ensures.finds
