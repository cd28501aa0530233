use Rattle.std.proofs.Common.{inl, inr}
use Rattle.krb_der.specs.Spells.{IsMessage}
use Rattle.krb_enc.specs.Key.{profile_of}
use Rattle.krb_enc.specs.Opens.{Opens}
use Rattle.krb_msg.specs.Borrowed.{enc_ticket_part_of}
use Rattle.krb_msg.specs.Module.{enc_ticket_part}
use Rattle.krb_ap.specs.Opened.{entry_key, ticket_usage}
use Rattle.krb_ap.specs.Inner.Stages.{IsShut}
use Rattle.krb_ap.proofs.TurnedAway.{opens_nothing, opens_to_none}
use Rattle.krb_explain_keys.proofs.OpeningLaws.{if_ok}
use Rattle.krb_explain_keys.proofs.sight.seen_of_ticket.Goals as goal

pub returns-in_default : goal.returns-in_default
returns-in_default c =
    let shut : IsShut (entry_key c.args.entry.now) ticket_usage c.args.request.now.ticket.enc_part.cipher.now = rw c.in_default.is at c.in_ok-plain.ensures in
    if_ok c.seen_shut.result
    (λ seen sees. λ entries. inl (record { shut = λ part o. opens_nothing _ _ _ enc_ticket_part shut part o; sees = sees }))
    c.seen_shut.ensures

pub returns-in-Ok : goal.returns-in-Ok
returns-in-Ok c =
    let opens : Opens (profile_of (entry_key c.args.entry.now)) c.args.entry.now.key ticket_usage c.args.request.now.ticket.enc_part.cipher.now c.in-Some.plain.items
    = rw c.in-Some.is at c.in_ok-plain.ensures in
    let parsed : IsMessage enc_ticket_part (enc_ticket_part_of c.in-Ok.part) c.in-Some.plain.items = rw c.as_slice.ensures.value at c.in-Ok.ensures.found in
    if_ok c.seen_of_part.result
    (λ seen sees. λ entries. inr (sees entries c.args.entry.now (record { plain = c.in-Some.plain.items; opens = opens; message = parsed })))
    c.seen_of_part.ensures

pub returns : goal.returns
returns c =
    let opens : Opens (profile_of (entry_key c.args.entry.now)) c.args.entry.now.key ticket_usage c.args.request.now.ticket.enc_part.cipher.now c.in-Some.plain.items
    = rw c.in-Some.is at c.in_ok-plain.ensures in
    let none = rw c.as_slice.ensures.value at c.in-Err.ensures.only in
    if_ok c.seen_shut-in-Err.result
    (λ seen sees. λ entries. inl (record {
      shut = λ part o. opens_to_none c.facts.ensures _ _ _ c.in-Some.plain.items enc_ticket_part opens none part o;
      sees = sees;
    }))
    c.seen_shut-in-Err.ensures
