use Rattle.std.proofs.Common.{[], sym}
use Rattle.krb_msg.specs.Borrowed.{ap_req_of, enc_ticket_part_of}
use Rattle.krb_msg.specs.Module.{authenticator, enc_ticket_part}
use Rattle.krb_ap.specs.Setup.{arrival}
use Rattle.krb_ap.specs.Opened.{AsksWithin, Keyed, Ticketed, entry_key, session_key, authenticator_usage, ticket_usage}
use Rattle.krb_ap.proofs.Truth.{err_is, if_ok, is_not, is_so}
use Rattle.krb_ap.proofs.TurnedAway.{authenticator_shut, key_unusable, opens_nothing, opens_to_none, ticket_shut, turned_away, wanted, wants_by}
use Rattle.krb_ap.proofs.Offsets.{cause_within}
use Rattle.krb_ap.proofs.acceptor.Acceptor.judge.Goals as goal
use Rattle.krb_ap.proofs.acceptor.Acceptor.judge.Goals.{In_ok-check_size, In_ok-entry, In_ok-part}

-- ---- what the steps so far have found

asks_within : (g : _) (c : In_ok-check_size g) → AsksWithin c.self.inside.rules c.args.bytes.now
asks_within g c = (ap_req_of c.in_ok-request.request, (c.in_ok-request.ensures.read, c.in_ok-check_size.ensures.size))

keyed : (g : _) (c : In_ok-entry g) → Keyed c.self.inside.rules c.args.bytes.now (ap_req_of c.in_ok-request.request) c.in_ok-entry.entry.now
keyed g c = record { asks = c.in_ok-request.ensures.read; chosen_is = rw c.in_ok-server.ensures at c.in_ok-entry.ensures.chosen }

ticketed : (g : _) (c : In_ok-part g) → Ticketed c.self.inside.rules c.args.bytes.now (ap_req_of c.in_ok-request.request) (enc_ticket_part_of c.in_ok-part.part)
ticketed g c = record {
  entry = c.in_ok-entry.entry.now;
  keyed = record { asks = c.in_ok-request.ensures.read; chosen_is = rw c.in_ok-server.ensures at c.in_ok-entry.ensures.chosen };
  opens = record { plain = _; opens = c.in_ok-open.ensures.opened; message = rw c.plain.ensures at c.in_ok-part.ensures.found };
}

-- ---- what it asks for, and the key

pub returns-in_err-request-clause-judged : goal.returns-in_err-request-clause-judged
returns-in_err-request-clause-judged g c = rw (err_is _ c.from_residual.ensures) (λ history moment stands eff named.
    turned_away c.facts.ensures _ history _ moment _ _ c.in_err-request.ensures.early (c.in_err-request.ensures.refused _ history moment))

pub returns-in_err-request-clause-placed : goal.returns-in_err-request-clause-placed
returns-in_err-request-clause-placed g c = rw (err_is _ c.from_residual.ensures)
    (cause_within c.within.ensures c.args.self.now.setup [] (arrival c.args.bytes.now c.args.now) c.in_err-request.field-0.0 (c.in_err-request.ensures.refused _ [] c.args.now))

pub returns-in_err-check_size-clause-judged : goal.returns-in_err-check_size-clause-judged
returns-in_err-check_size-clause-judged g c = rw (err_is _ c.from_residual-in_err-check_size.ensures) (rw (sym c.self.view_is) (λ history moment stands eff named.
    wanted c.facts.ensures c.self.inside.rules history c.args.bytes.now moment _ (ap_req_of c.in_ok-request.request) c.in_ok-request.ensures.read c.in_err-check_size.field-0.0
    c.in_err-check_size.ensures.wanting))

pub returns-in_err-entry-clause-judged : goal.returns-in_err-entry-clause-judged
returns-in_err-entry-clause-judged g c = rw (err_is _ c.from_residual-in_err-entry.ensures) (rw (sym c.self.view_is) (λ history moment stands eff named.
    wanted c.facts.ensures c.self.inside.rules history c.args.bytes.now moment _ (ap_req_of c.in_ok-request.request) c.in_ok-request.ensures.read c.in_err-entry.field-0.0
    (wants_by c.self.inside.rules (ap_req_of c.in_ok-request.request) _ _ c.in_ok-server.ensures c.in_err-entry.ensures.wanting)))

-- ---- the ticket

pub returns-in_err-open-clause-judged : goal.returns-in_err-open-clause-judged
returns-in_err-open-clause-judged g c = rw (err_is _ c.from_residual-in_err-open.ensures) (rw (sym c.self.view_is) (λ history moment stands eff named.
    rw (c.in_err-open.ensures.refused named) (ticket_shut c.facts.ensures c.self.inside.rules history c.args.bytes.now moment _ (ap_req_of c.in_ok-request.request) c.in_ok-entry.entry.now
    (keyed g (goal.at.returns-in_err-open-clause-judged g c).In_ok-entry)
    (opens_nothing (entry_key c.in_ok-entry.entry.now) ticket_usage _ enc_ticket_part (c.in_err-open.ensures.nothing named)))))

pub returns-in_err-part-clause-judged : goal.returns-in_err-part-clause-judged
returns-in_err-part-clause-judged g c = rw (err_is _ c.from_residual-in_err-part.ensures) (rw (sym c.self.view_is) (λ history moment stands eff named.
    rw c.in_err-part.ensures.refused (ticket_shut c.facts.ensures c.self.inside.rules history c.args.bytes.now moment _ (ap_req_of c.in_ok-request.request) c.in_ok-entry.entry.now
    (keyed g (goal.at.returns-in_err-part-clause-judged g c).In_ok-entry)
    (opens_to_none c.facts.ensures (entry_key c.in_ok-entry.entry.now) ticket_usage _ _ enc_ticket_part c.in_ok-open.ensures.opened
    (rw c.plain.ensures at c.in_err-part.ensures.none)))))

pub returns-in_err-require-clause-judged : goal.returns-in_err-require-clause-judged
returns-in_err-require-clause-judged g c = rw (err_is _ c.from_residual-in_err-require.ensures) (rw (sym c.self.view_is) (λ history moment stands eff named.
    rw c.in_err-require.ensures.not_so.0 (key_unusable c.facts.ensures c.self.inside.rules history c.args.bytes.now moment _ (ap_req_of c.in_ok-request.request) (enc_ticket_part_of c.in_ok-part.part)
    (ticketed g (goal.at.returns-in_err-require-clause-judged g c).In_ok-part) (is_not _ _ c.is_usable.ensures c.in_err-require.ensures.not_so.1))))

-- ---- the authenticator

pub returns-in_err-require-2-clause-judged : goal.returns-in_err-require-2-clause-judged
returns-in_err-require-2-clause-judged g c = rw (err_is _ c.from_residual-in_err-require-2.ensures) (rw (sym c.self.view_is) (λ history moment stands eff named.
    rw c.in_err-require-2.ensures.not_so.0 (authenticator_shut c.facts.ensures c.self.inside.rules history c.args.bytes.now moment _ (ap_req_of c.in_ok-request.request) (enc_ticket_part_of c.in_ok-part.part)
    (ticketed g (goal.at.returns-in_err-require-2-clause-judged g c).In_ok-part)
    (is_so _ _ c.is_usable.ensures c.in_ok-require.ensures.so) (λ auth opens. is_not _ _ c.is_of_type.ensures c.in_err-require-2.ensures.not_so.1 opens.same_type))))

pub open-requires-2 : goal.open-requires-2
open-requires-2 g c = is_so _ _ c.is_usable.ensures c.in_ok-require.ensures.so

pub returns-in_err-plain-clause-judged : goal.returns-in_err-plain-clause-judged
returns-in_err-plain-clause-judged g c = rw (err_is _ c.from_residual-in_err-plain.ensures) (rw (sym c.self.view_is) (λ history moment stands eff named.
    rw (c.in_err-plain.ensures.refused named) (authenticator_shut c.facts.ensures c.self.inside.rules history c.args.bytes.now moment _ (ap_req_of c.in_ok-request.request) (enc_ticket_part_of c.in_ok-part.part)
    (ticketed g (goal.at.returns-in_err-plain-clause-judged g c).In_ok-part)
    (is_so _ _ c.is_usable.ensures c.in_ok-require.ensures.so) (λ auth opens. opens_nothing (session_key (enc_ticket_part_of c.in_ok-part.part)) authenticator_usage _ authenticator
    (c.in_err-plain.ensures.nothing named) auth opens.opens))))

pub returns-in_err-server-clause-memory : goal.returns-in_err-server-clause-memory
returns-in_err-server-clause-memory g c = rw (sym c.self.view_is) (λ memory. asks_within g (goal.at.returns-in_err-server-clause-memory g c).In_ok-check_size)

pub returns-in_err-open-clause-memory : goal.returns-in_err-open-clause-memory
returns-in_err-open-clause-memory g c = rw (sym c.self.view_is) (λ memory. asks_within g (goal.at.returns-in_err-open-clause-memory g c).In_ok-check_size)

pub returns-in_err-plain-clause-memory : goal.returns-in_err-plain-clause-memory
returns-in_err-plain-clause-memory g c = rw (sym c.self.view_is) (λ memory. asks_within g (goal.at.returns-in_err-plain-clause-memory g c).In_ok-check_size)

-- ---- what is decrypted

pub judge_decrypted-requires-clause-usable : goal.judge_decrypted-requires-clause-usable
judge_decrypted-requires-clause-usable g c = is_so _ _ c.is_usable.ensures c.in_ok-require.ensures.so

pub returns-clause-judged : goal.returns-clause-judged
returns-clause-judged g c = rw (sym c.self.view_is) (c.judge_decrypted.ensures.judged c.args.bytes.now (record {
  ticketed = ticketed g (goal.at.returns-clause-judged g c).In_ok-part;
  usable = is_so _ _ c.is_usable.ensures c.in_ok-require.ensures.so;
  same_type = is_so _ _ c.is_of_type.ensures c.in_ok-require-2.ensures.so;
  opens = rw (sym c.as_slice.ensures.value) at c.in_ok-plain.ensures.opened;
}))

pub returns-clause-placed : goal.returns-clause-placed
returns-clause-placed g c = c.judge_decrypted.ensures.placed c.args.bytes.now

pub returns-clause-asks : goal.returns-clause-asks
returns-clause-asks g c = rw (sym c.self.view_is) (if_ok c.judge_decrypted.result (asks_within g (goal.at.returns-clause-asks g c).In_ok-check_size))

pub returns-clause-service : goal.returns-clause-service
returns-clause-service g c = c.judge_decrypted.ensures.service c.args.bytes.now c.in_ok-request.ensures.read

pub returns-clause-memory : goal.returns-clause-memory
returns-clause-memory g c = rw (sym c.self.view_is) (λ memory. asks_within g (goal.at.returns-clause-memory g c).In_ok-check_size)
