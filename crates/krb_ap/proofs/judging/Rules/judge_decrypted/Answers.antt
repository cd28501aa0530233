use Rattle.std.proofs.Common.{refl, subst}
use Rattle.std.specs.Prelude.{◌↔◌, IsTrue}
use Rattle.krb_msg.specs.Borrowed.{ap_req_of, enc_ticket_part_of, authenticator_of}
use Rattle.krb_msg.specs.Module.{authenticator}
use Rattle.krb_ap.specs.Setup.{Setup}
use Rattle.krb_ap.specs.Opened.{Authenticated, OpenedAs, authenticator_usage, sent_at, session_key}
use Rattle.krb_ap.specs.Times.{Near}
use Rattle.krb_ap.specs.Inner.Judging.{IsDecrypted}
use Rattle.krb_ap.proofs.Truth.{err_is, is_not, is_so}
use Rattle.krb_ap.proofs.TurnedAway.{authenticator_shut, opens_to_none, other_client}
use Rattle.krb_ap.proofs.AsJudged.{judged_far, judged_new, judged_repeat, serves}
use Rattle.krb_ap.proofs.judging.Rules.judge_decrypted.Goals as goal
use Rattle.krb_ap.proofs.judging.Rules.judge_decrypted.Goals.{After-is_near, In_ok-auth, In_ok-require}

-- ---- what the steps so far have found

authenticated : (g : _) (c : In_ok-auth g) (bytes : _)
    → IsDecrypted c.args.self.now bytes (ap_req_of c.args.decrypted.now.request.now) (enc_ticket_part_of c.args.decrypted.now.part.now) c.args.decrypted.now.plain.now
    → Authenticated c.args.self.now bytes (ap_req_of c.args.decrypted.now.request.now) (enc_ticket_part_of c.args.decrypted.now.part.now) (authenticator_of c.in_ok-auth.auth)
authenticated g c bytes decrypted = record {
  ticketed = decrypted.ticketed;
  usable = decrypted.usable;
  opens = record { same_type = decrypted.same_type; opens = record { plain = _; opens = decrypted.opens; message = c.in_ok-auth.ensures.found } };
}

opened : (g : _) (c : In_ok-require g) (bytes : _)
    → IsDecrypted c.args.self.now bytes (ap_req_of c.args.decrypted.now.request.now) (enc_ticket_part_of c.args.decrypted.now.part.now) c.args.decrypted.now.plain.now
    → OpenedAs c.args.self.now bytes (ap_req_of c.args.decrypted.now.request.now) (enc_ticket_part_of c.args.decrypted.now.part.now) (authenticator_of c.in_ok-auth.auth)
opened g c bytes decrypted = record {
  authenticated = record {
    ticketed = decrypted.ticketed;
    usable = decrypted.usable;
    opens = record { same_type = decrypted.same_type; opens = record { plain = _; opens = decrypted.opens; message = c.in_ok-auth.ensures.found } };
  };
  same_client = is_so _ _ c.is_same_client.ensures c.in_ok-require.ensures.so;
}

is_near : (g : _) (c : After-is_near g) → IsTrue c.is_near.result ↔ Near (sent_at (authenticator_of c.in_ok-auth.auth)) c.args.decrypted.now.at c.args.self.now.skew
is_near g c = subst (λ (s : Setup). IsTrue c.is_near.result ↔ Near (sent_at (authenticator_of c.in_ok-auth.auth)) c.args.decrypted.now.at s.skew) c.self.view_is
    (rw c.sent_at.ensures at c.is_near.ensures)

-- ---- the authenticator

pub returns-in_err-auth-clause-judged : goal.returns-in_err-auth-clause-judged
returns-in_err-auth-clause-judged g c = λ bytes decrypted. rw (err_is _ c.from_residual.ensures) (λ history moment stands eff named.
    rw c.in_err-auth.ensures.refused (authenticator_shut c.facts.ensures c.args.self.now history bytes moment _ (ap_req_of c.args.decrypted.now.request.now)
    (enc_ticket_part_of c.args.decrypted.now.part.now) decrypted.ticketed decrypted.usable
    (λ auth opens. opens_to_none c.facts.ensures (session_key (enc_ticket_part_of c.args.decrypted.now.part.now)) authenticator_usage _ _ authenticator
    decrypted.opens c.in_err-auth.ensures.none auth opens.opens)))

pub returns-in_err-require-clause-judged : goal.returns-in_err-require-clause-judged
returns-in_err-require-clause-judged g c = λ bytes decrypted. rw (err_is _ c.from_residual-in_err-require.ensures) (λ history moment stands eff named.
    rw c.in_err-require.ensures.not_so.0 (other_client c.facts.ensures c.args.self.now history bytes moment _ (ap_req_of c.args.decrypted.now.request.now)
    (enc_ticket_part_of c.args.decrypted.now.part.now) (authenticator_of c.in_ok-auth.auth)
    (authenticated g (goal.at.returns-in_err-require-clause-judged g c).In_ok-auth bytes decrypted)
    (is_not _ _ c.is_same_client.ensures c.in_err-require.ensures.not_so.1)))

-- ---- what was opened

pub returns-in_err-require-2-clause-judged : goal.returns-in_err-require-2-clause-judged
returns-in_err-require-2-clause-judged g c = λ bytes decrypted.
    rw (err_is _ c.from_residual-in_err-require-2.ensures) (rw c.in_err-require-2.ensures.not_so.0 (judged_far c.facts.ensures c.args.self.now
    (g.M.ReplayMemory.has c.args.memory.now) (g.M.ReplayMemory.newest c.args.memory.now) bytes _ _ (authenticator_of c.in_ok-auth.auth)
    (opened g (goal.at.returns-in_err-require-2-clause-judged g c).In_ok-require bytes decrypted) c.args.decrypted.now.at
    (is_not _ _ (is_near g (goal.at.returns-in_err-require-2-clause-judged g c).After-is_near) c.in_err-require-2.ensures.not_so.1)))

pub returns-in_err-client-clause-judged : goal.returns-in_err-client-clause-judged
returns-in_err-client-clause-judged g c = λ bytes decrypted. rw (err_is _ c.from_residual-in_err-client.ensures)
    (λ history moment stands eff named. absurd (named refl))

pub returns-in_err-tuple-clause-judged : goal.returns-in_err-tuple-clause-judged
returns-in_err-tuple-clause-judged g c = λ bytes decrypted. rw (err_is _ c.from_residual-in_err-tuple.ensures)
    (λ history moment stands eff named. absurd (named refl))

pub returns-in_err-require-3-clause-judged : goal.returns-in_err-require-3-clause-judged
returns-in_err-require-3-clause-judged g c = λ bytes decrypted.
    rw (err_is _ c.from_residual-in_err-require-3.ensures) (rw c.in_err-require-3.ensures.not_so.0 (judged_repeat c.facts.ensures c.args.self.now
    (g.M.ReplayMemory.has c.args.memory.now) (g.M.ReplayMemory.newest c.args.memory.now) bytes _ _ (authenticator_of c.in_ok-auth.auth)
    (opened g (goal.at.returns-in_err-require-3-clause-judged g c).In_ok-require bytes decrypted) c.args.decrypted.now.at
    (is_so _ _ (is_near g (goal.at.returns-in_err-require-3-clause-judged g c).After-is_near) c.in_ok-require-2.ensures.so) c.in_ok-tuple.tuple c.in_ok-tuple.ensures (c.is_new.ensures.seen c.in_err-require-3.ensures.not_so.1)))

pub returns-clause-judged : goal.returns-clause-judged
returns-clause-judged g c = λ bytes decrypted. judged_new c.facts.ensures c.args.self.now
    (g.M.ReplayMemory.has c.args.memory.now) (g.M.ReplayMemory.newest c.args.memory.now) bytes _ _ (authenticator_of c.in_ok-auth.auth)
    (opened g (goal.at.returns-clause-judged g c).In_ok-require bytes decrypted) c.args.decrypted.now.at
    (is_so _ _ (is_near g (goal.at.returns-clause-judged g c).After-is_near) c.in_ok-require-2.ensures.so) c.in_ok-tuple.tuple c.in_ok-tuple.ensures (c.is_new.ensures.new c.in_ok-require-3.ensures.so)
    c.judge_new.result c.judge_new.ensures.tuple c.judge_new.ensures.answer c.judge_new.ensures.memory

pub returns-clause-service : goal.returns-clause-service
returns-clause-service g c = λ bytes asks. serves c.args.self.now bytes (ap_req_of c.args.decrypted.now.request.now) (enc_ticket_part_of c.args.decrypted.now.part.now)
    (authenticator_of c.in_ok-auth.auth) c.args.decrypted.now.at asks c.judge_new.result c.judge_new.ensures.answer
