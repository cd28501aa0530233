-- How an opened request is judged: at the moment that counts, by a memory that stands for a history.
use Rattle.std.proofs.Common.{◌≡◌, ℕ, ℤ, List, sym, ap, subst, inl, inr, Option, Ok, Err, Result}
use Rattle.std.specs.Prelude.{IfErr, IfOk}
use Rattle.krb_der.specs.Kind.{ValueOf}
use Rattle.krb_msg.specs.Module.{ap_req, enc_ticket_part, authenticator}
use Rattle.krb_replay.specs.Stamp.{Stamp}
use Rattle.krb_ap.specs.Setup.{Setup, Arrival, arrival}
use Rattle.krb_ap.specs.Opened.{Asks, AsksFor, OpenedAs, sent_at, stamp_of}
use Rattle.krb_ap.specs.Times.{Near}
use Rattle.krb_ap.specs.Quiet.{Settled}
use Rattle.krb_ap.specs.History.{effective, Shows, IsShown, StandsFor}
use Rattle.krb_ap.specs.Taken.{Taken}
use Rattle.krb_ap.specs.Answer.{taken_of}
use Rattle.krb_ap.specs.Causes.{Cause}
use Rattle.krb_ap.specs.Inner.Facts.{Facts}
use Rattle.krb_ap.specs.Inner.Judging.{IsJudged, Judges}
use Rattle.krb_ap.specs.Inner.Stages.{AnswersNew, IsOfTimes, TimesRefuse}
use Rattle.krb_ap.specs.declared.accepted.Accepted.{Accepted}
use Rattle.krb_ap.specs.declared.judging.Judged.{Judged}
use Rattle.krb_ap.specs.declared.refusal.Refusal.{Refusal}
use Rattle.krb_ap.specs.declared.refusal.Refusal.TheVariants.{Skew, Repeat, OutOfMemory}
use Rattle.krb_ap.proofs.Late.{times_named}
use Rattle.krb_ap.proofs.OfOpened.{far, just_started, repeated, times_cause, times_accept}
use Rattle.krb_ap.proofs.TurnedAway.{near_is_recent}

module _ (facts : Facts) (setup : Setup) (Has : Stamp → Type 0) (latest : Option ℤ)
    (bytes : List ℕ) (request : ValueOf ap_req) (part : ValueOf enc_ticket_part) (auth : ValueOf authenticator)
    (opened : OpenedAs setup bytes request part auth) (now : ℤ) where
  pub judged_far : ¬ Near (sent_at auth) now setup.skew → Judges setup Has latest bytes now (Err Skew)
  judged_far not_near = λ history moment stands eff named.
      far facts setup history bytes moment request part auth opened Has
      (λ near. not_near (subst (λ (n : ℤ). Near (sent_at auth) n setup.skew) (sym eff) near))

  module _ (is_near : Near (sent_at auth) now setup.skew) (tuple : Stamp) (tuple_is : tuple ≡ stamp_of request part auth) where
    near : (moment : ℤ) → now ≡ moment → Near (sent_at auth) moment setup.skew
    near moment eff = subst (λ (n : ℤ). Near (sent_at auth) n setup.skew) eff is_near

    settled : (moment : ℤ) → now ≡ moment → Settled setup now (sent_at auth) → Settled setup moment (sent_at auth)
    settled moment eff is_settled = subst (λ (n : ℤ). Settled setup n (sent_at auth)) eff is_settled

    settled_by : Settled setup now (sent_at auth) → Settled setup now tuple.time
    settled_by is_settled = subst (λ (t : ℤ). Settled setup now t) (sym (ap (λ (s : Stamp). s.time) tuple_is)) is_settled

    pub judged_repeat : Settled setup now tuple.time × Has tuple → Judges setup Has latest bytes now (Err Repeat)
    judged_repeat seen = λ history moment stands eff named.
        let here : Has (stamp_of request part auth) = subst Has tuple_is seen.1 in
        let is_settled : Settled setup now (sent_at auth) = subst (λ (t : ℤ). Settled setup now t) (ap (λ (s : Stamp). s.time) tuple_is) seen.0 in
        repeated facts setup history bytes moment request part auth opened (near (effective history moment) eff)
        (settled (effective history moment) eff is_settled) Has (stands.only (stamp_of request part auth) here) here

    module _ (new : Settled setup now tuple.time → ¬ Has tuple) where
      module _ (history : List Arrival) (moment : ℤ) (stands : StandsFor setup Has latest history) (eff : now ≡ effective history moment) where
        at : Near (sent_at auth) (effective history moment) setup.skew
        at = near (effective history moment) eff

        unshown : Settled setup now (sent_at auth) → ¬ IsShown setup history (stamp_of request part auth)
        unshown is_settled shown = new (settled_by is_settled) (subst Has (sym tuple_is)
            (stands.all (stamp_of request part auth) shown (near_is_recent setup history moment (stamp_of request part auth) at)))

        shows : Shows setup (effective history moment) bytes tuple
        shows = record { request = request; part = part; auth = auth; opened = opened; near = at; stamp_is = tuple_is }

        judged : (answer : Result Accepted Refusal) → AnswersNew setup now request part auth answer → IsJudged setup history (arrival bytes moment) tuple answer
        judged (Ok accepted) a = record {
          shows = shows;
          answers = times_accept facts setup history bytes moment request part auth opened at (settled (effective history moment) eff a.0.0)
              (unshown a.0.0) (taken_of accepted) a.1 (subst (λ (n : ℤ). IsOfTimes setup.skew n request part auth) eff a.0.1);
          named = tt;
        }
        judged (Err r) (inl quiet) = record {
          shows = shows;
          answers = λ named. subst (λ (x : Refusal). Cause setup history (arrival bytes moment) x) (sym quiet.0)
              (just_started facts setup history bytes moment request part auth opened at
              (λ is_settled. quiet.1 (subst (λ (n : ℤ). Settled setup n (sent_at auth)) (sym eff) is_settled)));
          named = λ e. cc;
        }
        judged (Err r) (inr late) = record {
          shows = shows;
          answers = λ named. times_cause facts setup history bytes moment request part auth opened at (settled (effective history moment) eff late.0)
              (unshown late.0) r (subst (λ (n : ℤ). TimesRefuse setup.skew n request part auth r) eff late.1);
          named = times_named setup.skew now request part auth r late.1;
        }

      pub judged_new : (result : Result Judged Refusal) → IfOk result (λ j. j.tuple ≡ tuple) → IfOk result (λ j. AnswersNew setup now request part auth j.answer)
          → IfErr result (λ r. r ≡ OutOfMemory) → Judges setup Has latest bytes now result
      judged_new (Ok j) same answers memory = λ history moment stands eff.
          subst (λ (s : Stamp). IsJudged setup history (arrival bytes moment) s j.answer) (sym same) (judged history moment stands eff j.answer answers)
      judged_new (Err r) same answers memory = λ history moment stands eff named. absurd (named memory)

-- an accepted request was for the service that is reported
pub serves : (setup : Setup) (bytes : List ℕ) (request : ValueOf ap_req) (part : ValueOf enc_ticket_part) (auth : ValueOf authenticator) (now : ℤ)
    → Asks bytes request → (result : Result Judged Refusal) → IfOk result (λ j. AnswersNew setup now request part auth j.answer)
    → IfOk result (λ j. IfOk j.answer (λ x. AsksFor bytes x.service))
serves setup bytes request part auth now asks (Err r) h = tt
serves setup bytes request part auth now asks (Ok j) h = of_answer j.answer h
  where
    of_answer : (answer : Result Accepted Refusal) → AnswersNew setup now request part auth answer → IfOk answer (λ x. AsksFor bytes x.service)
    of_answer (Ok x) a = (request, (asks, ap (λ (t : Taken). t.service) a.1.told))
    of_answer (Err r) a = tt
