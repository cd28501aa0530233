-- A built request is let in, if its stamp is new.
use Rattle.std.proofs.Common.{◌≡◌, ℕ, ℤ, List, Bool, refl, sym, ◌∙◌, ap, subst}
use Rattle.std.specs.Prelude.{IsTrue}
use Rattle.krb_name.specs.declared.principal.Principal.{Principal}
use Rattle.krb_der.specs.Kind.{ValueOf}
use Rattle.krb_msg.specs.Module.{ticket as ticket_kind, enc_ticket_part}
use Rattle.krb_msg.specs.Fields.{ticket_service, part_client}
use Rattle.krb_time.specs.Moments.{micros_of}
use Rattle.krb_ccache.specs.Value.{Cache}
use Rattle.krb_replay.specs.Stamp.{Stamp}
use Rattle.krb_ap.specs.Setup.{Setup, Arrival, arrival}
use Rattle.krb_ap.specs.Opened.{stamp_at}
use Rattle.krb_ap.specs.Once.{HasStamp}
use Rattle.krb_ap.specs.Taken.{Taken, Accept, taken_stamp}
use Rattle.krb_ap.specs.Request.{Awaited, IsRequest}
use Rattle.krb_ap.specs.Headline.{Agrees, HasTicket, MayBeTaken}
use Rattle.krb_ap.specs.Sharing.{AskedAmong, Has, IsLetInNext, SaysNew, Share, StoreEvent, asked_by, forgets}
use Rattle.krb_ap.specs.World.{IsOf}
use Rattle.krb_ap.specs.Inner.Facts.{Facts}
use Rattle.krb_ap.specs.declared.request.RequestOptions.{RequestOptions}
use Rattle.krb_ap.proofs.BuiltAccepted.{accepted_by}
use Rattle.krb_ap.proofs.Sharing.{has_its_stamp, lacked, never_forgotten}

module _ (facts : Facts) (setup : Setup) (history : List Arrival) (moment : ℤ) (cache : Cache) (service : Principal) (at : ℤ) (confounder : List ℕ)
    (options : RequestOptions) (bytes : List ℕ) (awaited : Awaited) (ticket : ValueOf ticket_kind) (part : ValueOf enc_ticket_part)
    (request : IsRequest cache service at confounder options bytes awaited) (has : HasTicket setup request.credential ticket part)
    (may : MayBeTaken setup history moment at ticket part) (store : List Stamp) (events : List StoreEvent) where
  abbrev its_stamp : Stamp
  its_stamp = stamp_at (ticket_service ticket) (part_client part) at

  -- it is accepted, and has the stamp of the ticket's service and client and of the client's moment
  record IsTaken : Type 0 where
    taken : Taken
    accepted : Accept setup history (arrival bytes moment) taken
    agrees : Agrees taken awaited
    stamp_is : taken_stamp taken ≡ its_stamp

  same_stamp : (taken : Taken) → taken.client ≡ part_client part → taken.service ≡ ticket_service ticket → Agrees taken awaited → taken_stamp taken ≡ its_stamp
  same_stamp taken client server agrees =
      ap (λ (s : Principal). stamp_at s taken.client (micros_of taken.ctime taken.cusec)) server
      ∙ (ap (λ (c : Principal). stamp_at (ticket_service ticket) c (micros_of taken.ctime taken.cusec)) client
      ∙ ap (λ (t : ℤ). stamp_at (ticket_service ticket) (part_client part) t) (agrees.at ∙ ap (λ (a : Awaited). a.at) request.awaited_is))

  is_taken : IsTaken
  is_taken =
      let t : (taken : Taken) × Accept setup history (arrival bytes moment) taken × (taken.client ≡ part_client part)
      × (taken.service ≡ ticket_service ticket) × (taken.wants_reply ≡ options.mutual) × Agrees taken awaited =
      accepted_by facts setup history moment cache service at confounder options bytes awaited part request ticket has may in
      record { taken = t.0; accepted = t.1; agrees = t.5; stamp_is = same_stamp t.0 t.2 t.3 t.5 }

  -- the store can only say that it is new, if it hasn't got it
  pub said_new : ¬ Has store events its_stamp → (taken : Taken) × Accept setup history (arrival bytes moment) taken × Agrees taken awaited
      × ((is_new : Bool) → SaysNew store events (taken_stamp taken) is_new → IsTrue is_new)
  said_new lacks = (
    is_taken.taken,
    is_taken.accepted,
    is_taken.agrees,
    λ is_new says. says.1 (subst (λ (s : Stamp). ¬ Has store events s) (sym is_taken.stamp_is) lacks),
  )

  pub let_in : (skew : ℕ) → Share skew store events → ¬ IsOf store its_stamp → ¬ AskedAmong events its_stamp
      → (taken : Taken) × Agrees taken awaited × IsLetInNext skew store events (asked_by setup history (arrival bytes moment) taken) its_stamp
  let_in skew share absent unasked =
      let lacks : ¬ Has store events (taken_stamp is_taken.taken) =
      subst (λ (s : Stamp). ¬ Has store events s) (sym is_taken.stamp_is) (lacked facts skew store events its_stamp share absent unasked) in (
        is_taken.taken,
        is_taken.agrees,
        record {
          answered = λ looked. record {
            accepted = is_taken.accepted;
            answer = (λ yes. lacks, λ no. refl);
            clocks = λ when forgot. absurd (never_forgotten facts skew store events its_stamp when share absent unasked
                (subst (λ (s : Stamp). IsOf events (forgets s when)) is_taken.stamp_is forgot));
          };
          only = λ outcome answered. answered.answer.1 lacks;
          let_in = λ looked in_time. (
            (refl, in_time),
            subst (λ (s : Stamp). HasStamp setup bytes s) is_taken.stamp_is (has_its_stamp setup history (arrival bytes moment) is_taken.taken is_taken.accepted),
          );
        },
      )
