-- A reply has one answer: what is agreed, or one cause.
use Rattle.std.proofs.Common.{◌≡◌, ℕ, List, refl, inl, inr, ◌⊎◌}
use Rattle.krb_der.specs.Kind.{ValueOf}
use Rattle.krb_der.specs.Fault.{IsFault}
use Rattle.krb_der.specs.Spells.{IsMessage}
use Rattle.krb_der.specs.declared.fault.Fault.{Fault}
use Rattle.krb_msg.specs.Module.{ap_rep, enc_ap_rep_part, is_ap_rep, is_enc_ap_rep_part}
use Rattle.krb_msg.specs.Fields.{encrypted_fields, reply_enc_part}
use Rattle.krb_ap.specs.Causes.{BeginsOtherwise}
use Rattle.krb_ap.specs.Request.{Awaited}
use Rattle.krb_ap.specs.Reply.{reply_usage}
use Rattle.krb_ap.specs.Finish.{Agreement, IsAgreed, IsOpenedReply, FinishCause, FinishHolds, agreement_for, finish_place, repeated_at}
use Rattle.krb_ap.specs.Inner.Facts.{Facts}
use Rattle.krb_ap.specs.Inner.Decisions.{Decisions}
use Rattle.krb_ap.proofs.Decided.{integers, one_first}
use Rattle.krb_ap.proofs.Answered.{begins, opens_as}
use Rattle.krb_ap.proofs.Finishing.{other_type, malformed, reply_shut, of_another}
use Rattle.krb_ap.specs.declared.finish.FinishFault.{FinishFault}
use Rattle.krb_ap.specs.declared.finish.FinishFault.TheVariants.{MessageType, Malformed, Integrity, Mismatch}

module _ (facts : Facts) (d : Decisions) (awaited : Awaited) (bytes : List ℕ) where
  abbrev HasAnswer : Type 0
  HasAnswer = ((agreement : Agreement) × IsAgreed awaited bytes agreement) ⊎ ((fault : FinishFault) × FinishCause awaited bytes fault)

  by_moment : (part : ValueOf enc_ap_rep_part) → IsOpenedReply awaited bytes part → HasAnswer
  by_moment part o = elim (integers (repeated_at part) awaited.at) [
    | inl same ↦ inl (agreement_for awaited part, record { part = part; opened = o; same = same; agreement_is = refl })
    | inr other ↦ inr (Mismatch, of_another facts awaited bytes part o other)
  ]

  by_opening : (reply : ValueOf ap_rep) → IsMessage ap_rep reply bytes → HasAnswer
  by_opening reply message = elim (integers (encrypted_fields (reply_enc_part reply)).etype awaited.key.etype) [
    | inl same ↦ elim (opens_as facts d awaited.key reply_usage (encrypted_fields (reply_enc_part reply)).cipher enc_ap_rep_part is_enc_ap_rep_part) [
      | inl opening ↦ by_moment opening.0 (record { reply = reply; message = message; opens = record { same_type = same; opens = opening.1 } })
      | inr shut ↦ inr (Integrity, reply_shut facts awaited bytes reply message (λ part o. shut part o.opens))
    ]
    | inr other ↦ inr (Integrity, reply_shut facts awaited bytes reply message (λ part o. other o.same_type))
  ]

  by_message : ¬ BeginsOtherwise 0x6f bytes → HasAnswer
  by_message so = elim (d.message ap_rep is_ap_rep bytes) [
    | inl m ↦ by_opening m.0 m.1
    | inr none ↦ (let f : (fault : Fault) × IsFault ap_rep bytes fault = d.fault ap_rep is_ap_rep bytes none in
        inr (Malformed f.0, malformed awaited bytes so none f.0 f.1))
  ]

  pub answered : HasAnswer
  answered = elim (begins 0x6f bytes) [
    | inl b ↦ inr (MessageType, other_type awaited bytes b)
    | inr so ↦ by_message so
  ]

pub one_cause : (awaited : Awaited) (bytes : List ℕ) (one other : FinishFault) → FinishCause awaited bytes one → FinishCause awaited bytes other
    → finish_place one ≡ finish_place other
one_cause awaited bytes one other a b = one_first finish_place (FinishHolds awaited bytes) one other a.holds a.first b.holds b.first
