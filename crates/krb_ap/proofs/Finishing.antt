-- What a reply is refused for first, and what is agreed.
use Rattle.krb_name.specs.declared.principal.Principal.{Principal}
use Rattle.std.proofs.Common.{Option, Err, IsErrOf, ◌≡◌, ℕ, ◌<◌, List, sym, ◌∙◌, subst, ap, arith, lit<}
use Rattle.krb_der.specs.Kind.{ValueOf, leaf, octets}
use Rattle.krb_der.specs.Fault.{IsFault}
use Rattle.krb_der.specs.Spells.{IsMessage}
use Rattle.krb_enc.specs.Key.{KeyValue, profile_of}
use Rattle.krb_enc.specs.Opens.{Opens}
use Rattle.krb_msg.specs.Module.{ap_rep, enc_ap_rep_part, is_ap_rep, is_enc_ap_rep_part, typed}
use Rattle.krb_msg.specs.Fields.{encrypted_fields, reply_enc_part, reply_fields}
use Rattle.krb_ap.specs.Causes.{BeginsOtherwise}
use Rattle.krb_ap.specs.Request.{Awaited}
use Rattle.krb_ap.specs.Reply.{reply_usage}
use Rattle.krb_ap.specs.Finish.{OpensReply, IsOpenedReply, IsAgreed, Agreement, agreement_for, FinishHolds, FinishCause, finish_place, repeated_at}
use Rattle.krb_ap.specs.Inner.Facts.{Facts}
use Rattle.krb_ap.proofs.Begins.{begins_so}
use Rattle.krb_ap.specs.declared.finish.FinishFault.{FinishFault}
use Rattle.krb_ap.specs.declared.finish.FinishFault.TheVariants.{MessageType, Malformed, Integrity, Mismatch, OutOfMemory}
use Rattle.krb_der.specs.declared.fault.Fault.{Fault}

none_below : (f : FinishFault) → finish_place f < 1 → ⊥
none_below f h = grind arith

module _ (awaited : Awaited) (bytes : List ℕ) where
  begun : ¬ BeginsOtherwise 0x6f bytes → (other : FinishFault) → finish_place other < 2 → ¬ FinishHolds awaited bytes other
  begun so MessageType h x = so x
  begun so _ h x = absurd (omega (arith, h))

  pub other_type : BeginsOtherwise 0x6f bytes → FinishCause awaited bytes MessageType
  other_type b = record { holds = b; first = λ other h x. none_below other h }

  pub malformed : ¬ BeginsOtherwise 0x6f bytes → ((reply : ValueOf ap_rep) → ¬ IsMessage ap_rep reply bytes) → (fault : Fault)
      → IsFault ap_rep bytes fault → FinishCause awaited bytes (Malformed fault)
  malformed so none fault is = record { holds = (none, is); first = begun so }

module _ (facts : Facts) (awaited : Awaited) (bytes : List ℕ) where
  -- ---- what each stage passes

  read : (reply : ValueOf ap_rep) → IsMessage ap_rep reply bytes → (other : FinishFault) → finish_place other < 3 → ¬ FinishHolds awaited bytes other
  read reply message MessageType h x = begins_so ap_rep reply bytes message x
  read reply message (Malformed fault) h x = x.0 reply message
  read reply message _ h x = absurd (omega (arith, h))

  not_shut : (part : ValueOf enc_ap_rep_part) → IsOpenedReply awaited bytes part → ¬ FinishHolds awaited bytes Integrity
  not_shut part o x = x.shut part (subst (λ (r : ValueOf ap_rep). OpensReply awaited.key r part)
      (facts.one_value ap_rep is_ap_rep o.reply x.reply bytes o.message x.message) o.opens)

  opened : (part : ValueOf enc_ap_rep_part) → IsOpenedReply awaited bytes part → (other : FinishFault) → finish_place other < 4
      → ¬ FinishHolds awaited bytes other
  opened part o MessageType h x = begins_so ap_rep o.reply bytes o.message x
  opened part o (Malformed fault) h x = x.0 o.reply o.message
  opened part o Integrity h x = not_shut part o x
  opened part o _ h x = absurd (omega (arith, h))

  -- ---- the causes

  pub reply_shut : (reply : ValueOf ap_rep) → IsMessage ap_rep reply bytes → ((part : ValueOf enc_ap_rep_part) → ¬ OpensReply awaited.key reply part)
      → FinishCause awaited bytes Integrity
  reply_shut reply message shut = record { holds = record { reply = reply; message = message; shut = shut }; first = read reply message }

  pub of_another : (part : ValueOf enc_ap_rep_part) → IsOpenedReply awaited bytes part → (repeated_at part ≡ awaited.at → ⊥)
      → FinishCause awaited bytes Mismatch
  of_another part o other = record { holds = record { part = part; opened = o; other = other }; first = opened part o }

  -- ---- what is agreed is one, and has no cause

  one_part : (p q : ValueOf enc_ap_rep_part) → IsOpenedReply awaited bytes p → IsOpenedReply awaited bytes q → p ≡ q
  one_part p q a b =
      let same : b.reply ≡ a.reply = facts.one_value ap_rep is_ap_rep b.reply a.reply bytes b.message a.message in
      let moved : OpensReply awaited.key a.reply q = subst (λ (r : ValueOf ap_rep). OpensReply awaited.key r q) same b.opens in
      let plain : moved.opens.plain ≡ a.opens.opens.plain =
      facts.one_plain awaited.key reply_usage (encrypted_fields (reply_enc_part a.reply)).cipher moved.opens.plain a.opens.opens.plain moved.opens.opens a.opens.opens.opens in
      facts.one_value enc_ap_rep_part is_enc_ap_rep_part p q a.opens.opens.plain a.opens.opens.message
      (subst (λ (b : List ℕ). IsMessage enc_ap_rep_part q b) plain moved.opens.message)

  pub agreed_or_refused : (agreement : Agreement) (fault : FinishFault) → IsAgreed awaited bytes agreement → FinishCause awaited bytes fault → ⊥
  agreed_or_refused agreement MessageType a cause = opened a.part a.opened MessageType (lit< tt) cause.holds
  agreed_or_refused agreement (Malformed fault) a cause = opened a.part a.opened (Malformed fault) (lit< tt) cause.holds
  agreed_or_refused agreement Integrity a cause = opened a.part a.opened Integrity (lit< tt) cause.holds
  agreed_or_refused agreement Mismatch a cause = cause.holds.other
      (subst (λ (p : ValueOf enc_ap_rep_part). repeated_at p ≡ awaited.at) (one_part a.part cause.holds.part a.opened cause.holds.opened) a.same)
  agreed_or_refused agreement OutOfMemory a cause = cause.holds

module _ (facts : Facts) (awaited : Awaited) (bytes : List ℕ) where
  pub one_agreement : (one other : Agreement) → IsAgreed awaited bytes one → IsAgreed awaited bytes other → one ≡ other
  one_agreement one other a b =
      a.agreement_is ∙ (ap (agreement_for awaited) (one_part facts awaited bytes a.part b.part a.opened b.opened) ∙ sym b.agreement_is)

abbrev pub agreement_by : Principal → KeyValue → Option KeyValue → Option ℕ → Option (ValueOf (typed (leaf octets))) → Option ℕ → Agreement
agreement_by client key subkey seq service_subkey service_seq =
    record { client = client; key = key; subkey = subkey; seq = seq; service_subkey = service_subkey; service_seq = service_seq }

-- ---- what opens, by the key that is held

pub opens_reply : (key : KeyValue) (reply : ValueOf ap_rep) (lent plain : List ℕ) (part : ValueOf enc_ap_rep_part)
    → (encrypted_fields (reply_enc_part reply)).etype ≡ key.etype → lent ≡ plain
    → Opens (profile_of key) key.bytes reply_usage (encrypted_fields (reply_enc_part reply)).cipher plain → IsMessage enc_ap_rep_part part lent
    → OpensReply key reply part
opens_reply key reply lent plain part same e opens message = record {
  same_type = same;
  opens = record { plain = plain; opens = opens; message = subst (λ (b : List ℕ). IsMessage enc_ap_rep_part part b) e message };
}

pub opens_to_other : Facts → (key : KeyValue) (reply : ValueOf ap_rep) (lent plain : List ℕ) → lent ≡ plain
    → Opens (profile_of key) key.bytes reply_usage (encrypted_fields (reply_enc_part reply)).cipher plain
    → ((part : ValueOf enc_ap_rep_part) → ¬ IsMessage enc_ap_rep_part part lent) → (part : ValueOf enc_ap_rep_part) → ¬ OpensReply key reply part
opens_to_other facts key reply lent plain e opens none part o = none part (subst (λ (b : List ℕ). IsMessage enc_ap_rep_part part b)
    (facts.one_plain key reply_usage (encrypted_fields (reply_enc_part reply)).cipher o.opens.plain plain o.opens.opens opens ∙ sym e) o.opens.message)

-- what is agreed, as copies
pub copied_agreement : (awaited : Awaited) (part : ValueOf enc_ap_rep_part) (client : Principal) (key : KeyValue) (subkey : Option KeyValue) (seq : Option ℕ)
    (service_subkey : Option (ValueOf (typed (leaf octets)))) → client ≡ awaited.client → key ≡ awaited.key → subkey ≡ awaited.subkey → seq ≡ awaited.seq
    → service_subkey ≡ (reply_fields part).subkey
    → agreement_by client key subkey seq service_subkey (reply_fields part).seq_number ≡ agreement_for awaited part
copied_agreement awaited part client key subkey seq service_subkey e f g h i =
    ap (λ (x : Principal). agreement_by x key subkey seq service_subkey (reply_fields part).seq_number) e
    ∙ (ap (λ (x : KeyValue). agreement_by awaited.client x subkey seq service_subkey (reply_fields part).seq_number) f
    ∙ (ap (λ (x : Option KeyValue). agreement_by awaited.client awaited.key x seq service_subkey (reply_fields part).seq_number) g
    ∙ (ap (λ (x : Option ℕ). agreement_by awaited.client awaited.key awaited.subkey x service_subkey (reply_fields part).seq_number) h
    ∙ ap (λ (x : Option (ValueOf (typed (leaf octets)))). agreement_by awaited.client awaited.key awaited.subkey awaited.seq x (reply_fields part).seq_number) i)))

-- a fault that is answered
pub fault_of : {T : Type 0} (one other : FinishFault) → IsErrOf {T = T} (Err one) other → one ≡ other
fault_of one other e = cc
