-- A near and new request: what is asked of its ticket.
use Rattle.std.proofs.Common.{◌≡◌, ◌≢◌, ℕ, ℤ, pos, ◌+ℤ◌, inl, inr, subst, Option, Some, None}
use Rattle.std.specs.Prelude.{◌≤ℤ◌, MatchOption}
use Rattle.krb_der.specs.Kind.{ValueOf}
use Rattle.krb_msg.specs.Module.{ap_req, enc_ticket_part, authenticator}
use Rattle.krb_msg.specs.Fields.{part_times}
use Rattle.krb_ap.specs.Setup.{Setup}
use Rattle.krb_ap.specs.Opened.{sent_at}
use Rattle.krb_ap.specs.Quiet.{Settled}
use Rattle.krb_ap.specs.Times.{Alive, IsEarly, IsLate, second_at, start_of}
use Rattle.krb_ap.specs.Inner.Stages.{IsInTime, IsOfTimes, RefusesNew, TimesRefuse}
use Rattle.krb_ap.proofs.Decided.{order}
use Rattle.krb_ap.specs.declared.refusal.Refusal.{Refusal}
use Rattle.krb_ap.specs.declared.refusal.Refusal.TheVariants.{OutOfMemory}

-- what isn't refuted holds, of an order of whole numbers
stable : (a b : ℤ) → ¬ (¬ (a ≤ℤ b)) → a ≤ℤ b
stable a b h = elim (order a b) [ inl le ↦ le | inr none ↦ absurd (h none) ]

pub alive : (part : ValueOf enc_ticket_part) (now : ℤ) (skew : ℕ) → ¬ IsEarly part now skew → ¬ IsLate part now skew → Alive part now skew
alive part now skew early late = record {
  valid = λ bit. early (inr bit);
  begun = stable (second_at (start_of part)) (now +ℤ pos skew) (λ h. early (inl h));
  lasting = stable now (second_at (part_times part).endtime +ℤ pos skew) late;
}

-- such a refusal isn't out of memory
pub times_named : (skew : ℕ) (now : ℤ) (request : ValueOf ap_req) (part : ValueOf enc_ticket_part) (auth : ValueOf authenticator) (r : Refusal)
    → TimesRefuse skew now request part auth r → r ≢ OutOfMemory
times_named skew now request part auth r h = elim h [
  | inl x ↦ (λ e. cc)
  | inr rest ↦ elim rest [ inl x ↦ (λ e. cc) | inr others ↦ elim others [ inl x ↦ (λ e. cc) | inr x ↦ (λ e. cc) ] ]
]

-- why a new request is refused once the quiet start is over
pub times_of_new : (setup : Setup) (now : ℤ) (request : ValueOf ap_req) (part : ValueOf enc_ticket_part) (auth : ValueOf authenticator) (skew : ℕ)
    → skew ≡ setup.skew → (r : Option Refusal) → Settled setup now (sent_at auth)
    → MatchOption r (IsOfTimes skew now request part auth) (TimesRefuse skew now request part auth)
    → MatchOption r (IsInTime setup now request part auth) (RefusesNew setup now request part auth)
times_of_new setup now request part auth skew e None settled h = (settled, subst (λ (s : ℕ). IsOfTimes s now request part auth) e h)
times_of_new setup now request part auth skew e (Some r) settled h = inr (settled, subst (λ (s : ℕ). TimesRefuse s now request part auth r) e h)
