-- When a request may be used (RFC 4120, section 3.2.3), and what else we ask of a ticket. Moments
-- are microseconds, and are compared as plain numbers: with a skew they may lie outside the years
-- 0000 to 9999.
use Rattle.std.specs.Prelude.{◌≡◌, ◌⊎◌, ℕ, ℤ, pos, ◌+ℤ◌, ◌≤ℤ◌, All, Option, Some, None}
use Rattle.krb_name.specs.declared.principal.Principal.{Principal}
use Rattle.krb_der.specs.Kind.{ValueOf}
use Rattle.krb_msg.specs.Module.{ap_req, enc_ticket_part, authenticator, authorization_data}
use Rattle.krb_msg.specs.Fields.{part_fields, authenticator_fields, type_of, part_client, part_times}
use Rattle.krb_time.specs.Moments.{micros_of}
use Rattle.krb_der.specs.Flags.{HasBit}
use Rattle.krb_msg.specs.Bits.{invalid, transited_policy_checked}
use Rattle.krb_ap.specs.Opened.{service_of}

-- two moments differ by at most the skew
pub record Near (one other : ℤ) (skew : ℕ) : Type 0 where
  pub not_after : one ≤ℤ (other +ℤ pos skew)
  pub not_before : other ≤ℤ (one +ℤ pos skew)

-- the first microsecond of a second
abbrev pub second_at : ℤ → ℤ
second_at seconds = micros_of seconds 0

-- when the ticket becomes valid: its starttime, or its authtime if that is absent (section 5.3)
abbrev pub or_else : Option ℤ → ℤ → ℤ
or_else (Some time) _ = time
or_else None other = other

abbrev pub start_of : ValueOf enc_ticket_part → ℤ
start_of part = or_else (part_times part).starttime (part_times part).authtime

-- the ticket isn't valid yet: it begins later than the moment plus the skew, or is marked as
-- invalid
abbrev pub IsEarly : ValueOf enc_ticket_part → ℤ → ℕ → Type 0
IsEarly part now skew = ¬ (second_at (start_of part) ≤ℤ (now +ℤ pos skew)) ⊎ HasBit (part_fields part).flags invalid

-- the ticket has expired: the moment is later than its end plus the skew
abbrev pub IsLate : ValueOf enc_ticket_part → ℤ → ℕ → Type 0
IsLate part now skew = ¬ (now ≤ℤ (second_at (part_times part).endtime +ℤ pos skew))

pub record Alive (part : ValueOf enc_ticket_part) (now : ℤ) (skew : ℕ) : Type 0 where
  pub valid : ¬ HasBit (part_fields part).flags invalid
  pub begun : second_at (start_of part) ≤ℤ (now +ℤ pos skew)
  pub lasting : now ≤ℤ (second_at (part_times part).endtime +ℤ pos skew)

-- the realms between the ticket's client and a service need no check of ours: there are none, or
-- the KDC has checked them (section 2.7)
abbrev pub IsPathTrustedTo : Principal → ValueOf enc_ticket_part → Type 0
IsPathTrustedTo service part = ((part_client part).realm ≡ service.realm) ⊎ HasBit (part_fields part).flags transited_policy_checked

-- so to the service that the ticket names, whose name and realm aren't sealed
abbrev pub IsPathTrusted : ValueOf ap_req → ValueOf enc_ticket_part → Type 0
IsPathTrusted request part = IsPathTrustedTo (service_of request) part

-- each outer element of authorization data may be ignored: it is of the type AD-IF-RELEVANT
-- (section 5.2.6.1)
abbrev pub MayBeIgnored : Option (ValueOf authorization_data) → Type 0
MayBeIgnored None = Unit {0}
MayBeIgnored (Some elements) = All (λ element. type_of element ≡ pos 1) elements

pub record IsDataIgnorable (part : ValueOf enc_ticket_part) (auth : ValueOf authenticator) : Type 0 where
  pub of_ticket : MayBeIgnored (part_fields part).authorization
  pub of_authenticator : MayBeIgnored (authenticator_fields auth).authorization
