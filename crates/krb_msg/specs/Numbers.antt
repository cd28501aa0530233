-- Messages that have a second spelling.
use Rattle.std.specs.Prelude.{◌≡◌, ℕ, ◌^◌, ◌≤◌, Some}
use Rattle.krb_der.specs.Kind.{Kind, ValueOf}
use Rattle.krb_msg.specs.Module.{authenticator, enc_ap_rep_part}
use Rattle.krb_msg.specs.Fields.{authenticator_fields, reply_fields}

-- the sequence number of an Authenticator or of an EncAPRepPart is above 2147483647
pub data HasHighNumber : (k : Kind) → ValueOf k → Type 0 where
  of_authenticator : {v : ValueOf authenticator} (n : ℕ) → (authenticator_fields v).seq_number ≡ Some n → 2 ^ 31 ≤ n → HasHighNumber authenticator v
  of_reply : {v : ValueOf enc_ap_rep_part} (n : ℕ) → (reply_fields v).seq_number ≡ Some n → 2 ^ 31 ≤ n → HasHighNumber enc_ap_rep_part v
