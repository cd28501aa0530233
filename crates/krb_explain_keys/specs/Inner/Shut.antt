-- The plain text of an authenticator, and the key of a ticket.
use Rattle.std.specs.Prelude.{◌≡◌, ℕ, List}
use Rattle.krb_der.specs.Kind.{ValueOf}
use Rattle.krb_enc.specs.Key.{IsUsable, profile_of}
use Rattle.krb_enc.specs.Opens.{Opens}
use Rattle.krb_msg.specs.Module.{ap_req, enc_ticket_part}
use Rattle.krb_msg.specs.Fields.{encrypted_fields, request_fields}
use Rattle.krb_keytab.specs.Pick.{Choice, chosen, no_name, no_key, no_version}
use Rattle.krb_ap.specs.Opened.{authenticator_usage, entry_key, session_key}

-- the session key is usable, of the authenticator's type, and opens it to this
pub record OpensText (request : ValueOf ap_req) (part : ValueOf enc_ticket_part) (plain : List ℕ) : Type 0 where
  pub usable : IsUsable (session_key part)
  pub same_type : (encrypted_fields (request_fields request).authenticator).etype ≡ (session_key part).etype
  pub opens : Opens (profile_of (session_key part)) (session_key part).bytes authenticator_usage (encrypted_fields (request_fields request).authenticator).cipher plain

-- the key of a chosen entry is usable
abbrev pub IsUsableChoice : Choice → Type 0
IsUsableChoice (chosen entry) = IsUsable (entry_key entry)
IsUsableChoice no_name = Unit {0}
IsUsableChoice no_key = Unit {0}
IsUsableChoice no_version = Unit {0}
