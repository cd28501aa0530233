-- The lines of a ticket that was opened (RFC 4120, section 5.3): the client, the flags, the type of the session key, the times, the realms
-- between client and service, and the types of authorization data.
use Rattle.std.specs.Prelude.{◌≡◌, ℕ, ℤ, pos, List, [], ◌∷◌, ◌++◌, length, codes, if◌then◌else◌}
use Rattle.std.specs.Ordering.{int_eq}
use Rattle.std.specs.Fmt.{decimal, signed_decimal}
use Rattle.krb_der.specs.Kind.{ValueOf}
use Rattle.krb_msg.specs.Module.{enc_ticket_part, transited_encoding}
use Rattle.krb_msg.specs.Fields.{part_fields, part_times, part_client, type_of, bytes_of}
use Rattle.krb_explain.specs.Date.{shown}
use Rattle.krb_explain.specs.Parts.{name_line, type_text}
use Rattle.krb_explain.specs.Registry.{flags_text, flag_names}
use Rattle.krb_explain_keys.specs.Data.{AreDates, types_text}

abbrev pub ticket_head : ValueOf enc_ticket_part → List (List ℕ)
ticket_head part =
    name_line (codes "ticket's client") (part_client part)
    ∷ (codes "ticket's flags: " ++ flags_text flag_names (part_fields part).flags)
    ∷ (codes "ticket's session key: type " ++ type_text (type_of (part_fields part).key))
    ∷ []

-- type 1 (DOMAIN-X500-COMPRESS: RFC 4120, section 3.3.3.2) has the names of realms; of another type only the size is said
abbrev pub transited_text : ℤ → List ℕ → List ℕ
transited_text type bytes = if int_eq type (pos 1) then codes "'" ++ (shown bytes ++ codes "'") else decimal (length bytes) ++ codes " bytes"

-- the type of the encoding, and the realms in it or its size
abbrev pub transited_line : ValueOf transited_encoding → List ℕ
transited_line transited =
    codes "ticket's transited realms: type " ++ (signed_decimal (type_of transited) ++ (codes ", " ++ transited_text (type_of transited) (bytes_of transited)))

abbrev pub ticket_end : ValueOf enc_ticket_part → List (List ℕ)
ticket_end part =
    transited_line (part_fields part).transited ∷ (codes "ticket's authorization data:" ++ types_text (part_fields part).authorization) ∷ []

pub record AreTicketTimes (part : ValueOf enc_ticket_part) (lines : List (List ℕ)) : Type 0 where
  pub starts : List (List ℕ)
  pub ends : List (List ℕ)
  pub starts_are : AreDates (codes "ticket's authtime: ") (part_times part).authtime (codes "ticket's starttime: ") (part_times part).starttime starts
  pub ends_are : AreDates (codes "ticket's endtime: ") (part_times part).endtime (codes "ticket's renew-till: ") (part_times part).renew_till ends
  pub lines_are : lines ≡ starts ++ ends

pub record AreTicketLines (part : ValueOf enc_ticket_part) (lines : List (List ℕ)) : Type 0 where
  pub times : List (List ℕ)
  pub times_are : AreTicketTimes part times
  pub lines_are : lines ≡ ticket_head part ++ (times ++ ticket_end part)
