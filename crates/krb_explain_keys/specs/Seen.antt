-- What is seen of a request by the entries of a keytab, as far as it opens: the lines, and which causes for refusing it hold. A cause is
-- looked at if what it is about is there: the name, the type and the choice of an entry in each request, the others once the ticket or the
-- authenticator is opened, whatever else is wrong.
use Rattle.std.specs.Prelude.{◌≡◌, ◌≢◌, ◌⊎◌, ◌↔◌, ℕ, ℤ, Bool, true, false, not, IsTrue, List, [], ◌∷◌, ◌++◌, length, codes}
use Rattle.std.specs.Fmt.{decimal}
use Rattle.krb_der.specs.Kind.{ValueOf}
use Rattle.krb_der.specs.Spells.{IsMessage}
use Rattle.krb_enc.specs.Key.{KeyValue, IsKnown, IsUsable}
use Rattle.krb_msg.specs.Module.{ap_req, enc_ticket_part, authenticator}
use Rattle.krb_msg.specs.Fields.{encrypted_fields, part_fields, request_fields}
use Rattle.krb_keytab.specs.Entry.{KeytabEntry}
use Rattle.krb_keytab.specs.Pick.{Choice, chosen, no_name, no_key, no_version}
use Rattle.krb_ap.specs.Setup.{Setup}
use Rattle.krb_ap.specs.Opened.{OpensAs, OpensAuthenticator, SameClient, IsChoiceFor, entry_key, sealed_ticket, sent_at, service_of, session_key, ticket_usage}
use Rattle.krb_ap.specs.Times.{Near, IsEarly, IsLate, IsPathTrusted, IsDataIgnorable, MayBeIgnored}
use Rattle.krb_explain.specs.Parts.{type_text}
use Rattle.krb_explain_keys.specs.Choice.{AreChoiceLines}
use Rattle.krb_explain_keys.specs.Ticket.{AreTicketLines}
use Rattle.krb_explain_keys.specs.Authenticator.{AreAuthenticatorLines}

-- which causes hold of a request before anything is opened, which of its ticket, and which of its authenticator
pub record RequestCauses : Type 0 where
  pub other_type : Bool
  pub no_name : Bool
  pub no_key : Bool
  pub no_version : Bool

pub record TicketCauses : Type 0 where
  pub shut : Bool
  pub early : Bool
  pub late : Bool
  pub untrusted : Bool

pub record AuthenticatorCauses : Type 0 where
  pub unusable : Bool
  pub shut : Bool
  pub mismatched : Bool
  pub skewed : Bool
  pub unignorable : Bool

abbrev pub no_request_causes : RequestCauses
no_request_causes = record { other_type = false; no_name = false; no_key = false; no_version = false }

abbrev pub no_ticket_causes : TicketCauses
no_ticket_causes = record { shut = false; early = false; late = false; untrusted = false }

-- of a ticket that isn't opened, it is known that it isn't
abbrev pub shut_ticket_causes : TicketCauses
shut_ticket_causes = record { shut = true; early = false; late = false; untrusted = false }

abbrev pub no_authenticator_causes : AuthenticatorCauses
no_authenticator_causes = record { unusable = false; shut = false; mismatched = false; skewed = false; unignorable = false }

pub record Sight : Type 0 where
  pub lines : List (List ℕ)
  pub of_request : RequestCauses
  pub of_ticket : TicketCauses
  pub of_authenticator : AuthenticatorCauses

-- if nothing is to be opened, lines alone are seen
pub record SeesNone (sight : Sight) (lines : List (List ℕ)) : Type 0 where
  pub lines_are : sight.lines ≡ lines
  pub ticket_is : sight.of_ticket ≡ no_ticket_causes
  pub authenticator_is : sight.of_authenticator ≡ no_authenticator_causes

-- ---- the authenticator

pub record FindsOfAuthenticator (skew : ℕ) (now : ℤ) (part : ValueOf enc_ticket_part) (auth : ValueOf authenticator)
    (causes : AuthenticatorCauses) : Type 0 where
  pub unusable : causes.unusable ≡ false
  pub shut : causes.shut ≡ false
  pub mismatched : IsTrue causes.mismatched ↔ ¬ SameClient part auth
  pub skewed : IsTrue causes.skewed ↔ ¬ Near (sent_at auth) now skew
  pub unignorable : IsTrue causes.unignorable ↔ ¬ IsDataIgnorable part auth

-- the type of a session key that isn't used, and what to look at
abbrev pub other_type_lines : ℤ → List (List ℕ)
other_type_lines etype =
    (codes "authenticator: not opened, since the session key is of type " ++ type_text etype)
    ∷ codes "note: the service needs session keys of type 19 or 20 (docs/OPERATING.md, Keys)"
    ∷ []

-- the session key isn't usable, or doesn't open it
abbrev pub IsAuthenticatorShut : ValueOf ap_req → ValueOf enc_ticket_part → Type 0
IsAuthenticatorShut request part = (¬ IsUsable (session_key part)) ⊎ ((auth : ValueOf authenticator) → ¬ OpensAuthenticator request part auth)

-- the type and the size of a session key that doesn't have the size of its type
abbrev pub other_size_lines : ℤ → ℕ → List (List ℕ)
other_size_lines etype size =
    (codes "authenticator: not opened, since the session key has " ++ (decimal size ++ (codes " bytes, and one of type " ++ (type_text etype ++ codes " has another size"))))
    ∷ []

-- why a session key isn't usable, if it isn't
pub record AreShutLines (key : KeyValue) (lines : List (List ℕ)) : Type 0 where
  pub of_usable : IsUsable key → lines ≡ codes "authenticator: the session key doesn't open it" ∷ []
  pub of_known : ¬ IsUsable key → IsKnown key.etype → lines ≡ other_size_lines key.etype (length key.bytes)
  pub of_others : ¬ IsUsable key → ¬ IsKnown key.etype → lines ≡ other_type_lines key.etype

-- a usable session key doesn't open it, or it is of another type than the session key; if neither is so, nothing is known
abbrev pub IsNotOpenable : ValueOf ap_req → ValueOf enc_ticket_part → Type 0
IsNotOpenable request part =
    IsUsable (session_key part) ⊎ ((encrypted_fields (request_fields request).authenticator).etype ≢ (session_key part).etype)

-- the causes of an authenticator that isn't opened; of authorization data, the ticket's is known
pub record FindsOfShut (request : ValueOf ap_req) (part : ValueOf enc_ticket_part) (causes : AuthenticatorCauses) : Type 0 where
  pub unusable : IsTrue causes.unusable ↔ ¬ IsUsable (session_key part)
  pub shut : IsTrue causes.shut ↔ IsNotOpenable request part
  pub mismatched : causes.mismatched ≡ false
  pub skewed : causes.skewed ≡ false
  pub unignorable : IsTrue causes.unignorable ↔ ¬ MayBeIgnored (part_fields part).authorization

pub record SeesNoAuthenticator (request : ValueOf ap_req) (part : ValueOf enc_ticket_part) (lines : List (List ℕ)) (causes : AuthenticatorCauses) : Type 0 where
  pub shut : IsAuthenticatorShut request part
  pub lines_are : AreShutLines (session_key part) lines
  pub finds : FindsOfShut request part causes

pub record SeesOpenedAuthenticator (setup : Setup) (now : ℤ) (request : ValueOf ap_req) (part : ValueOf enc_ticket_part) (lines : List (List ℕ))
    (causes : AuthenticatorCauses) : Type 0 where
  pub auth : ValueOf authenticator
  pub usable : IsUsable (session_key part)
  pub opens : OpensAuthenticator request part auth
  pub lines_are : AreAuthenticatorLines now auth lines
  pub finds : FindsOfAuthenticator setup.skew now part auth causes

abbrev pub SeesAuthenticator : Setup → ℤ → ValueOf ap_req → ValueOf enc_ticket_part → List (List ℕ) → AuthenticatorCauses → Type 0
SeesAuthenticator setup now request part lines causes =
    SeesNoAuthenticator request part lines causes ⊎ SeesOpenedAuthenticator setup now request part lines causes

-- ---- the ticket

pub record FindsOfTicket (skew : ℕ) (now : ℤ) (request : ValueOf ap_req) (part : ValueOf enc_ticket_part) (causes : TicketCauses) : Type 0 where
  pub shut : causes.shut ≡ false
  pub early : IsTrue causes.early ↔ IsEarly part now skew
  pub late : IsTrue causes.late ↔ IsLate part now skew
  pub untrusted : IsTrue causes.untrusted ↔ ¬ IsPathTrusted request part

abbrev pub OpensTicket : KeytabEntry → ValueOf ap_req → ValueOf enc_ticket_part → Type 0
OpensTicket entry request part = OpensAs (entry_key entry) ticket_usage (encrypted_fields (sealed_ticket request)).cipher enc_ticket_part part

pub record SeesShut (sight : Sight) : Type 0 where
  pub lines_are : sight.lines ≡ codes "ticket: the entry's key doesn't open it" ∷ []
  pub ticket_is : sight.of_ticket ≡ shut_ticket_causes
  pub authenticator_is : sight.of_authenticator ≡ no_authenticator_causes

pub record SeesNoTicket (entry : KeytabEntry) (request : ValueOf ap_req) (sight : Sight) : Type 0 where
  pub shut : (part : ValueOf enc_ticket_part) → ¬ OpensTicket entry request part
  pub sees : SeesShut sight

pub record SeesOpenedTicket (setup : Setup) (now : ℤ) (entry : KeytabEntry) (request : ValueOf ap_req) (sight : Sight) : Type 0 where
  pub part : ValueOf enc_ticket_part
  pub head : List (List ℕ)
  pub rest : List (List ℕ)
  pub opens : OpensTicket entry request part
  pub head_are : AreTicketLines part head
  pub finds : FindsOfTicket setup.skew now request part sight.of_ticket
  pub rest_are : SeesAuthenticator setup now request part rest sight.of_authenticator
  pub lines_are : sight.lines ≡ head ++ rest

abbrev pub SeesTicket : Setup → ℤ → KeytabEntry → ValueOf ap_req → Sight → Type 0
SeesTicket setup now entry request sight = SeesNoTicket entry request sight ⊎ SeesOpenedTicket setup now entry request sight

-- ---- the keytab's entry

pub record SeesChosen (setup : Setup) (now : ℤ) (entry : KeytabEntry) (request : ValueOf ap_req) (sight : Sight) (lines : List (List ℕ)) : Type 0 where
  pub inner : Sight
  pub inner_is : SeesTicket setup now entry request inner
  pub lines_are : sight.lines ≡ lines ++ inner.lines
  pub ticket_is : sight.of_ticket ≡ inner.of_ticket
  pub authenticator_is : sight.of_authenticator ≡ inner.of_authenticator

abbrev pub SeesByChoice : Setup → ℤ → ValueOf ap_req → Choice → Sight → List (List ℕ) → Type 0
SeesByChoice setup now request (chosen entry) sight lines = SeesChosen setup now entry request sight lines
SeesByChoice setup now request no_name sight lines = SeesNone sight lines
SeesByChoice setup now request no_key sight lines = SeesNone sight lines
SeesByChoice setup now request no_version sight lines = SeesNone sight lines

-- the lines of the choice for a request
abbrev pub AreLinesFor : Setup → ValueOf ap_req → Choice → List (List ℕ) → Type 0
AreLinesFor setup request choice lines =
    AreChoiceLines setup.entries (service_of request) (encrypted_fields (sealed_ticket request)).etype (encrypted_fields (sealed_ticket request)).kvno choice lines

-- of a type other than 19 and 20 there is never a key, so that isn't a cause of its own
abbrev pub choice_causes : Bool → Choice → RequestCauses
choice_causes known (chosen entry) = record { other_type = not known; no_name = false; no_key = false; no_version = false }
choice_causes known no_name = record { other_type = not known; no_name = true; no_key = false; no_version = false }
choice_causes known no_key = record { other_type = not known; no_name = false; no_key = known; no_version = false }
choice_causes known no_version = record { other_type = not known; no_name = false; no_key = false; no_version = true }

pub record FindsOfRequest (etype : ℤ) (choice : Choice) (causes : RequestCauses) : Type 0 where
  pub known : Bool
  pub known_is : IsTrue known ↔ IsKnown etype
  pub causes_are : causes ≡ choice_causes known choice

pub record SeesRequest (setup : Setup) (now : ℤ) (request : ValueOf ap_req) (sight : Sight) : Type 0 where
  pub choice : Choice
  pub lines : List (List ℕ)
  pub choice_is : IsChoiceFor setup request choice
  pub lines_are : AreLinesFor setup request choice lines
  pub sees : SeesByChoice setup now request choice sight lines
  pub finds : FindsOfRequest (encrypted_fields (sealed_ticket request)).etype choice sight.of_request

-- ---- the request

pub record SeesMessage (setup : Setup) (now : ℤ) (bytes : List ℕ) (sight : Sight) : Type 0 where
  pub request : ValueOf ap_req
  pub message : IsMessage ap_req request bytes
  pub sees : SeesRequest setup now request sight

pub record SeesNoMessage (bytes : List ℕ) (sight : Sight) : Type 0 where
  pub none : (request : ValueOf ap_req) → ¬ IsMessage ap_req request bytes
  pub sees : SeesNone sight []
  pub request_is : sight.of_request ≡ no_request_causes

abbrev pub Sees : Setup → ℤ → List ℕ → Sight → Type 0
Sees setup now bytes sight = SeesNoMessage bytes sight ⊎ SeesMessage setup now bytes sight
