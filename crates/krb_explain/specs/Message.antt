-- Messages, and the lines that explain them.
use Rattle.std.specs.Prelude.{◌≡◌, ℕ, ℤ, pos, ◌-ℤ◌, int_le, unsigned_abs, List, [], ◌∷◌, ◌++◌, length, Option, Some, None, codes, if◌then◌else◌}
use Rattle.std.specs.Fmt.{decimal}
use Rattle.krb_der.specs.Kind.{Kind, ValueOf}
use Rattle.krb_der.specs.Spells.{IsMessage}
use Rattle.krb_der.specs.Fault.{IsFault}
use Rattle.krb_der.specs.declared.fault.Fault.{Fault}
use Rattle.krb_msg.specs.Module.{ap_req, ap_rep, krb_error, principal_name}
use Rattle.krb_msg.specs.Fields.{request_fields, ticket_fields, encrypted_fields, reply_enc_part, principal_in}
use Rattle.krb_explain.specs.Named.{with_name}
use Rattle.krb_explain.specs.Registry.{flags_text, option_names, error_name}
use Rattle.krb_explain.specs.Date.{IsDateLine, shown}
use Rattle.krb_explain.specs.Parts.{head_line, name_line, sealed_line, type_notes}
use Rattle.krb_explain.specs.Faults.{rule_line}
use Rattle.krb_explain.specs.declared.form.Form.{Form}
use Rattle.krb_explain.specs.declared.form.Form.TheVariants.{Request, Reply, Error}

pub data Message : Type 0 where
  request : ValueOf ap_req → Message
  reply : ValueOf ap_rep → Message
  error : ValueOf krb_error → Message
  faulty : Form → Fault → Message

-- the kind of message, and its name
abbrev pub kind_of : Form → Kind
kind_of Request = ap_req
kind_of Reply = ap_rep
kind_of Error = krb_error

abbrev pub form_name : Form → List ℕ
form_name Request = codes "AP-REQ"
form_name Reply = codes "AP-REP"
form_name Error = codes "KRB-ERROR"

-- the bytes aren't a message of the kind, and have this fault
pub record IsNoMessage (kind : Kind) (bytes : List ℕ) (fault : Fault) : Type 0 where
  pub none : (value : ValueOf kind) → ¬ IsMessage kind value bytes
  pub fault_is : IsFault kind bytes fault

-- bytes that are to be a message of this form are this one
abbrev pub IsRead : Form → List ℕ → Message → Type 0
IsRead form bytes (request value) = (form ≡ Request) × IsMessage ap_req value bytes
IsRead form bytes (reply value) = (form ≡ Reply) × IsMessage ap_rep value bytes
IsRead form bytes (error value) = (form ≡ Error) × IsMessage krb_error value bytes
IsRead form bytes (faulty other fault) = (form ≡ other) × IsNoMessage (kind_of other) bytes fault

-- ---- AP-REQ: its options, the service that is asked for, the ticket and the authenticator
abbrev pub request_lines : ℕ → ValueOf ap_req → List (List ℕ)
request_lines size v =
    head_line (codes "AP-REQ") size
    ∷ (codes "options: " ++ flags_text option_names (request_fields v).options)
    ∷ name_line (codes "service") (ticket_fields (request_fields v).ticket).service
    ∷ sealed_line (codes "ticket") (ticket_fields (request_fields v).ticket).enc_part
    ∷ sealed_line (codes "authenticator") (request_fields v).authenticator
    ∷ type_notes (encrypted_fields (ticket_fields (request_fields v).ticket).enc_part).etype

-- ---- AP-REP
abbrev pub reply_lines : ℕ → ValueOf ap_rep → List (List ℕ)
reply_lines size v = head_line (codes "AP-REP") size ∷ sealed_line (codes "reply") (reply_enc_part v) ∷ []

-- ---- KRB-ERROR

-- its values in the order of the fields (RFC 4120, section 5.9.1)
pub record ErrorValues : Type 0 where
  pub ctime : Option ℤ
  pub stime : ℤ
  pub code : ℤ
  pub crealm : Option (List ℕ)
  pub cname : Option (ValueOf principal_name)
  pub realm : List ℕ
  pub sname : ValueOf principal_name
  pub e_text : Option (List ℕ)
  pub e_data : Option (List ℕ)

abbrev pub error_values : ValueOf krb_error → ErrorValues
error_values v = record {
  ctime = v.1.1.0;
  stime = v.1.1.1.1.0;
  code = v.1.1.1.1.1.1.0;
  crealm = v.1.1.1.1.1.1.1.0;
  cname = v.1.1.1.1.1.1.1.1.0;
  realm = v.1.1.1.1.1.1.1.1.1.0;
  sname = v.1.1.1.1.1.1.1.1.1.1.0;
  e_text = v.1.1.1.1.1.1.1.1.1.1.1.0;
  e_data = v.1.1.1.1.1.1.1.1.1.1.1.1.0;
}

abbrev pub code_line : ℤ → List ℕ
code_line code = codes "code: " ++ with_name code (error_name code)

-- the service's text for people
abbrev pub text_lines : Option (List ℕ) → List (List ℕ)
text_lines None = []
text_lines (Some text) = (codes "text: " ++ shown text) ∷ []

-- the client, if its name and its realm are there
abbrev pub client_lines : Option (List ℕ) → Option (ValueOf principal_name) → List (List ℕ)
client_lines (Some realm) (Some name) = name_line (codes "client") (principal_in realm name) ∷ []
client_lines _ _ = []

-- more about the error: only its size is said
abbrev pub data_lines : Option (List ℕ) → List (List ℕ)
data_lines None = []
data_lines (Some bytes) = (codes "data: " ++ (decimal (length bytes) ++ codes " bytes")) ∷ []

-- how many seconds the service's time is after the client's, or before it
abbrev pub order_text : ℤ → List ℕ
order_text seconds = if int_le (pos 0) seconds then codes "after" else codes "before"

abbrev pub difference_line : ℤ → List ℕ
difference_line seconds =
    codes "clock difference: the service's time is " ++ (decimal (unsigned_abs seconds)
    ++ (codes " seconds " ++ (order_text seconds ++ codes " the client's")))

-- the client's time and the difference, if the error has it
pub record AreClientTimes (ctime stime : ℤ) (lines : List (List ℕ)) : Type 0 where
  pub line : List ℕ
  pub line_is : IsDateLine (codes "client's time: ") ctime line
  pub lines_are : lines ≡ line ∷ difference_line (stime -ℤ ctime) ∷ []

abbrev pub MayHaveTimes : Option ℤ → ℤ → List (List ℕ) → Type 0
MayHaveTimes None stime lines = lines ≡ []
MayHaveTimes (Some ctime) stime lines = AreClientTimes ctime stime lines

-- the service's time and that
pub record AreTimes (ctime : Option ℤ) (stime : ℤ) (lines : List (List ℕ)) : Type 0 where
  pub line : List ℕ
  pub others : List (List ℕ)
  pub line_is : IsDateLine (codes "service's time: ") stime line
  pub others_are : MayHaveTimes ctime stime others
  pub lines_are : lines ≡ line ∷ others

abbrev pub error_names : ErrorValues → List (List ℕ)
error_names e = name_line (codes "service") (principal_in e.realm e.sname) ∷ client_lines e.crealm e.cname

-- between the code and the times
abbrev pub error_body : ErrorValues → List (List ℕ)
error_body e = text_lines e.e_text ++ error_names e ++ data_lines e.e_data

pub record AreErrorLines (size : ℕ) (e : ErrorValues) (lines : List (List ℕ)) : Type 0 where
  pub times : List (List ℕ)
  pub times_are : AreTimes e.ctime e.stime times
  pub lines_are : lines ≡ head_line (codes "KRB-ERROR") size ∷ code_line e.code ∷ (error_body e ++ times)

-- ---- all of them

-- the lines of a message of so many bytes
abbrev pub AreLinesOf : ℕ → Message → List (List ℕ) → Type 0
AreLinesOf size (request v) lines = lines ≡ request_lines size v
AreLinesOf size (reply v) lines = lines ≡ reply_lines size v
AreLinesOf size (error v) lines = AreErrorLines size (error_values v) lines
AreLinesOf size (faulty form fault) lines = lines ≡ head_line (form_name form) size ∷ rule_line fault ∷ []

-- the lines explain bytes that are to be a message of this form
pub record ExplainsMessage (form : Form) (bytes : List ℕ) (lines : List (List ℕ)) : Type 0 where
  pub message : Message
  pub read : IsRead form bytes message
  pub lines_are : AreLinesOf (length bytes) message lines
