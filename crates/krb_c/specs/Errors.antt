-- What a KRB-ERROR says (RFC 4120, section 5.9.1).
use Rattle.std.specs.Prelude.{◌≡◌, ◌++◌, ℕ, ℤ, pos, Bool, true, false, List, [], Option, Some, None, option_map}
use Rattle.krb_der.specs.declared.fault.Fault.{Fault}
use Rattle.krb_der.specs.Fault.{IsFault}
use Rattle.krb_der.specs.Spells.{IsMessage}
use Rattle.krb_msg.specs.Module.{krb_error}
use Rattle.krb_msg.specs.Owned.{owned_krb_error_of}
use Rattle.krb_msg.specs.declared.krb_error.KrbError.{KrbError as Message}
use Rattle.krb_msg.specs.declared.name.Name.{Name}
use Rattle.krb_name.specs.Text.{text_of}
use Rattle.krb_c.specs.Answer.{Tells, placed, plain}
use Rattle.krb_c.specs.Codes.{error_malformed, out_of_memory}
use Rattle.krb_c.specs.Known.{is_there, number_or_zero, span}
use Rattle.krb_c.specs.declared.structs.Answer.{Answer}
use Rattle.krb_c.specs.declared.structs.KrbError.{KrbError}

abbrev pub seconds_or_zero : Option ℤ → ℤ
seconds_or_zero (Some seconds) = seconds
seconds_or_zero None = pos 0

-- the client's text, if the message has its name and its realm
abbrev pub client_text : Option (List ℕ) → Option Name → List ℕ
client_text (Some realm) (Some name) = text_of (record { realm = realm; name_type = name.name_type; components = name.components })
client_text (Some realm) None = []
client_text None name = []

abbrev pub has_both : Option (List ℕ) → Option Name → Bool
has_both (Some realm) (Some name) = true
has_both (Some realm) None = false
has_both None name = false

abbrev pub bytes_or_none : Option (List ℕ) → List ℕ
bytes_or_none (Some bytes) = bytes
bytes_or_none None = []

abbrev pub data_of : Message → List ℕ
data_of m = bytes_or_none (option_map (λ x. x.items) m.e_data)

-- the texts of the service and of the client, the text for people and the data
abbrev pub names_told : Message → List ℕ
names_told m = text_of m.service ++ client_text m.crealm m.cname

abbrev pub error_bytes : Message → List ℕ
error_bytes m = (names_told m ++ bytes_or_none m.e_text) ++ data_of m

abbrev pub error_told : Message → KrbError
error_told m = record {
  service = span [] (text_of m.service);
  client = span (text_of m.service) (client_text m.crealm m.cname);
  text = span (names_told m) (bytes_or_none m.e_text);
  «data» = span (names_told m ++ bytes_or_none m.e_text) (data_of m);
  stime = record { seconds = m.stime; micros = m.susec };
  ctime = record { seconds = seconds_or_zero m.ctime; micros = number_or_zero m.cusec };
  code = m.error_code;
  service_type = m.service.name_type;
  has_client = has_both m.crealm m.cname;
  has_text = is_there m.e_text;
  has_data = is_there m.e_data;
  has_ctime = is_there m.ctime;
}

-- the bytes are a KRB-ERROR, and what it says is returned; or memory is lacking
pub record HandsError (bytes : List ℕ) (was is : KrbError) (old new : List ℕ) (answer : Answer) : Type 0 where
  pub message : Message
  pub is_message : IsMessage krb_error (owned_krb_error_of message) bytes
  pub tells : Tells (error_bytes message) (error_told message) was is old new answer

-- they are none, and the first fault is reported
pub record HasErrorFault (bytes : List ℕ) (answer : Answer) : Type 0 where
  pub fault : Fault
  pub is_fault : IsFault krb_error bytes fault
  pub answer_is : answer ≡ placed error_malformed fault.at

pub data ReadsError (bytes : List ℕ) (was is : KrbError) (old new : List ℕ) (answer : Answer) : Type 0 where
  found_error : HandsError bytes was is old new answer → ReadsError bytes was is old new answer
  no_error : HasErrorFault bytes answer → is ≡ was → new ≡ old → ReadsError bytes was is old new answer
  no_memory_for_error : answer ≡ plain out_of_memory → is ≡ was → new ≡ old → ReadsError bytes was is old new answer
