-- The client's side: what the reply to an awaited request agrees on.
use Rattle.std.specs.Prelude.{◌≡◌, ◌≢◌, ◌≤◌, ◌⊎◌, ℕ, pos, List, [], ◌++◌, length, IfSome}
use Rattle.krb_name.specs.Text.{text_of}
use Rattle.krb_ap.specs.Finish.{FinishCause, IsAgreed, agreement_of, finish_offset_of}
use Rattle.krb_ap.specs.Request.{Awaited}
use Rattle.krb_ap.specs.World.{IsHeldInEachWorld}
use Rattle.krb_ap.specs.declared.finish.Agreed.{Agreed}
use Rattle.krb_ap.specs.declared.finish.FinishFault.{FinishFault}
use Rattle.krb_ap.specs.declared.finish.FinishFault.TheVariants as reply
use Rattle.krb_c.specs.Answer.{Tells, placed, plain}
use Rattle.krb_c.specs.Codes.{out_of_memory, reply_integrity, reply_malformed, reply_mismatch, reply_type}
use Rattle.krb_c.specs.Known.{is_there, key_bytes, key_type, number_or_zero, span}
use Rattle.krb_c.specs.declared.structs.Answer.{Answer}
use Rattle.krb_c.specs.declared.structs.Agreement.{Agreement}

-- why a reply is refused; 46 is KRB_AP_ERR_MUT_FAIL
abbrev pub finish_answer : FinishFault → Answer
finish_answer reply.MessageType = plain reply_type
finish_answer (reply.Malformed fault) = placed reply_malformed fault.at
finish_answer reply.Integrity = plain reply_integrity
finish_answer reply.Mismatch = record { code = reply_mismatch; kerberos = pos 46; at = 0; size = 0 }
finish_answer reply.OutOfMemory = plain out_of_memory

-- the reply to what is awaited is read, and this is agreed on
pub record Finishes (awaited : Awaited) (bytes : List ℕ) (agreed : Agreed) : Type 0 where
  pub agreed_is : IsAgreed awaited bytes (agreement_of agreed)
  pub held : IsHeldInEachWorld awaited bytes (agreement_of agreed)

-- it is refused
pub record HasReplyFault (awaited : Awaited) (bytes : List ℕ) (answer : Answer) : Type 0 where
  pub fault : FinishFault
  pub cause : fault ≢ reply.OutOfMemory → FinishCause awaited bytes fault
  pub offset : IfSome (finish_offset_of fault) (λ at. at ≤ length bytes)
  pub answer_is : answer ≡ finish_answer fault

-- the client's text, the session key and the service's subkey
abbrev pub agreed_bytes : Agreed → List ℕ
agreed_bytes x = (text_of x.client ++ x.session_key.bytes) ++ key_bytes x.service_subkey

abbrev pub agreement_told : Agreed → Agreement
agreement_told x = record {
  client = span [] (text_of x.client);
  session_key = span (text_of x.client) x.session_key.bytes;
  service_subkey = span (text_of x.client ++ x.session_key.bytes) (key_bytes x.service_subkey);
  service_seq = number_or_zero x.service_seq;
  name_type = x.client.name_type;
  session_type = x.session_key.etype;
  service_subkey_type = key_type x.service_subkey;
  has_service_subkey = is_there x.service_subkey;
  has_service_seq = is_there x.service_seq;
}

-- what is agreed on is returned, or memory is lacking
abbrev pub TellsAgreed : Agreed → Agreement → Agreement → List ℕ → List ℕ → Answer → Type 0
TellsAgreed x = Tells (agreed_bytes x) (agreement_told x)

-- something is agreed on and returned; or the reason is reported
abbrev pub Ends : Awaited → List ℕ → Agreement → Agreement → List ℕ → List ℕ → Answer → Type 0
Ends awaited bytes was is old new answer =
    ((agreed : Agreed) × (Finishes awaited bytes agreed × TellsAgreed agreed was is old new answer))
    ⊎ (HasReplyFault awaited bytes answer × ((is ≡ was) × (new ≡ old)))
